-- 01's bench move, its EC header, by computation; with image sequences of 02. Assumes nothing.
use mathlib.Core.Path.{◌≡◌, refl}
use mathlib.Core.Bool.{true}
use mathlib.Core.List.{List, [], ◌∷◌}
use Prim.Native.Nat.{ℕ}
use lib.ListN.{get_or}
use Rattle.geometry.specs.Geometry.{round_up, vid_start_of, data_start_of, leb_size_of, make_geometry}
use Rattle.report.specs.View.{Copy, ec_good, vid_blank, Views, Medium}
use Rattle.report.specs.Scan.{image_seq_of}
use Rattle.mover_rules.specs.Headers.{old_counter, new_ec}
use Rattle.mover_rules.specs.Begin.{make_plan}

-- four PEBs "with counters 3, 5, 9, 4"; PEB 1 alone has an image sequence: neither the first, the old one nor the
-- target
views : Views
views i = record {
  ec = ec_good (record {
    version = 1;
    counter = get_or (3 ∷ 5 ∷ 9 ∷ 4 ∷ []) i 0;
    vid_start = 64;
    data_start = 128;
    image_seq = get_or (0 ∷ 7 ∷ 0 ∷ 0 ∷ []) i 0;
  });
  vid = vid_blank;
  clean = true;
}

medium : Medium
medium = record { geometry = make_geometry 1024 1 1; count = 4; views = views }

-- "free with 10"; 02 2026-02: the image's sequence, though the move is from PEB 2 to PEB 3
bench_ec :
    (c : Copy)
    → ◌≡◌ {A = List ℕ} ((make_plan medium 3 2 c).ec.counter ∷ (make_plan medium 3 2 c).ec.image_seq ∷ []) (10 ∷ 7 ∷ [])
unfolding views medium make_plan new_ec old_counter image_seq_of make_geometry vid_start_of data_start_of leb_size_of round_up
bench_ec c = refl
