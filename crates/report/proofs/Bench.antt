-- 01 'Bench values': the cases marked P, in one table and one statement; image sequences of 02. Assumes nothing.
use mathlib.Core.Path.{◌≡◌, refl}
use mathlib.Core.Bool.{true}
use mathlib.Core.Option.{Option, none, some}
use mathlib.Core.List.{List, [], ◌∷◌, ◌++◌, map}
use Prim.Native.Nat.{ℕ, ◌+◌}
use lib.ListN.{get_or, replicate}
use Rattle.field.specs.Be.{be_from, to_be_on, to_be}
use Rattle.crc32.specs.Crc.{tap, crc_bit, crc_bits, crc_byte, crc_from, crc_of}
use Rattle.geometry.specs.declared.Geometry.{Geometry}
use Rattle.geometry.specs.Geometry.{round_up, vid_start_of, data_start_of, leb_size_of, make_geometry}
use Rattle.volume_record.specs.Record.{record_of}
use Rattle.volume_table.specs.Table.{record_count}
use Rattle.report.specs.View.{Copy, ec_good, vid_blank, View, Medium, copy_of}
use Rattle.report.specs.Scan.{Refusal, image_seq_of, view_refusal, refusal5678}
use Rattle.report.specs.Choice.{pick, chosen}
use Rattle.report.specs.Volumes.{face_of, faces_of, record_for, used_of, state_of}
use Rattle.report.specs.Report.{mean_of}

-- a chip of unit 1 and sub_unit 1
chip : Geometry
chip = make_geometry 1024 1 1

-- a free PEB with this counter and image sequence
free_peb : ℕ → ℕ → View
free_peb c seq = record {
  ec = ec_good (record { version = 1; counter = c; vid_start = 64; data_start = 128; image_seq = seq });
  vid = vid_blank;
  clean = true;
}

-- the data run "abc", and a PEB that holds it
abc : List ℕ
abc = 0x61 ∷ 0x62 ∷ 0x63 ∷ []

peb : List ℕ
peb = replicate 128 0xFF ++ abc ++ replicate 893 0xFF

-- a copy of dynamic volume 0, LEB 0, in that PEB: copy flag, data size, data CRC and sequence
copy : ℕ → ℕ → ℕ → ℕ → Copy
copy flag size crc sequence = copy_of chip peb (record {
  version = 1;
  vol_type = 1;
  copy_flag = flag;
  compat = 0;
  volume = 0;
  lnum = 0;
  data_size = size;
  used_lebs = 0;
  data_pad = 0;
  data_crc = crc;
  sequence = sequence;
})

-- flag 0; flag 1 with the CRC right; flag 1 with the CRC wrong
plain : ℕ → Copy
plain sequence = copy 0 0 0 sequence

right : ℕ → Copy
right sequence = copy 1 3 (crc_of abc) sequence

wrong : ℕ → Copy
wrong sequence = copy 1 3 (crc_of abc + 1) sequence

-- the copies of a list, PEB by PEB
among : List Copy → ℕ → Option Copy
among l i = get_or (map some l) i none

-- the sequence of the copy of volume 0, LEB 0 that is chosen among those of two PEBs; 0 where there is none
chosen_of : List Copy → ℕ
chosen_of l = sequence_of (chosen 2 (among l) 0 0)
  where
    sequence_of : Option (ℕ × Copy) → ℕ
    sequence_of none = 0
    sequence_of (some x) = x.1.header.sequence

-- a table of one record, "reserved 1": dynamic, alignment 1, pad 0, marker 0, name "log", flags 0, and its CRC
record_head : List ℕ
record_head =
    to_be 4 1 ++ to_be 4 1 ++ to_be 4 0 ++ to_be 1 1 ++ to_be 1 0 ++ to_be 2 3 ++
    (0x6C ∷ 0x6F ∷ 0x67 ∷ []) ++ replicate 125 0 ++ to_be 1 0 ++ replicate 23 0

records : List ℕ
records = record_head ++ to_be 4 (crc_of record_head)

-- what is computed, and what 01 says
pub bench_table : List (ℕ × ℕ)
bench_table =
    -- "unit 1/sub 1: VID 64, data 128. 2,048/512: 512, 2,048. 2,048/2,048: 2,048, 4,096. 128/32: 64, 128."
    (vid_start_of 1, 64) ∷ (data_start_of 1 1, 128)
    ∷ (vid_start_of 512, 512) ∷ (data_start_of 2048 512, 2048)
    ∷ (vid_start_of 2048, 2048) ∷ (data_start_of 2048 2048, 4096)
    ∷ (vid_start_of 32, 64) ∷ (data_start_of 128 32, 128)
    -- "LEB 896 holds 5 records; 172 holds 1; 129,024 holds 128."
    ∷ (record_count 896, 5) ∷ (record_count 172, 1) ∷ (record_count 129024, 128)
    -- "Counters 3, 5, 9: mean 5."
    ∷ (mean_of (record { geometry = chip; count = 3; views = λ i. free_peb (get_or (3 ∷ 5 ∷ 9 ∷ []) i 0) 0 }), 5)
    -- "sequences 7 (flag 0) and 8 (flag 1, CRC wrong): 7. Both unsound: 7. 8 sound: 8."
    ∷ (chosen_of (plain 7 ∷ wrong 8 ∷ []), 7) ∷ (chosen_of (wrong 7 ∷ wrong 8 ∷ []), 7) ∷
    (chosen_of (plain 7 ∷ right 8 ∷ []), 8)
    -- "One unsound copy alone: chosen, state 3."
    ∷ (chosen_of (wrong 8 ∷ []), 8) ∷ (state_of records (faces_of chip 1 (among (wrong 8 ∷ []))) 0, 3) ∷ []

pub bench_values : map (λ x. x.0) bench_table ≡ map (λ x. x.1) bench_table
unfolding bench_table tap crc_bit crc_bits crc_byte crc_from round_up vid_start_of data_start_of leb_size_of make_geometry record_count mean_of
    free_peb chosen_of chosen pick among plain right wrong copy copy_of peb abc chip records record_head
    state_of record_for record_of used_of faces_of face_of be_from to_be_on
bench_values = refl

-- three free PEBs with these image sequences: the one compared with, and the refusal
sequences : List ℕ → ℕ × Option Refusal
sequences l = let m = three in (image_seq_of m.count m.views, refusal5678 m)
  where
    three : Medium
    three = record { geometry = chip; count = 3; views = λ i. free_peb 0 (get_or l i 0) }

-- 02 2026-02: a zero first, between, last and everywhere; "only nonzero values must agree"
bench_sequences :
    ◌≡◌ {A = List (ℕ × Option Refusal)}
    (map sequences
    ((0 ∷ 7 ∷ 7 ∷ []) ∷ (7 ∷ 0 ∷ 7 ∷ []) ∷ (7 ∷ 7 ∷ 0 ∷ []) ∷ (0 ∷ 0 ∷ 0 ∷ []) ∷ (0 ∷ 7 ∷ 8 ∷ []) ∷ []))
    ((7, none) ∷ (7, none) ∷ (7, none) ∷ (0, none) ∷ (7, some (record { number = 7; place = 2 })) ∷ [])
unfolding sequences image_seq_of view_refusal refusal5678 free_peb chip make_geometry vid_start_of data_start_of leb_size_of round_up
bench_sequences = refl
