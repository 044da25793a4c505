-- 01 'The mover's steps': the headers that a move writes. Assumes nothing.
use Rattle.std.specs.Prelude.{ℕ, suc, ◌+◌, Bool, cond, List, [], ◌∷◌, eqb, take}
use Rattle.crc32.specs.Crc.{crc_of}
use Rattle.geometry.specs.Geometry.{round_up}
use Rattle.geometry.specs.declared.Geometry.{Geometry}
use Rattle.header.specs.declared.EcHeader.{EcHeader}
use Rattle.header.specs.declared.VidHeader.{VidHeader}
use Rattle.report.specs.View.{Copy, Medium, ecs, all_ff}
use Rattle.report.specs.Scan.{image_seq_of}
use Rattle.report.specs.Volumes.{content_of}
use Rattle.report.specs.Report.{counter_or, mean_of}

-- a copy of a static volume
abbrev pub is_static : Copy → Bool
is_static c = eqb c.header.vol_type 2

-- "the place after the last non-0xFF byte"
unfoldable pub data_end : List ℕ → ℕ
data_end [] = 0
data_end (b ∷ bs) = cond (all_ff (b ∷ bs)) 0 (suc (data_end bs))

-- "Static keeps data size and CRC, flag 1. Dynamic: data size is the place after the last non-0xFF byte of the first
-- (LEB size less pad) bytes, rounded up to the unit, with its CRC and flag 1; if that is 0, flag, size and CRC are 0."
-- These bytes are the LEB's content: "A LEB's content is its first (LEB size less pad) bytes, or data size bytes if
-- static."
unfoldable pub new_size : Geometry → Copy → ℕ
new_size g c = cond (is_static c) c.header.data_size (round_up g.unit (data_end (content_of g c)))

unfoldable pub new_flag : Geometry → Copy → ℕ
new_flag g c = cond (is_static c) 1 (cond (eqb (new_size g c) 0) 0 1)

unfoldable pub new_crc : Geometry → Copy → ℕ
new_crc g c = cond (is_static c) c.header.data_crc (cond (eqb (new_size g c) 0) 0 (crc_of (take (new_size g c) c.body)))

-- "The new VID header keeps volume, LEB, type, compatibility, used LEBs and pad; sequence is highest plus 1. Both new
-- headers have version 1 and zero padding"
unfoldable pub new_vid : Geometry → ℕ → Copy → VidHeader
new_vid g highest c = record {
  version = 1;
  vol_type = c.header.vol_type;
  copy_flag = new_flag g c;
  compat = c.header.compat;
  volume = c.header.volume;
  lnum = c.header.lnum;
  data_size = new_size g c;
  used_lebs = c.header.used_lebs;
  data_pad = c.header.data_pad;
  data_crc = new_crc g c;
  sequence = highest + 1;
}

-- "the old PEB's counter (mean if lost)"
unfoldable pub old_counter : Medium → ℕ → ℕ
old_counter m old = counter_or (mean_of m) (ecs m.views old)

-- "the EC header has the geometry's starts and the image sequence that refusal 7 compares with", "or zero if there is
-- none" (02 2026-02); "with counter (mean if lost) plus 1"
unfoldable pub new_ec : Medium → ℕ → EcHeader
new_ec m old = record {
  version = 1;
  counter = old_counter m old + 1;
  vid_start = m.geometry.vid_start;
  data_start = m.geometry.data_start;
  image_seq = image_seq_of m.count m.views;
}
