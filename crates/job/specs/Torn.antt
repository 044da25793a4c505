-- The bytes of a PEB that a power-cut premise looks at. Assumes nothing.
use Rattle.std.specs.Prelude.{ℕ, Bool, not, ◌||◌, List, take}
use Rattle.base.specs.Lists.{part}
use Rattle.geometry.specs.declared.Geometry.{Geometry}
use Rattle.header.specs.Fields.{crc_matches}
use Rattle.report.specs.View.{all_ff, vid_part, peb_at}

-- the bytes in the place of PEB i's EC header, of its VID header, and of a data run of so many bytes
abbrev pub ec_at : Geometry → List ℕ → ℕ → List ℕ
ec_at g image i = take 64 (peb_at g image i)

abbrev pub vid_at : Geometry → List ℕ → ℕ → List ℕ
vid_at g image i = vid_part g (peb_at g image i)

abbrev pub run_at : Geometry → ℕ → List ℕ → ℕ → List ℕ
run_at g size image i = part g.data_start size (peb_at g image i)

-- 64 bytes in a header's place, which are whole or not: those that are not have a CRC field unlike the CRC of bytes
-- 0-59. 0xFF alone need not be named: its CRC field never matches, so the premise is the same with and without it
abbrev pub unlike : Bool → List ℕ → Bool
unlike is_whole h = is_whole || (all_ff h || not (crc_matches h))
