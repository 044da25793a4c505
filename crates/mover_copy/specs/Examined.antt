-- What the contracts here cite; no public promise names it. Assumes nothing.
use Rattle.std.specs.Prelude.{◌≡◌, ℕ, ◌+◌, ◌≤◌, Bool, not, ◌&&◌, ◌||◌, eqb, List, length}
use Rattle.geometry.specs.declared.Geometry.{Geometry}
use Rattle.geometry.specs.Placed.{Placed}
use Rattle.header.specs.declared.VidHeader.{VidHeader}
use Rattle.report.specs.View.{Copy}
use Rattle.mover_rules.specs.Headers.{new_size, new_flag, new_crc}
use Rattle.mover_copy.specs.declared.Examined.{Examined}

-- the bytes p of a PEB are whole, and hold the data of a copy with the header h
pub record Fits (g : Geometry) (p : List ℕ) (h : VidHeader) : Type 0 where
  pub placed : Placed g
  pub whole : length p ≡ g.peb_size
  pub pad_fits : h.data_pad ≤ g.leb_size
  pub data_fits : g.data_start + h.data_size ≤ length p

-- refusal 15's test of a copy with this header, whose data CRC matches or not
abbrev pub damaged_as : VidHeader → Bool → Bool
damaged_as h m = not (eqb h.copy_flag 0 || m) || (eqb h.vol_type 2 && not m)

abbrev pub is_damaged : Copy → Bool
is_damaged c = damaged_as c.header c.matches

-- what is found of a copy
abbrev pub examined : Geometry → Copy → Examined
examined g c = record { damaged = is_damaged c; flag = new_flag g c; size = new_size g c; crc = new_crc g c }

-- a header with another flag, data size, data CRC and sequence
abbrev pub renewed_as : VidHeader → Examined → ℕ → VidHeader
renewed_as h found sequence = record {
  version = 1;
  vol_type = h.vol_type;
  copy_flag = found.flag;
  compat = h.compat;
  volume = h.volume;
  lnum = h.lnum;
  data_size = found.size;
  used_lebs = h.used_lebs;
  data_pad = h.data_pad;
  data_crc = found.crc;
  sequence = sequence;
}
