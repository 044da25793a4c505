-- 02 2026-01: the PEBs of a filled image, "from PEB 0 up". Assumes nothing.
use Rattle.std.specs.Prelude.{ℕ, zero, suc, ◌+◌, ◌-◌, ◌*◌, ◌/◌, Bool, cond, List, eqb, ltb, length, get_or, replicate}
use Rattle.std.proofs.Math.Option.{Option, none, some}
use Rattle.base.specs.Below.{sum_below, concat_below}
use Rattle.base.specs.Lists.{part, put}
use Rattle.crc32.specs.Crc.{crc_of}
use Rattle.geometry.specs.declared.Geometry.{Geometry}
use Rattle.header.specs.Ec.{ec_bytes}
use Rattle.header.specs.Vid.{vid_bytes, layout_volume}
use Rattle.header.specs.declared.EcHeader.{EcHeader}
use Rattle.header.specs.declared.VidHeader.{VidHeader}
use Rattle.volume_record.specs.Record.{record_of}
use Rattle.volume_record.specs.declared.VolumeRecord.{VolumeRecord}
use Rattle.volume_table.specs.Table.{record_at}
use Rattle.builder_rules.specs.declared.VolumeShape.{VolumeShape}

-- ---- one PEB

-- "EC headers ..; counter 0 everywhere"; version 1, the only one that attaches
unfoldable pub built_ec : Geometry → ℕ → EcHeader
built_ec g seq = record {
  version = 1;
  counter = 0;
  vid_start = g.vid_start;
  data_start = g.data_start;
  image_seq = seq;
}

-- "EC headers alone; .. all else 0xFF"
unfoldable pub free_peb : Geometry → EcHeader → List ℕ
free_peb g e = put 0 (ec_bytes e) (replicate g.peb_size 0xFF)

-- a PEB with both headers and the bytes of a LEB; "all else 0xFF"
unfoldable pub used_peb : Geometry → EcHeader → VidHeader → List ℕ → List ℕ
used_peb g e h bytes = put g.data_start bytes (put g.vid_start (vid_bytes h) (free_peb g e))

-- the VID header of layout LEB l; 01: "volume 0x7FFFEFFF (layout): type 1, compatibility 5, pad 0, LEB 0 or 1", and as
-- a dynamic one with "copy flag 0" used LEBs, data size and CRC are 0
unfoldable pub layout_vid : ℕ → ℕ → VidHeader
layout_vid seq l = record {
  version = 1;
  vol_type = 1;
  copy_flag = 0;
  compat = 5;
  volume = layout_volume;
  lnum = l;
  data_size = 0;
  used_lebs = 0;
  data_pad = 0;
  data_crc = 0;
  sequence = seq;
}

-- that of LEB l of a volume, with its bytes: "copy flag 0"; 01: "volume below 128 with compatibility 0"; "static: LEB
-- below used LEBs, data size above 0, ..", "dynamic: used LEBs 0; with copy flag 0, data size and CRC 0"
unfoldable pub user_vid : VolumeShape → ℕ → ℕ → List ℕ → VidHeader
user_vid v seq l bytes = record {
  version = 1;
  vol_type = v.vol_type;
  copy_flag = 0;
  compat = 0;
  volume = v.volume;
  lnum = l;
  data_size = cond (eqb v.vol_type 2) (length bytes) 0;
  used_lebs = cond (eqb v.vol_type 2) v.lebs 0;
  data_pad = v.data_pad;
  data_crc = cond (eqb v.vol_type 2) (crc_of bytes) 0;
  sequence = seq;
}

-- ---- the order of the LEBs

-- volume and LEB of block k, counted from 0 behind the layout's, of the volumes below the first number, where volume v
-- has m v LEBs: "each volume's LEBs in order"; none behind the last
abbrev pub key_below : ℕ → (ℕ → ℕ) → ℕ → Option (ℕ × ℕ)
key_below zero m k = none
key_below (suc v) m k =
    cond (ltb k (sum_below v m)) (key_below v m k) (cond (ltb k (sum_below v m + m v)) (some (v, k - sum_below v m)) none)

-- the number, so counted, of the block of LEB l of volume v
abbrev pub block_no : (ℕ → ℕ) → ℕ → ℕ → ℕ
block_no m v l = sum_below v m + l

-- ---- all of them

-- what an image is filled with: the volumes' number and table, and their contents "(one after another, with a list of
-- lengths)"
pub record BuildPlan : Type 0 where
  pub geometry : Geometry
  pub image_seq : ℕ
  pub volumes : ℕ
  pub table : List ℕ
  pub lengths : List ℕ
  pub contents : List ℕ

-- x over m (above 0), rounded up: exactly the numbers below it are multiplied by m below x (`ceiling_below`,
-- `below_ceiling` of proofs/Numbers.antt)
unfoldable pub ceiling : ℕ → ℕ → ℕ
ceiling m x = (x + (m - 1)) / m

module _ (b : BuildPlan) where
  -- volume v, as its record in the table says; where building accepts, that is the record of volume field v
  -- (`table_given`, `records_given` of builder_attaches)
  unfoldable pub volume_of : ℕ → VolumeRecord
  volume_of v = record_of (record_at b.table v)

  abbrev pub is_static : ℕ → Bool
  is_static v = eqb (volume_of v).vol_type 2

  abbrev pub length_of : ℕ → ℕ
  length_of v = get_or b.lengths v 0

  -- "the volumes' contents (one after another ..)": that of volume v
  unfoldable pub volume_content : ℕ → List ℕ
  volume_content v = part (sum_below v length_of) (length_of v) b.contents

  -- 01: "LEB size less pad"
  abbrev pub room : ℕ → ℕ
  room v = b.geometry.leb_size - (volume_of v).data_pad

  -- the number of LEBs of volume v: "as far as its content goes"
  unfoldable pub lebs_of : ℕ → ℕ
  lebs_of v = ceiling (room v) (length_of v)

  -- the bytes of LEB l; those of the last may be fewer
  unfoldable pub leb_data : ℕ → ℕ → List ℕ
  leb_data v l = part (l * room v) (room v) (volume_content v)

  abbrev pub shape_of : ℕ → VolumeShape
  shape_of v = record {
    volume = v;
    vol_type = (volume_of v).vol_type;
    data_pad = (volume_of v).data_pad;
    lebs = lebs_of v;
  }

  abbrev pub plan_ec : EcHeader
  plan_ec = built_ec b.geometry b.image_seq

  -- a PEB behind the layout's: that of a volume and LEB, or free
  abbrev pub user_peb : ℕ → Option (ℕ × ℕ) → List ℕ
  user_peb seq none = free_peb b.geometry plan_ec
  user_peb seq (some x) =
      used_peb b.geometry plan_ec (user_vid (shape_of x.0) seq x.1 (leb_data x.0 x.1)) (leb_data x.0 x.1)

  -- the bytes of a PEB: "layout LEBs 0 and 1 with equal tables .., then each volume's LEBs in order .., sequences
  -- from 1 in that order; then EC headers alone"
  unfoldable pub block_bytes : ℕ → List ℕ
  block_bytes zero = used_peb b.geometry plan_ec (layout_vid 1 0) b.table
  block_bytes (suc zero) = used_peb b.geometry plan_ec (layout_vid 2 1) b.table
  block_bytes (suc (suc k)) = user_peb (k + 3) (key_below b.volumes lebs_of k)

  -- "fills a lent image from PEB 0 up": an image of n PEBs
  unfoldable pub built_image : ℕ → List ℕ
  built_image n = concat_below n block_bytes
