-- The LEBs of a volume, stored one after the other. Assumes nothing.
use mathlib.Core.Path.{◌≡◌}
use mathlib.Core.Bool.{true}
use mathlib.Core.List.{List}
use Prim.Native.Nat.{ℕ, ◌+◌, ◌-◌, ◌*◌, ◌≤◌, min}
use native.Mathlib.Nat.{add-sub_cancel_left}
use native.Mathlib.Omega.{arith}
use lib.ListN.{length, take, drop, length-take, length-drop}
use Rattle.base.proofs.Lists.{lent_part}
use Rattle.base.proofs.Stores.{take_min}
use Rattle.field.specs.Fields.{row, number_in}
use Rattle.volume_record.specs.Fields.{record_fields}
use Rattle.volume_record.specs.Record.{record_of}
use Rattle.volume_table.specs.Table.{record_at}
use Rattle.geometry.specs.Placed.{Placed}
use Rattle.geometry.specs.declared.Geometry.{Geometry}
use Rattle.header.specs.Fields.{is_good}
use Rattle.header.specs.Vid.{judge_vid}
use Rattle.header.specs.declared.EcHeader.{EcHeader}
use Rattle.header.specs.declared.VidHeader.{VidHeader}
use Rattle.builder_rules.specs.Blocks.{used_peb, user_vid}
use Rattle.builder_rules.specs.Filling.{Shaped}
use Rattle.builder_rules.specs.declared.VolumeShape.{VolumeShape}
use Rattle.builder_rules.proofs.Headers.{user_good}
use Rattle.builder_rules.proofs.Pebs.{used_length}
use Rattle.builder_fill.specs.Pebs.{bytes_of, leb_peb}

-- a record's numbers, read in the table
module _ (t : List ℕ) (v : ℕ) where
  abbrev there : List ℕ
  there = take (172 * v + 172 - 172 * v) (drop (172 * v) t)

  pub pad_read : {x : ℕ} → x ≡ number_in (row record_fields 2) there → x ≡ (record_of (record_at t v)).data_pad
  unfolding record_of
  pad_read e = rw lent_part at e

  pub type_read : {x : ℕ} → x ≡ number_in (row record_fields 3) there → x ≡ (record_of (record_at t v)).vol_type
  unfolding record_of
  type_read e = rw lent_part at e

module _ (g : Geometry) (v : VolumeShape) (content : List ℕ) where
  abbrev room : ℕ
  room = g.leb_size - v.data_pad

  -- the bytes of LEB l, as they are lent
  pub lent_bytes : (l : ℕ) {n : ℕ} → n ≡ min room (length content - l * room)
      → take (l * room + n - l * room) (drop (l * room) content) ≡ bytes_of g v content l
  lent_bytes l q =
      rw (add-sub_cancel_left, q, ← length-drop (l * room) content) (take_min room (drop (l * room) content))

  pub bytes_small : (l : ℕ) → length (bytes_of g v content l) ≤ g.leb_size
  bytes_small l = omega (arith, length-take room (drop (l * room) content))

  module _ (p : Placed g) (e : EcHeader) (first : ℕ) where
    pub peb_length : (l : ℕ) → length (leb_peb g e v content first l) ≡ g.peb_size
    unfolding leb_peb
    peb_length l = used_length g p e _ (bytes_of g v content l) (bytes_small l)

    -- with its header, they make its PEB
    module _ (l : ℕ) {h : VidHeader} {bytes : List ℕ} (bytes-are : bytes ≡ bytes_of g v content l)
        (header-is : h ≡ user_vid v (first + l + 1) l bytes) where
      pub header_good : Shaped g.leb_size v l (bytes_of g v content l) → is_good (judge_vid g.leb_size h) ≡ true
      header_good s =
          rw (header-is, bytes-are, user_good g.leb_size v l (bytes_of g v content l) s (first + l + 1))

      pub peb_is : used_peb g e h bytes ≡ leb_peb g e v content first l
      unfolding leb_peb
      peb_is = rw (header-is, bytes-are)
