-- A record that was written reads back. Assumes nothing.
use mathlib.Core.Path.{◌≡◌, refl, sym, ap, ◌∙◌}
use mathlib.Core.Bool.{true}
use mathlib.Core.List.{List, ◌++◌, append_assoc}
use Prim.Native.Nat.{ℕ, ◌<◌, ◌^◌}
use native.Mathlib.Omega.{arith}
use borrow.Author.Tests.{eq-eqb}
use lib.ListN.{length, take, drop, replicate, length-append}
use lib.Seq.{take_at, drop_at, take_all}
use Rattle.base.specs.Lists.{Bytes}
use Rattle.base.proofs.Lists.{each_append, each_zero, bytes_each}
use Rattle.base.proofs.Stores.{bytes_append}
use Rattle.field.specs.Be.{be_of, to_be_on, to_be}
use Rattle.field.proofs.Laws.{read_back_fits, each_to_be, length_to_be}
use Rattle.crc32.specs.Crc.{crc_of}
use Rattle.crc32.proofs.Laws.{crc_of_lt}
use Rattle.volume_record.specs.Record.{record_of, record_crc_matches, record_head, record_bytes}
use Rattle.volume_record.specs.declared.VolumeRecord.{VolumeRecord}

module _ (v : VolumeRecord) where
  -- what stands before the name, and after it
  unfoldable pub record_numbers : List ℕ
  record_numbers =
      to_be 4 v.reserved ++ to_be 4 v.alignment ++ to_be 4 v.data_pad
      ++ to_be 1 v.vol_type ++ to_be 1 v.update_marker ++ to_be 2 v.name_length

  unfoldable pub record_tail : List ℕ
  record_tail = to_be 1 v.flags ++ replicate 23 0

  pub numbers_length : length record_numbers ≡ 16
  unfolding record_numbers to_be_on
  numbers_length = refl

module _ (v : VolumeRecord) (long : length v.name ≡ 128) where
  head_is : record_head v ≡ record_numbers v ++ (v.name ++ record_tail v)
  unfolding record_head record_numbers record_tail
  head_is = refl

  pub head_length : length (record_head v) ≡ 168
  unfolding record_tail to_be_on
  head_length = ap length head_is ∙ rw (length-append, length-append, numbers_length v, long)

  pub record_length : length (record_bytes v) ≡ 172
  unfolding record_bytes
  record_length =
      length-append (record_head v) (to_be 4 (crc_of (record_head v)))
      ∙ rw (head_length, length_to_be 4 (crc_of (record_head v)))

-- the numbers are as large as their bytes allow, and the name is 128 bytes (they are so by their types)
pub record RecordFits (v : VolumeRecord) : Type 0 where
  pub reserved : v.reserved < 256 ^ 4
  pub alignment : v.alignment < 256 ^ 4
  pub data_pad : v.data_pad < 256 ^ 4
  pub vol_type : v.vol_type < 256 ^ 1
  pub update_marker : v.update_marker < 256 ^ 1
  pub name_length : v.name_length < 256 ^ 2
  pub name_long : length v.name ≡ 128
  pub name_bytes : Bytes v.name
  pub flags : v.flags < 256 ^ 1

module _ (v : VolumeRecord) (f : RecordFits v) where
  head_bytes : Bytes (record_head v)
  unfolding record_head record_numbers record_tail
  head_bytes =
      bytes_append (record_numbers v) (v.name ++ record_tail v)
      (bytes_each (record_numbers v) (search (each_append, each_to_be) depth 12))
      (bytes_append v.name (record_tail v) f.name_bytes
      (bytes_each (record_tail v) (search (each_append, each_to_be, each_zero) depth 12)))

  pub record_crc_lem : record_crc_matches (record_bytes v) ≡ true
  unfolding record_crc_matches record_bytes
  record_crc_lem =
      let c : ℕ = crc_of (record_head v) in
      let l = head_length v f.name_long in
      rw (
        take_at (record_head v) (to_be 4 c) 168 l,
        drop_at (record_head v) (to_be 4 c) 168 l,
        take_all 4 (to_be 4 c)
            (omega (arith, length_to_be 4 c)),
      )
      (eq-eqb _ _ (sym (read_back_fits 4 c (crc_of_lt (record_head v) head_bytes))))

  -- behind the 16 bytes of the numbers
  behind : (t : List ℕ) → (take 128 (v.name ++ record_tail v ++ t) ≡ v.name) ×
      (drop 128 (v.name ++ record_tail v ++ t) ≡ record_tail v ++ t)
  behind t =
      rw (append_assoc v.name (record_tail v) t)
      (take_at v.name (record_tail v ++ t) 128 f.name_long, drop_at v.name (record_tail v ++ t) 128 f.name_long)

  pub record_back : record_of (record_bytes v) ≡ v
  unfolding record_of record_bytes record_head record_numbers record_tail to_be_on
  record_back = λ i. record {
    reserved = read_back_fits 4 v.reserved f.reserved i;
    alignment = read_back_fits 4 v.alignment f.alignment i;
    data_pad = read_back_fits 4 v.data_pad f.data_pad i;
    vol_type = read_back_fits 1 v.vol_type f.vol_type i;
    update_marker = read_back_fits 1 v.update_marker f.update_marker i;
    name_length = read_back_fits 2 v.name_length f.name_length i;
    name = (behind (to_be 4 (crc_of (record_head v)))).0 i;
    flags =
        (ap (λ (l : List ℕ). be_of (take 1 l)) (behind (to_be 4 (crc_of (record_head v)))).1 ∙ read_back_fits 1 v.flags
        f.flags) i;
  }
