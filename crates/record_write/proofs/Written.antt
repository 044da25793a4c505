-- The stores of a record's writer make its bytes. Assumes nothing.
use mathlib.Core.Path.{◌≡◌, refl, sym, ap, ◌∙◌}
use mathlib.Core.List.{List, ◌++◌, append_assoc}
use Prim.Native.Nat.{ℕ, ◌≤◌}
use borrow.Author.Tests.{le-leb}
use lib.ListN.{length, drop, replicate}
use lib.Seq.{take_at}
use Rattle.base.specs.Lists.{put}
use Rattle.base.proofs.Stores.{put_middle}
use Rattle.field.specs.Be.{to_be_on, to_be}
use Rattle.field.proofs.Laws.{length_to_be}
use Rattle.crc32.specs.Crc.{crc_of}
use Rattle.volume_record.specs.Record.{record_head, record_bytes, record_out}
use Rattle.volume_record.specs.declared.VolumeRecord.{VolumeRecord}
use Rattle.volume_record.proofs.RoundTrip.{record_numbers, record_tail, numbers_length, head_length}
use Rattle.record_write.specs.Stores.{sizes_stored, kind_stored, name_stored, crc_stored}

module _ (v : VolumeRecord) (long : length v.name ≡ 128) where
  numbers_stored : (t : List ℕ) → kind_stored v (sizes_stored v (replicate 172 0 ++ t))
      ≡ record_numbers v ++ (replicate 128 0 ++ (record_tail v ++ (replicate 4 0 ++ t)))
  unfolding sizes_stored kind_stored record_numbers record_tail to_be_on
  numbers_stored t = refl

  head_stored : (t : List ℕ) → name_stored v.name (kind_stored v (sizes_stored v (replicate 172 0 ++ t))) ≡ record_head v ++
      (replicate 4 0 ++ t)
  unfolding name_stored record_head record_numbers record_tail
  head_stored t =
      rw (
        numbers_stored t,
        put_middle 16 v.name (record_numbers v) (replicate 128 0)
            (record_tail v ++ (replicate 4 0 ++ t)) (numbers_length v) long,
      )
      (sym (simp append_assoc))

  crc_stored_lem : (t : List ℕ) → crc_stored (record_head v ++ (replicate 4 0 ++ t)) ≡ record_bytes v ++ t
  unfolding crc_stored record_bytes
  crc_stored_lem t =
      let c : ℕ = crc_of (record_head v) in
      let s : List ℕ = record_head v ++ (replicate 4 0 ++ t) in
      ap (λ (x : List ℕ). put 168 (to_be 4 (crc_of x)) s) (take_at (record_head v) (replicate 4 0 ++ t) 168 (head_length v long))
      ∙ put_middle 168 (to_be 4 c) (record_head v) (replicate 4 0) t (head_length v long) (length_to_be 4 c)
      ∙ sym (append_assoc (record_head v) (to_be 4 c) t)

  -- the stores, one after the other
  pub stored_is : (out : List ℕ) {a b d e f : List ℕ} → 172 ≤ length out → a ≡ replicate 172 0 ++ drop 172 out
      → b ≡ sizes_stored v a
      → d ≡ kind_stored v b → e ≡ name_stored v.name d → f ≡ crc_stored e → f ≡ record_out v out
  unfolding record_out
  stored_is out h p q r s u =
      rw (le-leb _ _ h, u, s, r, q, p) (ap crc_stored (head_stored (drop 172 out)) ∙ crc_stored_lem (drop 172 out))
