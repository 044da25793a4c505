-- The rows of the table that a slip's volume fields give. Assumes nothing.
use mathlib.Core.Path.{◌≡◌, refl}
use mathlib.Core.Bool.{true, ◌&&◌}
use mathlib.Core.List.{List}
use Prim.Native.Nat.{ℕ, ◌-◌, ◌≤◌, ◌<◌}
use native.Mathlib.Omega.{arith}
use borrow.Author.Tests.{lt-ltb, le-ltb, ltb-true, ltb-false, leb-true}
use lib.Dec.{ltb, leb}
use lib.ListN.{length, length-append, length-drop, length-replicate}
use Rattle.base.proofs.Answers.{by_test, and_left, and_right}
use Rattle.base.proofs.Below.{all_at}
use Rattle.field.specs.Be.{to_be_on}
use Rattle.volume_record.specs.Record.{empty_record, record_bytes}
use Rattle.volume_record.proofs.RoundTrip.{record_length}
use Rattle.builder_rules.specs.Slip.{volume_count, volume_field}
use Rattle.builder_rules.specs.Table.{record_of_field, record_from, fields_fit}

-- the name of a field's record has 128 bytes
pub field_name : (size : ℕ) (f : List ℕ) → 11 ≤ length f → length f ≤ 137 → length (record_of_field size f).name ≡ 128
unfolding record_of_field
field_name size f lo hi = rw (length-append, length-drop, length-replicate {A = ℕ} (138 - length f) 0) (omega arith)

pub empty_long : length empty_record ≡ 172
unfolding empty_record to_be_on
empty_long = refl

module _ (size : ℕ) (s : List ℕ) (fits : fields_fit s ≡ true) where
  pub field_sized : (v : ℕ) → v < volume_count s → (11 ≤ length (volume_field s v)) × (length (volume_field s v) ≤ 137)
  unfolding fields_fit
  field_sized v h =
      let l : ℕ = length (volume_field s v) in
      let e = all_at (volume_count s)
      (λ (i : ℕ). leb 11 (length (volume_field s i)) && leb (length (volume_field s i)) 137) fits v h in
      (leb-true 11 l (and_left (leb 11 l) (leb l 137) e), leb-true l 137 (and_right (leb 11 l) (leb l 137) e))

  pub row_field : (i : ℕ) → i < volume_count s → record_from size s i ≡ record_bytes (record_of_field size (volume_field s i))
  unfolding record_from
  row_field i h = rw (lt-ltb i (volume_count s) h)

  pub row_empty : (i : ℕ) → volume_count s ≤ i → record_from size s i ≡ empty_record
  unfolding record_from
  row_empty i h = rw (le-ltb i (volume_count s) h)

  pub row_long : (i : ℕ) → length (record_from size s i) ≡ 172
  row_long i =
      by_test (ltb i (volume_count s))
      (λ q.
      let h : i < volume_count s = ltb-true i (volume_count s) q in
      let l = field_sized i h in
      rw (row_field i h) (record_length _ (field_name size (volume_field s i) l.0 l.1)))
      (λ q. rw (row_empty i (ltb-false i (volume_count s) q)) empty_long)
