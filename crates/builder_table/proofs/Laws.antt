-- Laws of the records and the table that volume fields give. Assumes nothing.
use mathlib.Core.Path.{◌≡◌, sym, ◌∙◌}
use mathlib.Core.Bool.{Bool, true, false, ◌&&◌, and-false, and-true}
use mathlib.Core.List.{List, ◌++◌, append-nil}
use Prim.Native.Nat.{ℕ, ◌+◌, ◌-◌, ◌*◌, ◌≤◌, ◌<◌}
use native.Mathlib.Nat.{zero-add}
use native.Mathlib.Numerals.{add-one}
use native.Mathlib.Omega.{arith}
use borrow.Author.Tests.{lt-leb, le-leb}
use lib.Dec.{leb}
use lib.ListN.{length, take, drop, get_or, replicate, length-drop, drop_of_length-le}
use Rattle.base.specs.Answers.{all_of}
use Rattle.base.specs.Below.{all_below, concat_below}
use Rattle.base.specs.Lists.{part, put}
use Rattle.base.proofs.Answers.{one_broken}
use Rattle.base.proofs.Below.{all_more, all_fails}
use Rattle.base.proofs.Lists.{to_end_lem, length_part}
use Rattle.base.proofs.Rows.{rows_step}
use Rattle.base.proofs.Stores.{stored_part, drop_replicate}
use Rattle.geometry.specs.declared.Geometry.{Geometry}
use Rattle.volume_record.specs.Record.{record_bytes, record_out}
use Rattle.volume_record.specs.declared.VolumeRecord.{VolumeRecord}
use Rattle.volume_table.specs.Table.{record_count, table_good}
use Rattle.volume_record.proofs.RoundTrip.{record_length}
use Rattle.builder_rules.specs.Slip.{length_at, field_start, volume_count, volume_field}
use Rattle.builder_rules.specs.Table.{record_of_field, fields_fit, record_from, slip_table, volume_rules}
use Rattle.builder_rules.proofs.Fields.{field_name, row_long}
use Rattle.builder_slip.proofs.Laws.{next_start, field_held}

-- ---- one record

-- a name stored over zeroes
pub name_padded : (name : List ℕ) → put 0 name (replicate 128 0) ≡ name ++ replicate (128 - length name) 0
name_padded name = rw (zero-add, drop_replicate 0 (length name) 128)

module _ (f : List ℕ) (lo : 11 ≤ length f) (hi : length f ≤ 137) where
  -- the name of a field, as it is lent
  pub name_is : {r : List ℕ} → r ≡ take (length f - 10) (drop 10 f) ++ replicate (128 - length (take (length f - 10)
      (drop 10 f))) 0
      → r ≡ drop 10 f ++ replicate (138 - length f) 0
  name_is e =
      let k : 128 - (length f - 10) ≡ 138 - length f = omega arith in
      e ∙ rw (to_end_lem, length-drop, k)

  pub record_stored : (size at : ℕ) (all : List ℕ) {r : VolumeRecord} {y : List ℕ} → at + 172 ≤ length all
      → r ≡ record_of_field size f → y ≡ record_out r (part at (at + 172 - at) all)
      → take at all ++ (y ++ drop (at + 172 - at) (drop at all)) ≡ put at (record_bytes (record_of_field size f)) all
  unfolding record_out
  record_stored size at all {r} {y} h e o =
      let k : at + 172 - at ≡ 172 = omega arith in
      stored_part at 172 (record_bytes (record_of_field size f)) all h (record_length (record_of_field size f)
      (field_name size f lo hi))
      (o ∙ rw (e, k, length_part at 172 all h))

-- ---- the values of all fields

module _ (s : List ℕ) where
  abbrev pub fit : ℕ → Bool
  fit v = leb 11 (length (volume_field s v)) && leb (length (volume_field s v)) 137

  pub value_is : (at i : ℕ) {r : List ℕ} → at ≡ field_start s i → r ≡ part (at + 3)
      (length_at s at) s → r ≡ volume_field s i
  unfolding volume_field
  value_is at i e q = q ∙ rw e

  -- where the next field starts
  next_value : (i : ℕ) → i < volume_count s → field_start s i + (3 + length (volume_field s i)) ≡ field_start s (i + 1)
  unfolding volume_field
  next_value i h =
      rw (length_part (field_start s i + 3) (length_at s (field_start s i)) s (omega (arith, field_held s i h)))
      (next_start s i)

  pub next_start_after : (i : ℕ) {at : ℕ} {r : List ℕ} → i < volume_count s → at ≡ field_start s i
      → r ≡ volume_field s i → at + (3 + length r) ≡ field_start s (i + 1)
  next_start_after i h e q = rw (e, q) (next_value i h)

  pub next_within : (i : ℕ) → i < volume_count s → field_start s (i + 1) ≤ length s
  next_within i h = rw (← next_start s i) (field_held s i h)

  pub too_few : (i : ℕ) → i < volume_count s → length (volume_field s i) < 11 → false ≡ fields_fit s
  unfolding fields_fit
  too_few i h k = sym (all_fails (volume_count s) fit i h (rw (lt-leb 11 (length (volume_field s i)) k)))

  pub too_many : (i : ℕ) → i < volume_count s → 137 < length (volume_field s i) → false ≡ fields_fit s
  unfolding fields_fit
  too_many i h k =
      sym (all_fails (volume_count s) fit i h
      (rw (lt-leb (length (volume_field s i)) 137 k, and-false (leb 11 (length (volume_field s i))))))

  pub fit_more : (i : ℕ) → all_below i fit ≡ true → 11 ≤ length (volume_field s i) → length (volume_field s i) ≤ 137
      → all_below (i + 1) fit ≡ true
  fit_more i e lo hi =
      all_more fit i e (rw (le-leb 11 (length (volume_field s i)) lo, le-leb (length (volume_field s i)) 137 hi))

  pub all_fit : (n : ℕ) → n ≡ volume_count s → all_below n fit ≡ true → true ≡ fields_fit s
  unfolding fields_fit
  all_fit n e q = rw (← e, q)

-- ---- the rows of the table

module _ (size : ℕ) (s : List ℕ) (fits : fields_fit s ≡ true) where
  -- one row more
  pub row_more : (i : ℕ) (d : List ℕ) {r : List ℕ} → r ≡ record_from size s i
      → put (i * 172) r (concat_below i (record_from size s) ++ drop (i * 172) d)
      ≡ concat_below (i + 1) (record_from size s) ++ drop ((i + 1) * 172) d
  row_more i d e = rw (e, add-one) (rows_step i 172 (record_from size s) d (row_long size s fits))

  pub whole_table : (n : ℕ) (d : List ℕ) {t : List ℕ} → n ≡ record_count size → length d ≡ record_count size * 172
      → t ≡ concat_below n (record_from size s) ++ drop (n * 172) d → t ≡ slip_table size s
  unfolding slip_table
  whole_table n d e l q = q ∙ rw (e, drop_of_length-le d {i = record_count size * 172} (omega arith), append-nil)

-- ---- refusal 20

module _ (g : Geometry) (n : ℕ) (s : List ℕ) where
  broken : (k : ℕ) → get_or (volume_rules g n s) k true ≡ false → false ≡ all_of (volume_rules g n s)
  broken k e = sym (one_broken (volume_rules g n s) k e)

  pub not_fit : fields_fit s ≡ false → false ≡ all_of (volume_rules g n s)
  unfolding volume_rules
  not_fit e = broken 0 e

  pub too_many_volumes : record_count g.leb_size < volume_count s → false ≡ all_of (volume_rules g n s)
  unfolding volume_rules
  too_many_volumes h = broken 1 (lt-leb (volume_count s) (record_count g.leb_size) h)

  -- then the table decides
  pub table_decides : {r : Bool} {t : List ℕ} → fields_fit s ≡ true → volume_count s ≤ record_count g.leb_size
      → t ≡ slip_table g.leb_size s → r ≡ table_good g.leb_size g.unit n t → r ≡ all_of (volume_rules g n s)
  unfolding volume_rules
  table_decides f h e q =
      q ∙ rw (e, f, le-leb (volume_count s) (record_count g.leb_size) h)
      (sym (and-true (table_good g.leb_size g.unit n (slip_table g.leb_size s))))
