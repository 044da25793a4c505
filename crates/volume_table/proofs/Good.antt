-- What holds of records and tables: for those who use a good one. Assumes nothing.
use mathlib.Core.Path.{◌≡◌, sym, ap, ◌∙◌}
use mathlib.Core.Logic.{◌⊎◌, inl, inr, ⊎_elim}
use mathlib.Core.Bool.{true, ◌||◌}
use mathlib.Core.List.{List}
use Prim.Native.Nat.{ℕ, ◌-◌, ◌*◌, ◌/◌, ◌%◌, ◌≤◌, ◌<◌}
use native.Mathlib.Nat.{mod-one, sub-zero, mul_assoc, mul-mod_left, div-add-mod'}
use native.Mathlib.Omega.{arith}
use borrow.Author.Tests.{ltb-true, leb-true, eqb-true}
use lib.Dec.{eqb}
use lib.ListN.{get_or}
use Rattle.base.specs.Answers.{all_of}
use Rattle.base.specs.Below.{sum_below}
use Rattle.base.proofs.Answers.{and_right, or_true_cases, each_holds}
use Rattle.base.proofs.Below.{all_at}
use Rattle.base.proofs.Lists.{eqs_true}
use Rattle.field.specs.Be.{be_from}
use Rattle.volume_record.specs.Record.{record_of, record_crc_matches, empty_record, is_empty, record_rules, record_good}
use Rattle.volume_table.specs.Table.{record_count, records_part, record_at, empty_or_good, table_rules, table_tests}
use Rattle.volume_table.specs.Table.{table_good}

-- ---- numbers

-- LEB size less pad is a multiple of the unit, where LEB size is
pub pads_multiple : (size unit a : ℕ) → size % unit ≡ 0 → (a ≡ 1) ⊎ (a % unit ≡ 0) → (size - size % a) % unit ≡ 0
pads_multiple size unit a h (inl e) = rw (e, mod-one, sub-zero) h
pads_multiple size unit a h (inr k) =
    let x : size - size % a ≡ size / a * a = omega (arith, div-add-mod' size a) in
    let y : a ≡ a / unit * unit = omega (arith, div-add-mod' a unit) in
    ap (λ (z : ℕ). z % unit) (x ∙ ap (λ (z : ℕ). size / a * z) y ∙ sym (mul_assoc (size / a) (a / unit) unit))
    ∙ mul-mod_left (size / a * (a / unit)) unit

either : (a b x y : ℕ) → eqb a b || eqb x y ≡ true → (a ≡ b) ⊎ (x ≡ y)
either a b x y e = ⊎_elim (λ p. inl (eqb-true a b p)) (λ p. inr (eqb-true x y p)) (or_true_cases (eqb a b) (eqb x y) e)

-- ---- a good record

module _ (size unit : ℕ) (r : List ℕ) (g : record_good size unit r ≡ true) where
  kept : (k : ℕ) → get_or (record_rules size unit (record_of r)) k true ≡ true
  unfolding record_good
  kept =
      each_holds (record_rules size unit (record_of r))
      (and_right (record_crc_matches r) (all_of (record_rules size unit (record_of r))) g)

  pub good_reserved : 0 < (record_of r).reserved
  unfolding record_rules
  good_reserved = ltb-true _ _ (kept 0)

  pub good_alignment : (0 < (record_of r).alignment) × ((record_of r).alignment ≤ size)
  unfolding record_rules
  good_alignment = (leb-true _ _ (kept 1), leb-true _ _ (kept 2))

  pub good_aligned : ((record_of r).alignment ≡ 1) ⊎ ((record_of r).alignment % unit ≡ 0)
  unfolding record_rules
  good_aligned = either _ _ _ _ (kept 3)

  pub good_pad : (record_of r).data_pad ≡ size % (record_of r).alignment
  unfolding record_rules
  good_pad = eqb-true _ _ (kept 4)

  pub good_pads : size % unit ≡ 0 → (size - (record_of r).data_pad) % unit ≡ 0
  good_pads h = rw good_pad (pads_multiple size unit (record_of r).alignment h good_aligned)

  pub good_type : ((record_of r).vol_type ≡ 1) ⊎ ((record_of r).vol_type ≡ 2)
  unfolding record_rules
  good_type = either _ _ _ _ (kept 5)

-- ---- empty or good

pub empty_reserves_none : (r : List ℕ) → is_empty r ≡ true → (record_of r).reserved ≡ 0
unfolding is_empty empty_record record_of be_from
empty_reserves_none r e = rw (eqs_true r empty_record e)

pub empty_or_good_lem : (size unit : ℕ) (r : List ℕ) → empty_or_good size unit r ≡ true
    → (is_empty r ≡ true) ⊎ (record_good size unit r ≡ true)
unfolding empty_or_good
empty_or_good_lem size unit r f = or_true_cases (is_empty r) (record_good size unit r) f

-- ---- a good table

module _ (size unit pebs : ℕ) (content : List ℕ) (g : table_good size unit pebs content ≡ true) where
  rule : (k : ℕ) → get_or (table_tests (record_count size) size unit pebs (records_part size content)) k true ≡ true
  unfolding table_good
  rule = each_holds (table_tests (record_count size) size unit pebs (records_part size content)) g

  pub records_fine : (i : ℕ) → i < record_count size
      → empty_or_good size unit (record_at (records_part size content) i) ≡ true
  unfolding table_tests table_rules
  records_fine =
      all_at (record_count size) (λ (i : ℕ). empty_or_good size unit (record_at (records_part size content) i)) (rule 2)

  pub reserved_within : sum_below (record_count size)
      (λ (i : ℕ). (record_of (record_at (records_part size content) i)).reserved) ≤ pebs - 2
  unfolding table_tests table_rules
  reserved_within = leb-true _ _ (rule 5)
