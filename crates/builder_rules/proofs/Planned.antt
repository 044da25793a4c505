-- The table of a slip's volume fields, and that a plan which no refusal meets is accepted. Assumes nothing.
use mathlib.Core.Path.{◌≡◌, refl, ap, ◌∙◌}
use mathlib.Core.Logic.{⊎_elim}
use mathlib.Core.Bool.{true}
use mathlib.Core.List.{List, []}
use Prim.Native.Nat.{ℕ, ◌+◌, ◌-◌, ◌*◌, ◌≤◌, ◌<◌, ◌^◌}
use native.Mathlib.Nat.{mul_comm, mod-le}
use native.Mathlib.Omega.{arith}
use borrow.Author.Tests.{leb-true}
use lib.Dec.{lit<}
use lib.ListN.{length, take, drop, get_or, replicate, drop_of_length-le}
use Rattle.base.specs.Answers.{all_of}
use Rattle.base.specs.Lists.{part, Bytes}
use Rattle.base.proofs.Answers.{each_holds}
use Rattle.base.proofs.Below.{lt_or_le}
use Rattle.base.proofs.Lists.{eqs_true, bytes_part, bytes_drop, bytes_each, each_zero}
use Rattle.base.proofs.Rows.{rows_length, row_part}
use Rattle.base.proofs.Stores.{bytes_append}
use Rattle.field.specs.Be.{be_from}
use Rattle.field.specs.Fields.{field, number_in}
use Rattle.field.proofs.Laws.{field_lt}
use Rattle.geometry.specs.declared.Geometry.{Geometry}
use Rattle.geometry.specs.Placed.{Placed}
use Rattle.volume_record.specs.Record.{record_of, empty_record, is_empty}
use Rattle.volume_record.proofs.RoundTrip.{RecordFits, record_back}
use Rattle.volume_table.specs.Table.{record_count, record_at, table_good}
use Rattle.volume_table.proofs.Good.{good_reserved, empty_or_good_lem, records_fine}
use Rattle.builder_rules.specs.Slip.{volume_count, length_at, field_start, volume_field}
use Rattle.builder_rules.specs.Table.{record_of_field, record_from, slip_table, fields_fit, volume_rules}
use Rattle.builder_rules.specs.Blocks.{volume_of}
use Rattle.builder_rules.specs.Build.{content_rules, plan_of}
use Rattle.builder_rules.proofs.Fields.{field_name, field_sized, row_field, row_empty, row_long}
use Rattle.builder_rules.specs.Filling.{Accepted}
use Rattle.builder_rules.proofs.Accepted.{records_whole}

-- ---- the record of a volume field

field_fits : (size : ℕ) (f : List ℕ) → Bytes f → 11 ≤ length f → length f ≤ 137 → size ≤ 262144
    → RecordFits (record_of_field size f)
unfolding record_of_field
field_fits size f b lo hi s = record {
  reserved = field_lt 0 4 f (omega arith) b;
  alignment = field_lt 4 4 f (omega arith) b;
  data_pad = omega (arith, mod-le size (number_in (field 4 4) f));
  vol_type = field_lt 8 1 f (omega arith) b;
  update_marker = lit< tt;
  name_length = omega arith;
  name_long = field_name size f lo hi;
  name_bytes =
      bytes_append (drop 10 f) (replicate (138 - length f) 0) (bytes_drop 10 f b)
      (bytes_each (replicate (138 - length f) 0) (each_zero (138 - length f)));
  flags = field_lt 9 1 f (omega arith) b;
}

-- it has a name, and its marker is 0
field_named : (size : ℕ) (f : List ℕ) → 11 ≤ length f → 0 < (record_of_field size f).name_length
unfolding record_of_field
field_named size f h = omega arith

field_unmarked : (size : ℕ) (f : List ℕ) → (record_of_field size f).update_marker ≡ 0
unfolding record_of_field
field_unmarked size f = refl

-- ---- an empty record, and none

empty_reserves : (record_of empty_record).reserved ≡ 0
unfolding record_of empty_record be_from
empty_reserves = refl

empty_unnamed : (r : List ℕ) → is_empty r ≡ true → (record_of r).name_length ≡ 0
unfolding is_empty empty_record record_of be_from
empty_unnamed r e = rw (eqs_true r empty_record e)

none_reserves : (record_of (take 172 [])).reserved ≡ 0
unfolding record_of be_from
none_reserves = refl

-- ---- the table

module _ (g : Geometry) (n : ℕ) (slip : List ℕ) (p : Placed g) (b : Bytes slip)
    (rules : all_of (volume_rules g n slip) ≡ true) where
  abbrev size : ℕ
  size = g.leb_size

  abbrev table : List ℕ
  table = slip_table size slip

  rule : (i : ℕ) → get_or (volume_rules g n slip) i true ≡ true
  rule = each_holds (volume_rules g n slip) rules

  pub fields_few : volume_count slip ≤ record_count size
  unfolding volume_rules
  fields_few = leb-true _ _ (rule 1)

  table_good_holds : table_good size g.unit n table ≡ true
  unfolding volume_rules
  table_good_holds = rule 2

  fields_fit_lem : fields_fit slip ≡ true
  unfolding volume_rules
  fields_fit_lem = rule 0

  volume_fits : (v : ℕ) → v < volume_count slip → RecordFits (record_of_field size (volume_field slip v))
  unfolding volume_field
  volume_fits v h =
      let q = field_sized size slip fields_fit_lem v h in
      field_fits size (volume_field slip v)
      (bytes_part (field_start slip v + 3) (length_at slip (field_start slip v)) slip b) q.0 q.1
      (omega (arith, p.leb_fills, p.peb_most))

  row_of : (i : ℕ) → length (record_from size slip i) ≡ 172
  row_of = row_long size slip fields_fit_lem

  pub table_long : length table ≡ 172 * record_count size
  unfolding slip_table
  table_long = rows_length (record_count size) 172 (record_from size slip) row_of ∙ mul_comm (record_count size) 172

  record_at_lem : (i : ℕ) → i < record_count size → record_at table i ≡ record_from size slip i
  unfolding slip_table
  record_at_lem i h =
      ap (λ k. part k 172 table) (mul_comm 172 i) ∙ row_part (record_count size) 172 (record_from size slip) row_of i h

  -- ---- what its records are

  module _ (v : ℕ) (h : v < volume_count slip) where
    pub record_given : record_of (record_at table v) ≡ record_of_field size (volume_field slip v)
    record_given =
        ap record_of (record_at_lem v (omega (arith, fields_few)) ∙ row_field size slip fields_fit_lem v h)
        ∙ record_back _ (volume_fits v h)

    reserves : 0 < (record_of (record_at table v)).reserved
    reserves =
        ⊎_elim
        (λ e. absurd (omega (
          arith,
          empty_unnamed (record_at table v) e,
          ap (λ r. r.name_length) record_given,
          field_named size (volume_field slip v) (field_sized size slip fields_fit_lem v h).0,
        )))
        (good_reserved size g.unit (record_at table v))
        (empty_or_good_lem size g.unit (record_at table v)
        (rw (records_whole size table table_long) at
        (records_fine size g.unit n table table_good_holds v (omega (arith, fields_few)))))

  reserves_none : (v : ℕ) → volume_count slip ≤ v → (record_of (record_at table v)).reserved ≡ 0
  reserves_none v h =
      ⊎_elim
      (λ q. ap (λ r. (record_of r).reserved) (record_at_lem v q ∙ row_empty size slip fields_fit_lem v h) ∙ empty_reserves)
      (λ q.
      ap (λ l. (record_of (take 172 l)).reserved) (drop_of_length-le table {i = 172 * v} (omega (arith, table_long, q)))
      ∙ none_reserves)
      (lt_or_le v (record_count size))

  -- ---- no refusal

  pub accepted : (seq : ℕ) (lengths contents image : List ℕ) → 2 ≤ n → n ≤ 4096 → seq < 256 ^ 4 → Bytes contents
      → all_of (content_rules (plan_of slip seq lengths contents image g)) ≡ true
      → Accepted (plan_of slip seq lengths contents image g) n
  unfolding volume_of
  accepted seq lengths contents image lo hi s c e = record {
    placed = p;
    pebs_least = lo;
    pebs_most = hi;
    seq_fits = s;
    content_bytes = c;
    volumes_most = fields_few;
    table_good_holds = table_good_holds;
    table_length = table_long;
    reserved_above = reserves;
    unmarked = λ v h. ap (λ r. r.update_marker) (record_given v h) ∙ field_unmarked size (volume_field slip v);
    none_else = reserves_none;
    contents_fit = e;
  }
