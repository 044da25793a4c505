-- `builder_table::table::store_records` meets its contract: the records before the i-th are stored. Assumes nothing.
use mathlib.Core.Path.{refl, ap, ◌∙◌}
use native.Mathlib.Omega.{arith}
use lib.ListN.{length}
use Rattle.builder_slip.proofs.Laws.{first_start, field_held}
use Rattle.builder_rules.proofs.Fields.{field_sized, row_field}
use Rattle.builder_table.proofs.Laws.{value_is, next_start_after, next_within, row_more}
use Rattle.builder_table.proofs.table.store_records.Goals as goal

pub loop-i-init : goal.loop-i-init
loop-i-init c = record { starts = first_start c.args.slip.now; stored = refl }

pub value_at-value-requires : goal.value_at-value-requires
value_at-value-requires c = rw c.loop-i.invariant.starts (field_held c.args.slip.now c.loop-i.i (omega arith))

pub store_record-requires : goal.store_record-requires
store_record-requires c =
    let a = c.args in
    let l = c.loop-i in
    let e = ap length (value_is a.slip.now l.at l.i l.invariant.starts c.value_at-value.ensures) in
    let v = field_sized a.leb_size a.slip.now c.requires.0.1 l.i (omega arith) in
    ((omega arith, omega arith), (omega arith, omega arith))

pub overflow_add-at-in-loop-i : goal.overflow_add-at-in-loop-i
overflow_add-at-in-loop-i c =
    let s = c.args.slip.now in
    let l = c.loop-i in
    let value = value_is s l.at l.i l.invariant.starts c.value_at-value.ensures in
    let next = next_start_after s l.i (omega arith) l.invariant.starts value in
    omega (arith, next, next_within s l.i (omega arith))

pub loop-i-preserved : goal.loop-i-preserved
loop-i-preserved c =
    let a = c.args in
    let s = a.slip.now in
    let l = c.loop-i in
    let value = value_is s l.at l.i l.invariant.starts c.value_at-value.ensures in
    record {
      starts = next_start_after s l.i (omega arith) l.invariant.starts value;
      stored = rw l.invariant.stored at c.store_record.ensures
          ∙ row_more a.leb_size s c.requires.0.1 l.i a.table.now
          (rw (value, row_field a.leb_size s c.requires.0.1 l.i (omega arith)));
    }
