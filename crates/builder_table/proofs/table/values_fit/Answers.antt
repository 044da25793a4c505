-- `builder_table::table::values_fit` meets its contract: the values before the i-th fit. Assumes nothing.
use mathlib.Core.Path.{refl, ap}
use native.Mathlib.Omega.{arith}
use lib.ListN.{length}
use Rattle.builder_slip.proofs.Laws.{first_start, field_held}
use Rattle.builder_table.proofs.Laws.{value_is, next_start_after, too_few, too_many, fit_more, all_fit}
use Rattle.builder_table.proofs.table.values_fit.Goals as goal

pub loop-i-init : goal.loop-i-init
loop-i-init c = record { starts = first_start c.args.slip.now; fit = refl }

pub value_at-len-requires : goal.value_at-len-requires
value_at-len-requires c = rw c.loop-i.invariant.starts (field_held c.args.slip.now c.loop-i._i (omega arith))

pub returns-then-len-lt-MIN_VALUE : goal.returns-then-len-lt-MIN_VALUE
returns-then-len-lt-MIN_VALUE c =
    let s = c.args.slip.now in
    let l = c.loop-i in
    let value = value_is s l.at l._i l.invariant.starts c.value_at-len.ensures in
    too_few s l._i (omega arith) (omega (arith, ap length value))

pub returns-then-len-gt-MAX_VALUE : goal.returns-then-len-gt-MAX_VALUE
returns-then-len-gt-MAX_VALUE c =
    let s = c.args.slip.now in
    let l = c.loop-i in
    let value = value_is s l.at l._i l.invariant.starts c.value_at-len.ensures in
    too_many s l._i (omega arith) (omega (arith, ap length value))

pub loop-i-preserved : goal.loop-i-preserved
loop-i-preserved c =
    let s = c.args.slip.now in
    let l = c.loop-i in
    let value = value_is s l.at l._i l.invariant.starts c.value_at-len.ensures in
    record {
      starts = next_start_after s l._i (omega arith) l.invariant.starts value;
      fit = fit_more s l._i l.invariant.fit (omega (arith, ap length value)) (omega (arith, ap length value));
    }

pub returns : goal.returns
returns c = let l = c.loop-i in all_fit c.args.slip.now l._i (omega arith) l.invariant.fit
