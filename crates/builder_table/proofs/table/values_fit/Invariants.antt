-- `builder_table::table::values_fit` meets its contract: the values before the i-th fit. Assumes nothing.
use mathlib.Core.Path.{◌≡◌}
use mathlib.Core.Bool.{true}
use Rattle.base.specs.Below.{all_below}
use Rattle.builder_rules.specs.Slip.{field_start}
use Rattle.builder_table.proofs.Laws.{fit}
use Rattle.builder_table.proofs.table.values_fit.Given as goal

abbrev pub invariant-loop-i : goal.invariant-loop-i
invariant-loop-i l = record {
  starts : l.at ≡ field_start l.slip l._i;
  fit : all_below l._i (fit l.slip) ≡ true;
}
