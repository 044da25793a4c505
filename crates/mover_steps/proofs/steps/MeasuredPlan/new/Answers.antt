-- `mover_steps::steps::MeasuredPlan::new` meets its contract. Assumes nothing.
use mathlib.Core.Path.{sym}
use Rattle.mover_rules.proofs.Rules.{measured}
use Rattle.mover_steps.proofs.Rules.{outside}
use Rattle.mover_steps.proofs.steps.MeasuredPlan.new.Goals as goal

pub invariant_of-result : goal.invariant_of-result
invariant_of-result c = record { measured = measured c.args.plan c.in-Ok.geometry (sym c.in-Ok.ensures) }

pub returns-in_default-clause-outside : goal.returns-in_default-clause-outside
returns-in_default-clause-outside c = outside c.args.plan c.in_default.field-0 c.in_default.ensures
