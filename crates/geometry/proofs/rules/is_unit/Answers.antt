-- `geometry::rules::is_unit` meets its contract. Assumes nothing.
use mathlib.Core.Path.{◌∙◌}
use Rattle.base.proofs.Answers.{value_is}
use Rattle.geometry.proofs.Laws.{unit_is}
use Rattle.geometry.proofs.rules.is_unit.Goals as goal

pub returns-then-is_power_of_two : goal.returns-then-is_power_of_two
returns-then-is_power_of_two c = rw (value_is c.is_power_of_two.ensures c.if-is_power_of_two.true) at (unit_is c.args.n)

pub returns-else-is_power_of_two : goal.returns-else-is_power_of_two
returns-else-is_power_of_two c =
    c.if-is_power_of_two.false
    ∙ rw (value_is c.is_power_of_two.ensures c.if-is_power_of_two.false) at (unit_is c.args.n)
