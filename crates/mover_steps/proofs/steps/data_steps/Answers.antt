-- `mover_steps::steps::data_steps` meets its contract. Assumes nothing.
use mathlib.Core.Path.{refl}
use Rattle.mover_rules.specs.Write.{data_steps}
use Rattle.mover_steps.proofs.Rules.{steps_most}
use Rattle.mover_steps.proofs.steps.data_steps.Goals as goal

pub returns : goal.returns
unfolding data_steps
returns c =
    (refl, steps_most c.args.plan.vid.data_size c.args.plan.unit c.requires.0 c.requires.1.0)
