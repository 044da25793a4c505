-- `geometry::rules::round_up` meets its contract. Assumes nothing.
use mathlib.Core.Path.{refl}
use native.Mathlib.Omega.{arith}
use Rattle.geometry.specs.Geometry.{round_up}
use Rattle.geometry.proofs.Laws.{round_below}
use Rattle.geometry.proofs.rules.round_up.Goals as goal

pub overflow_mul-result : goal.overflow_mul-result
unfolding round_up
overflow_mul-result c =
    record { fits = omega (arith, round_below c.args.m c.args.x (omega arith)) }

pub returns : goal.returns
unfolding round_up
returns c =
    (refl, round_below c.args.m c.args.x (omega arith))
