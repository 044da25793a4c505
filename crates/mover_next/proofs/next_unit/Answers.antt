-- `mover_next::next_unit` meets its contract. Assumes nothing.
use native.Mathlib.Omega.{arith}
use Rattle.mover_rules.proofs.Steps.{unit_within}
use Rattle.mover_next.proofs.next_unit.Goals as goal

pub unit_length-requires : goal.unit_length-requires
unit_length-requires c =
    let a = c.args in omega (arith, unit_within a.m.geometry a.m.plan a.image.now c.requires.0 a.j c.requires.1)
