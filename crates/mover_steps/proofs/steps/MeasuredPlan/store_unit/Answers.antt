-- `mover_steps::steps::MeasuredPlan::store_unit` meets its contract. Assumes nothing.
use native.Mathlib.Omega.{arith}
use Rattle.mover_rules.proofs.Steps.{unit_within}
use Rattle.mover_steps.proofs.Units.{copyable, unit_stored}
use Rattle.mover_steps.proofs.steps.MeasuredPlan.store_unit.Goals as goal

pub unit_length-n-requires : goal.unit_length-n-requires
unit_length-n-requires c =
    let a = c.args in omega (arith, unit_within a.self.geometry a.self.plan a.image.now c.requires.0 a.j c.requires.1)

pub copy_run-requires : goal.copy_run-requires
copy_run-requires c =
    let a = c.args in
    copyable a.self.geometry a.self.plan a.image.now c.requires.0 a.j c.requires.1 c.peb_start.ensures
    c.peb_start-2.ensures c.unit_length-n.ensures

pub returns : goal.returns
returns c =
    let a = c.args in
    unit_stored a.self.geometry a.self.plan a.image.now c.requires.0 a.j c.requires.1 c.peb_start.ensures
    c.peb_start-2.ensures c.unit_length-n.ensures c.copy_run.ensures
