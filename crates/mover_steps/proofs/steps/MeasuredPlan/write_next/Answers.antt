-- `mover_steps::steps::MeasuredPlan::write_next` meets its contract. Assumes nothing.
use Rattle.mover_steps.proofs.Whole.{left_vid, left_unit, left_erase, left_ec}
use Rattle.mover_steps.proofs.steps.MeasuredPlan.write_next.Goals as goal

pub returns-then-plan-eq0 : goal.returns-then-plan-eq0
returns-then-plan-eq0 c =
    left_vid c.args.self c.args.image.now c.if-plan-eq0.true c.peb_start.ensures c.store_vid.ensures

pub returns-then-j-k : goal.returns-then-j-k
returns-then-j-k c =
    left_unit c.args.self c.args.image.now c.if-plan-eq0.false c.data_steps-k.ensures.0 c.if-j-k.true
    c.store_unit.ensures

pub returns-then-j-k-2 : goal.returns-then-j-k-2
returns-then-j-k-2 c =
    left_erase c.args.self c.args.image.now c.if-plan-eq0.false c.data_steps-k.ensures.0 c.if-j-k-2.true
    c.peb_start-at.ensures c.erase.ensures

pub returns : goal.returns
returns c =
    left_ec c.args.self c.args.image.now c.if-plan-eq0.false c.data_steps-k.ensures.0 c.if-j-k.false c.if-j-k-2.false
    c.requires.1 c.peb_start-at.ensures c.store_ec.ensures
