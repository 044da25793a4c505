-- `mover_steps::steps::MeasuredPlan::may_run` meets its contract. Assumes nothing.
use Rattle.base.proofs.Answers.{value_is}
use Rattle.mover_steps.proofs.Rules.{not_fitting, old_absent, target_absent, one_peb, vid_not_good, last_rule}
use Rattle.mover_steps.proofs.steps.MeasuredPlan.may_run.Goals as goal

pub returns-then-not-image_fits : goal.returns-then-not-image_fits
returns-then-not-image_fits c =
    not_fitting c.args.self c.args.image.now (value_is c.image_fits.ensures c.if-not-image_fits.true)

pub returns-then-n-plan : goal.returns-then-n-plan
returns-then-n-plan c = old_absent c.args.self c.args.image.now c.if-n-plan.true

pub returns-then-n-plan-2 : goal.returns-then-n-plan-2
returns-then-n-plan-2 c = target_absent c.args.self c.args.image.now c.if-n-plan-2.true

pub returns-then-plan : goal.returns-then-plan
returns-then-plan c = one_peb c.args.self c.args.image.now c.if-plan.true

pub returns-then-not-vid_readable : goal.returns-then-not-vid_readable
returns-then-not-vid_readable c =
    vid_not_good c.args.self c.args.image.now (value_is c.vid_readable.ensures c.if-not-vid_readable.true)

pub returns : goal.returns
returns c =
    last_rule c.args.self c.args.image.now (value_is c.image_fits.ensures c.if-not-image_fits.false) c.if-n-plan.false
    c.if-n-plan-2.false c.if-plan.false (value_is c.vid_readable.ensures c.if-not-vid_readable.false)
    c.ec_readable.ensures
