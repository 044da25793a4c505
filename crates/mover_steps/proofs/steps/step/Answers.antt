-- `mover_steps::steps::step` meets its contract. Assumes nothing.
use mathlib.Core.Path.{sym}
use Rattle.mover_rules.specs.Write.{step_count}
use Rattle.mover_rules.specs.Step.{one_on}
use Rattle.mover_steps.proofs.Rules.{not_measured, runs, data_bounds}
use Rattle.mover_steps.proofs.Whole.{step_refused, step_done, step_on}
use Rattle.mover_steps.proofs.steps.step.Goals as goal

pub returns-in_default : goal.returns-in_default
returns-in_default c =
    let a = c.args in
    let q = step_refused a.plan a.image.now (not_measured a.plan a.image.now c.in_default.ensures.outside) in
    record { answer = q.0; image = q.1 }

pub returns-then-not-may_run : goal.returns-then-not-may_run
returns-then-not-may_run c =
    let q = step_refused c.args.plan c.args.image.now (rw (← c.in-Some.ensures.plan) (sym c.if-not-may_run.ensures)) in
    record { answer = q.0; image = q.1 }

pub data_steps-requires : goal.data_steps-requires
data_steps-requires c =
    rw (← c.in-Some.ensures.plan)
    (data_bounds (runs c.in-Some.m c.args.image.now (sym c.if-not-may_run.ensures)))

pub returns-then-data_steps-plan : goal.returns-then-data_steps-plan
unfolding step_count
returns-then-data_steps-plan c =
    let q = step_done c.args.plan c.args.image.now (rw (← c.in-Some.ensures.plan) (sym c.if-not-may_run.ensures))
    (rw (← c.data_steps.ensures.0) c.if-data_steps-plan.true) in
    record { answer = q.0; image = q.1 }

pub write_next-requires : goal.write_next-requires
unfolding step_count
write_next-requires c = (
  runs c.in-Some.m c.args.image.now (sym c.if-not-may_run.ensures),
  rw (c.in-Some.ensures.plan, ← c.data_steps.ensures.0) c.if-data_steps-plan.false,
)

pub returns : goal.returns
unfolding step_count one_on
returns c =
    let q = step_on c.args.plan c.args.image.now (rw (← c.in-Some.ensures.plan) (sym c.if-not-may_run.ensures))
    (rw (← c.data_steps.ensures.0) c.if-data_steps-plan.false) (rw c.in-Some.ensures.plan at c.write_next.ensures) in
    record { answer = q.0; image = q.1 }
