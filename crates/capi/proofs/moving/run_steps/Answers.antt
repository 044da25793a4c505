-- `capi::moving::run_steps` meets its contract. Assumes nothing.
use native.Mathlib.Omega.{arith}
use mathlib.Core.Path.{◌∙◌}
use Rattle.job.proofs.Finish.{fewer, left_on}
use Rattle.mover_rules.specs.Step.{mover_job}
use Rattle.mover_rules.proofs.Steps.{mover_lawful}
use Rattle.capi.proofs.Laws.{last_done, last_refused}
use Rattle.capi.proofs.moving.run_steps.Goals as goal

pub loop-next-smaller : goal.loop-next-smaller
loop-next-smaller c =
    let l = c.loop-next in
    let e = c.in-On.ensures in
    fewer mover_job mover_lawful l.p c.in-On.next l.image e.answer e.image

pub loop-next-preserved : goal.loop-next-preserved
loop-next-preserved c =
    let l = c.loop-next in
    let e = c.in-On.ensures in
    let q = left_on mover_job mover_lawful l.p c.in-On.next l.image e.answer e.image in
    (omega arith, (l.invariant.1.0, q ∙ l.invariant.1.1))

pub returns-in-Done : goal.returns-in-Done
returns-in-Done c =
    let l = c.loop-next in
    let e = c.in-Done.ensures in
    let a = c.args in
    let q = last_done a.plan l.p a.image.now l.image a.lent.now l.invariant.1.1 e.image e.answer
    (c.store_plan.ensures.answer, rw l.invariant.1.0 at c.store_plan.ensures.words) in
    record { answer = q.0; words = q.1.0; image = q.1.1 }

pub returns-in-Refused : goal.returns-in-Refused
returns-in-Refused c =
    let l = c.loop-next in
    let e = c.in-Refused.ensures in
    let a = c.args in
    let q = last_refused a.plan l.p a.image.now l.image a.lent.now l.invariant.1.1 e.image e.answer in
    rw l.invariant.1.0 (record { answer = q.0; words = q.1.0; image = q.1.1 })
