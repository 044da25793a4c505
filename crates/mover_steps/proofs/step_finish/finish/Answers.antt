-- `mover_steps::step_finish::finish` meets its contract. Assumes nothing.
use mathlib.Core.Path.{refl, ◌∙◌}
use mathlib.Core.Logic.{inl, inr}
use Rattle.job.proofs.Finish.{fewer, finish_on, finish_last}
use Rattle.mover_rules.specs.Step.{mover_job}
use Rattle.mover_rules.proofs.Steps.{mover_lawful}
use Rattle.mover_steps.proofs.step_finish.finish.Goals as goal

pub loop-next-smaller : goal.loop-next-smaller
loop-next-smaller c =
    let l = c.loop-next in
    fewer mover_job mover_lawful l.p c.in-On.next l.image c.in-On.ensures.answer c.step.ensures.image

pub loop-next-preserved : goal.loop-next-preserved
loop-next-preserved c =
    let l = c.loop-next in
    finish_on mover_job mover_lawful l.p c.in-On.next l.image c.in-On.ensures.answer c.step.ensures.image ∙ l.invariant

pub returns-in-Done : goal.returns-in-Done
returns-in-Done c =
    let l = c.loop-next in
    let q = finish_last mover_job mover_lawful l.p l.image c.in-Done.ensures.answer c.step.ensures.image (inl refl)
    l.invariant in
    record { answer = q.0; image = q.1 }

pub returns-in-Refused : goal.returns-in-Refused
returns-in-Refused c =
    let l = c.loop-next in
    let q = finish_last mover_job mover_lawful l.p l.image c.in-Refused.ensures.answer c.step.ensures.image (inr refl)
    l.invariant in
    record { answer = q.0; image = q.1 }
