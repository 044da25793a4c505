-- `mover_steps::step_finish::finish` meets its contract. Assumes nothing.
use mathlib.Core.Path.{◌≡◌}
use Prim.Native.Nat.{◌-◌}
use Rattle.job.specs.Course.{finishing}
use Rattle.mover_rules.specs.Write.{step_count}
use Rattle.mover_rules.specs.Step.{mover_job}
use Rattle.mover_steps.proofs.step_finish.finish.Given as goal

abbrev pub invariant-loop-next : goal.invariant-loop-next
invariant-loop-next l = finishing mover_job l.p l.image ≡ finishing mover_job l.initial.p l.initial.image

abbrev pub decreases-loop-next : goal.decreases-loop-next
decreases-loop-next l = step_count l.p - l.p.steps
