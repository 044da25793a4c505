-- `capi::moving::run_steps` meets its contract. Assumes nothing.
use mathlib.Core.Path.{◌≡◌}
use Prim.Native.Nat.{◌-◌}
use lib.ListN.{length}
use Rattle.mover_rules.specs.Write.{step_count}
use Rattle.capi.proofs.Laws.{to_last}
use Rattle.capi.proofs.moving.run_steps.Given as goal

abbrev pub invariant-loop-next : goal.invariant-loop-next
invariant-loop-next l =
    (length l.image ≡ length l.initial.image)
    × ((l.lent ≡ l.initial.lent) × (to_last l.p l.image ≡ to_last l.initial.p l.initial.image))

abbrev pub decreases-loop-next : goal.decreases-loop-next
decreases-loop-next l = step_count l.p - l.p.steps
