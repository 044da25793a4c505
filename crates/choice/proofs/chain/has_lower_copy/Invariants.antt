-- `choice::chain::has_lower_copy` meets its contract: no PEB from `above` on has the LEB. Assumes nothing.
use mathlib.Core.Path.{◌≡◌}
use mathlib.Core.Bool.{false}
use Prim.Native.Nat.{◌≤◌, ◌<◌, ℕ}
use Rattle.choice.specs.Keyed.{same_leb}
use Rattle.choice.proofs.Chains.{Along}
use Rattle.choice.proofs.chain.has_lower_copy.Given as goal

abbrev pub invariant-loop-j : goal.invariant-loop-j
invariant-loop-j l = (Along l.map l.i l.i l.above l.j) × ((k : ℕ) → l.above ≤ k → k < l.i → same_leb l.map l.i k ≡ false)

abbrev pub decreases-loop-j : goal.decreases-loop-j
decreases-loop-j l = l.above
