-- `choice::repeat::first_repeat` meets its contract: the PEBs passed repeat no lower one. Assumes nothing.
use mathlib.Core.Path.{◌≡◌}
use mathlib.Core.Bool.{false}
use Prim.Native.Nat.{◌≤◌, ◌<◌, ℕ}
use Rattle.std.specs.Prelude.{None}
use Rattle.report.specs.View.{views_of, copies}
use Rattle.report.specs.Choice.{repeats}
use Rattle.choice.proofs.Chains.{Along}
use Rattle.choice.proofs.Repeats.{Fresh}
use Rattle.choice.proofs.repeat.first_repeat.Given as goal

abbrev pub invariant-loop-j : goal.invariant-loop-j
invariant-loop-j l =
    (l.found ≡ None) × (Along l.map l.i l.i l.above l.j)
    × ((m : ℕ) → l.above ≤ m → m < l.i
    → repeats (copies (views_of l.g l.image) l.i) (copies (views_of l.g l.image) m) ≡ false)

abbrev pub decreases-loop-j : goal.decreases-loop-j
decreases-loop-j l = l.above

abbrev pub invariant-pebs : goal.invariant-pebs
invariant-pebs l = (l.found ≡ None) × ((k : ℕ) → k < l.i → Fresh (copies (views_of l.g l.image)) k)
