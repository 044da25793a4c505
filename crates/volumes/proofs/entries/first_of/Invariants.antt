-- `volumes::entries::first_of` meets its contract: no entry passed is one of the volume. Assumes nothing.
use mathlib.Core.Path.{◌≡◌}
use mathlib.Core.Bool.{false}
use Prim.Native.Nat.{ℕ, ◌<◌}
use Rattle.volumes.specs.Sorted.{is_of}
use Rattle.volumes.proofs.entries.first_of.Given as goal

abbrev pub invariant-loop-k : goal.invariant-loop-k
invariant-loop-k l = (j : ℕ) → j < l.k → is_of l.map l.volume j ≡ false
