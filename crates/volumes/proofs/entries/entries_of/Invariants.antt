-- `volumes::entries::entries_of` meets its contract: the number found is that of the entries passed. Assumes nothing.
use mathlib.Core.Path.{◌≡◌}
use Prim.Native.Nat.{◌≤◌}
use Rattle.base.specs.Below.{count_below}
use Rattle.volumes.specs.Sorted.{is_of}
use Rattle.volumes.proofs.entries.entries_of.Given as goal

abbrev pub invariant-loop-k : goal.invariant-loop-k
invariant-loop-k l = (l.found ≡ count_below l.k (is_of l.map l.volume)) × (l.found ≤ l.k)
