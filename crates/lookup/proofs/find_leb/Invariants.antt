-- `lookup::find_leb` meets its contract: no entry before k is the LEB's. Assumes nothing.
use mathlib.Core.Path.{◌≡◌}
use mathlib.Core.Bool.{false}
use Prim.Native.Nat.{ℕ, ◌<◌}
use Rattle.lookup.specs.Lookup.{is_entry}
use Rattle.lookup.proofs.find_leb.Given as goal

abbrev pub invariant-loop-k : goal.invariant-loop-k
invariant-loop-k l = (j : ℕ) → j < l.k → is_entry l.map l.volume l.lnum j ≡ false
