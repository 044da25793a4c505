-- `volume_table::table::names_differ` meets its contract: none of the first j records repeats a name. Assumes nothing.
use mathlib.Core.Path.{◌≡◌}
use mathlib.Core.Bool.{false}
use Prim.Native.Nat.{ℕ}
use Rattle.base.specs.Below.{any_below}
use Rattle.volume_table.proofs.Tables.{repeats}
use Rattle.volume_table.proofs.table.names_differ.Given as goal

abbrev pub invariant-loop-j : goal.invariant-loop-j
invariant-loop-j l = any_below l.j (λ (k : ℕ). any_below k (repeats l.t k)) ≡ false
