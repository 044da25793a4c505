-- `volume_table::table::name_repeats` meets its contract: none of the first i records has the name of record j. Assumes
-- nothing.
use mathlib.Core.Path.{◌≡◌}
use mathlib.Core.Bool.{false}
use Rattle.base.specs.Below.{any_below}
use Rattle.volume_table.proofs.Tables.{repeats}
use Rattle.volume_table.proofs.table.name_repeats.Given as goal

abbrev pub invariant-loop-i : goal.invariant-loop-i
invariant-loop-i l = any_below l.i (repeats l.t l.j) ≡ false
