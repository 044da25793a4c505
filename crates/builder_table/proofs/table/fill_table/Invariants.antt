-- `builder_table::table::fill_table` meets its contract: the records before the i-th are stored. Assumes nothing.
use mathlib.Core.Path.{◌≡◌}
use mathlib.Core.List.{◌++◌}
use Prim.Native.Nat.{◌*◌}
use lib.ListN.{drop}
use Rattle.base.specs.Below.{concat_below}
use Rattle.builder_rules.specs.Table.{record_from}
use Rattle.builder_table.proofs.table.fill_table.Given as goal

abbrev pub invariant-loop-i : goal.invariant-loop-i
invariant-loop-i l =
    l.table ≡ concat_below l.i (record_from l.leb_size l.slip) ++ drop (l.i * 172) l.initial.table
