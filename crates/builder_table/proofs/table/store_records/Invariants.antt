-- `builder_table::table::store_records` meets its contract: the records before the i-th are stored. Assumes nothing.
use mathlib.Core.Path.{◌≡◌}
use mathlib.Core.List.{◌++◌}
use Prim.Native.Nat.{◌*◌}
use lib.ListN.{drop}
use Rattle.base.specs.Below.{concat_below}
use Rattle.builder_rules.specs.Slip.{field_start}
use Rattle.builder_rules.specs.Table.{record_from}
use Rattle.builder_table.proofs.table.store_records.Given as goal

abbrev pub invariant-loop-i : goal.invariant-loop-i
invariant-loop-i l = record {
  starts : l.at ≡ field_start l.slip l.i;
  stored : l.table ≡ concat_below l.i (record_from l.leb_size l.slip) ++ drop (l.i * 172) l.initial.table;
}
