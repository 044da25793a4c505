-- `builder_table::records::record_of` meets its contract. Assumes nothing.
use native.Mathlib.Omega.{arith}
use Rattle.builder_rules.specs.Table.{record_of_field}
use Rattle.builder_table.proofs.Laws.{name_is}
use Rattle.builder_table.proofs.records.record_of.Goals as goal

pub returns : goal.returns
unfolding record_of_field
returns c =
    let f = c.args.value.now in
    cc (name_is f (omega arith) (omega arith) c.padded_name.ensures)
