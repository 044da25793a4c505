-- `builder_table::records::store_record` meets its contract. Assumes nothing.
use Prim.Native.Nat.{◌*◌}
use native.Mathlib.Omega.{arith}
use Rattle.builder_table.proofs.Laws.{record_stored}
use Rattle.builder_table.proofs.records.store_record.Goals as goal

pub returns : goal.returns
returns c =
    let a = c.args in
    record_stored a.value.now (omega arith) (omega arith) a.leb_size (a.i * 172) a.table.now (omega arith)
    c.record_of.ensures c.write_record.ensures.out
