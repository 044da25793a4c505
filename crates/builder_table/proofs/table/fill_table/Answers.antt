-- `builder_table::table::fill_table` meets its contract: the records before the i-th are stored. Assumes nothing.
use mathlib.Core.Path.{sym, ◌∙◌}
use native.Mathlib.Omega.{arith}
use Rattle.volume_table.proofs.Tables.{count_small}
use Rattle.builder_rules.proofs.Fields.{row_empty}
use Rattle.builder_table.proofs.Laws.{row_more, whole_table}
use Rattle.builder_table.proofs.table.fill_table.Goals as goal

pub store_records-requires : goal.store_records-requires
store_records-requires c =
    (c.requires.0, (omega (arith, count_small c.args.leb_size), omega arith))

pub loop-i-preserved : goal.loop-i-preserved
loop-i-preserved c =
    let a = c.args in
    let l = c.loop-i in
    rw l.invariant at c.store.ensures
    ∙ row_more a.leb_size a.slip.now c.requires.0.1 l.i _
    (c.empty_record-empty.ensures ∙ sym (row_empty a.leb_size a.slip.now c.requires.0.1 l.i (omega arith)))

pub returns : goal.returns
returns c =
    let a = c.args in
    let l = c.loop-i in
    whole_table a.leb_size a.slip.now c.requires.0.1 l.i _ (omega arith) (omega arith) l.invariant
