-- `builder_table::table::volumes_good` meets its contract. Assumes nothing.
use mathlib.Core.Path.{sym, ◌∙◌}
use native.Mathlib.Omega.{arith}
use Rattle.builder_table.proofs.Laws.{not_fit, too_many_volumes, table_decides}
use Rattle.builder_table.proofs.table.volumes_good.Goals as goal

pub returns-then-record_count-count-clause-good : goal.returns-then-record_count-count-clause-good
returns-then-record_count-count-clause-good c =
    let a = c.args in too_many_volumes a.g a.peb_count a.slip.now (omega arith)

pub returns-then-not-values_fit-clause-good : goal.returns-then-not-values_fit-clause-good
returns-then-not-values_fit-clause-good c =
    let a = c.args in not_fit a.g a.peb_count a.slip.now (sym c.values_fit.ensures ∙ c.if-not-values_fit.true)

pub returns-clause-good : goal.returns-clause-good
returns-clause-good c =
    let a = c.args in
    table_decides a.g a.peb_count a.slip.now (sym c.values_fit.ensures ∙ c.if-not-values_fit.false) (omega arith)
    c.fill_table.ensures c.table_good.ensures
