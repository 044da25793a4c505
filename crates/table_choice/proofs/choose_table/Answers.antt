-- `table_choice::choose_table` meets its contract. Assumes nothing.
use mathlib.Core.Path.{sym, ◌∙◌}
use Rattle.volume_table.proofs.Tables.{chosen_equal, chosen_unequal}
use Rattle.table_choice.proofs.choose_table.Goals as goal

pub returns-then-same : goal.returns-then-same
returns-then-same c =
    let a = c.args in
    let q = chosen_equal a.leb_size a.unit a.peb_count a.copy0.now a.copy1.now
    c.table_good-good0.ensures
    (rw (← c.records_part.ensures, ← c.records_part-2.ensures)
    (sym c.same.ensures ∙ c.if-same.true))
    c.choice_of_equal.ensures.0 c.choice_of_equal.ensures.1 in record { taken = q.0; mark = q.1 }

pub returns : goal.returns
returns c =
    let a = c.args in
    let q = chosen_unequal a.leb_size a.unit a.peb_count a.copy0.now a.copy1.now
    c.table_good-good0.ensures c.table_good.ensures
    (rw (← c.records_part.ensures, ← c.records_part-2.ensures)
    (sym c.same.ensures ∙ c.if-same.false))
    c.choice_of.ensures.0 c.choice_of.ensures.1 in record { taken = q.0; mark = q.1 }
