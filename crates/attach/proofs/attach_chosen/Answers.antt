-- `attach::attach_chosen` meets its contract. Assumes nothing.
use Rattle.summary.proofs.Ends.{ended_refused}
use Rattle.attach.proofs.Stages.{table_past, no_table}
use Rattle.attach.proofs.attach_chosen.Goals as goal

pub returns-in_default : goal.returns-in_default
returns-in_default c =
    let q = no_table c.requires c.layout_content-copy0.ensures c.layout_content-copy1.ensures
    c.choose_table-choice.result.taken in
    ended_refused _ (q c.choose_table-choice.ensures.taken c.in_default.is) c.refuse.ensures

pub report_on-requires : goal.report_on-requires
report_on-requires c =
    table_past c.requires c.layout_content-copy0.ensures c.layout_content-copy1.ensures
    c.choose_table-choice.result.taken
    c.choose_table-choice.ensures.taken c.choose_table-choice.ensures.mark c.in-Some.is
    c.taken_table-table.ensures
