-- `attach::attach_pebs` meets its contract. Assumes nothing.
use Rattle.summary.proofs.Ends.{ended_from, ended_refused}
use Rattle.attach.proofs.Stages.{pass_refusal, pass_beyond, past_eight}
use borrow.Author.Rules.{rules}
use Rattle.attach.proofs.attach_pebs.Goals as goal

pub attach_passed-requires : goal.attach_passed-requires
attach_passed-requires c = past_eight c.requires c.in-Ok.ensures (search rules) (search rules)

pub returns-in-Ok : goal.returns-in-Ok
returns-in-Ok c = ended_from _ c.requires.least (pass_beyond c.requires c.in-Ok.ensures) c.attach_passed.ensures

pub returns-in-Err : goal.returns-in-Err
returns-in-Err c =
    let rm = c.requires in
    ended_from _ rm.least (pass_beyond rm c.in-Err.ensures)
    (ended_refused _ (pass_refusal rm c.in-Err.ensures) c.refuse.ensures)
