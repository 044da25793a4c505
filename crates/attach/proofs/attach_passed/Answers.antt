-- `attach::attach_passed` meets its contract. Assumes nothing.
use Rattle.summary.proofs.Ends.{ended_from, ended_refused}
use Rattle.attach.proofs.Stages.{keyed, link_beyond, repeat_refusal, unused_refusal, linking, mark_beyond, past_ten}
use borrow.Author.Rules.{rules}
use Rattle.attach.proofs.attach_passed.Goals as goal

pub first_repeat-requires : goal.first_repeat-requires
first_repeat-requires c = let o = c.link_copies.ensures in (keyed c.requires o, o.chained.links)

pub returns-in-Some : goal.returns-in-Some
returns-in-Some c =
    let p = c.requires in let o = c.link_copies.ensures in
    ended_from _ p.room.least (link_beyond p o)
    (ended_refused _ (repeat_refusal p o c.in-Some.again c.in-Some.ensures.0) c.refuse.ensures)

pub returns-then-totals : goal.returns-then-totals
returns-then-totals c =
    let p = c.requires in let o = c.link_copies.ensures in
    ended_from _ p.room.least (link_beyond p o)
    (ended_refused _ (unused_refusal p o c.in_default.ensures.0 c.if-totals.true) c.refuse-then-totals.ensures)

pub mark_chosen-requires : goal.mark_chosen-requires
mark_chosen-requires c = linking c.requires c.link_copies.ensures c.in_default.ensures.0

pub attach_chosen-requires : goal.attach_chosen-requires
attach_chosen-requires c =
    past_ten c.requires c.link_copies.ensures c.in_default.ensures.0 (search rules) c.mark_chosen.ensures c.if-totals.false

pub returns : goal.returns
returns c =
    let p = c.requires in
    ended_from _ p.room.least
    (mark_beyond p c.link_copies.ensures c.in_default.ensures.0 (search rules) c.mark_chosen.ensures)
    c.attach_chosen.ensures
