-- `listing::program::list_into` meets its contract. Assumes nothing.
use Rattle.listing.proofs.Texts.{listed_by}
use Rattle.listing.proofs.program.list_into.Goals as goal

pub returns : goal.returns
returns c =
    let a = c.args in
    let q = listed_by a.input.now a.more a.out.now c.judge-a.ensures.answer c.judge-a.ensures.tables c.render.ensures.answer c.render.ensures.out in
    record { answer = q.0; out = q.1; room = c.render.ensures.room }
