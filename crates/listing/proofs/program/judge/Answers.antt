-- `listing::program::judge` meets its contract. Assumes nothing.
use Rattle.std.proofs.lemmas.List.{take_min, drop_min}
use Rattle.listing.proofs.Texts.{long_judged, short_judged}
use Rattle.listing.proofs.program.judge.Goals as goal

pub returns-then-too_much : goal.returns-then-too_much
returns-then-too_much c =
    let input = c.args.input.now in
    let q = long_judged input c.args.more (cc) c.refuse_long.ensures (cc (take_min 20 input)) c.requires in
    record { answer = q.0; tables = q.1 }

pub returns : goal.returns
returns c =
    let input = c.args.input.now in
    let a = c.attach.ensures in
    let q = short_judged input c.args.more (cc) (cc (take_min 20 input)) (cc (drop_min 20 input)) c.requires a.answer
    a.tables in
    record { answer = q.0; tables = q.1 }
