-- `mover_next::next_write` meets its contract. Assumes nothing.
use Rattle.mover_steps.proofs.Rules.{not_measured}
use Rattle.mover_next.proofs.Upcoming.{next_refused}
use Rattle.mover_next.proofs.next_write.Goals as goal

pub returns-in-None : goal.returns-in-None
returns-in-None c =
    let a = c.args in
    next_refused a.plan a.image.now (not_measured a.plan a.image.now c.in-None.ensures.outside)
