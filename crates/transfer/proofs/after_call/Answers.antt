-- `transfer::after_call` meets its contract. Assumes nothing.
use mathlib.Core.Path.{◌∙◌}
use mir.Facts.{to_z-of_z}
use Rattle.transfer.proofs.Laws.{counted, not_counted}
use Rattle.transfer.proofs.after_call.Goals as goal

pub returns-in-Ok : goal.returns-in-Ok
returns-in-Ok c =
    let a = c.args in
    let f = rw (to_z-of_z c.ranges.got) at c.in-Ok.ensures in
    c.after_bytes.ensures ∙ counted a.room a.p a.got a.interrupted c.in-Ok.n f.0 f.1

pub returns-in-Err : goal.returns-in-Err
returns-in-Err c =
    let a = c.args in
    let f = rw (to_z-of_z c.ranges.got) at c.in-Err.ensures in
    c.after_error.ensures ∙ not_counted a.room a.p a.got a.interrupted c.ranges.got f
