-- `attach::attach` keeps its promise. Assumes nothing.
use mathlib.Core.Path.{sym}
use Rattle.std.proofs.Common.{Err}
use Rattle.std.proofs.lemmas.Result.{err_from_is_err_and}
use Rattle.base.specs.Answers.{given}
use Rattle.geometry.specs.Geometry.{geometry_read}
use Rattle.geometry.proofs.Laws.{slip_placed}
use Rattle.report.specs.Attach.{lent}
use Rattle.attach.proofs.Stages.{slip_ended, promised}
use Rattle.attach.proofs.attach.Goals as goal

pub attach_image-requires : goal.attach_image-requires
attach_image-requires c = slip_placed c.args.slip.now c.in_ok-g.g (sym c.in_ok-g.ensures)

pub returns-in_err-g : goal.returns-in_err-g
returns-in_err-g c =
    let a = c.args in
    let t = lent a.pebs.now a.map.now a.states.now in
    let e = c.in_err-g.field-0.0 in
    let p = err_from_is_err_and c.from_residual.result c.from_residual.ensures.1 in
    let q = promised a.slip.now a.image.now t (geometry_read (Err e)) c.in_err-g.ensures (slip_ended e a.image.now t) in
    rw (p.1, p.2) (record { answer = q.0; tables = q.1 })

pub returns : goal.returns
returns c =
    let a = c.args in
    let t = lent a.pebs.now a.map.now a.states.now in
    let q = promised a.slip.now a.image.now t (given c.in_ok-g.g) c.in_ok-g.ensures c.attach_image.ensures in
    record { answer = q.0; tables = q.1 }
