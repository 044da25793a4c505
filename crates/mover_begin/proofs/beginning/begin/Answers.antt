-- `mover_begin::beginning::begin` keeps its promise. Assumes nothing.
use Rattle.std.proofs.lemmas.Result.{err_from_is_err_and}
use Rattle.report.specs.Attach.{request, lent, long_enough, attaching_into}
use Rattle.mover_rules.specs.Begin.{beginning}
use Rattle.mover_begin.proofs.Attached.{begins, begun, refused_too}
use native.Mathlib.Omega.{arith}
use Rattle.mover_begin.proofs.beginning.begin.Goals as goal

pub returns-in_err-report-clause-answer : goal.returns-in_err-report-clause-answer
unfolding beginning
returns-in_err-report-clause-answer c =
    let a = c.args in
    let e = c.in_err-report.field-0.0 in
    let p = err_from_is_err_and c.from_residual.result c.from_residual.ensures.1 in
    rw (p.1, p.2)
    (refused_too (attaching_into (request a.slip.now) a.image.now (lent a.pebs.now a.map.now a.states.now))
    e.number e.place a.volume a.lnum a.target c.in_err-report.ensures.answer)

pub plan_move-requires : goal.plan_move-requires
plan_move-requires c =
    let a = c.args in
    let t = lent a.pebs.now a.map.now a.states.now in
    begins (request a.slip.now) a.image.now (long_enough t) c.in_ok-report.report c.in_ok-report.ensures.answer
    (λ k. omega (arith, c.type_inv.image k)) t c.in_ok-report.ensures.tables

pub returns-clause-answer : goal.returns-clause-answer
returns-clause-answer c =
    let a = c.args in
    begun (request a.slip.now) a.image.now (long_enough (lent a.pebs.now a.map.now a.states.now)) c.in_ok-report.report
    c.in_ok-report.ensures.answer a.volume a.lnum a.target c.plan_move.ensures
