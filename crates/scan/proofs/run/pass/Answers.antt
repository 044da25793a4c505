-- `scan::run::pass` meets its contract: the PEBs passed so far have given no refusal, and their totals and words are
-- there. Assumes nothing.
use mathlib.Core.Path.{◌≡◌}
use borrow.Author.Rules.{rules}
use native.Mathlib.Omega.{arith}
use Rattle.std.proofs.Common.{Ok, Err}
use Rattle.std.proofs.lemmas.Result.{err_from_is_err_and}
use Prim.Native.Nat.{ℕ}
use Rattle.refusals.specs.declared.Refused.{Refused}
use Rattle.report.specs.View.{views_of, medium_of}
use Rattle.scan.proofs.Passes.{passing_none, pass_on, pass_refused, pass_whole}
use Rattle.scan.proofs.run.pass.Goals as goal

pub loop-i-init : goal.loop-i-init
loop-i-init c =
    let a = c.args in
    passing_none (medium_of a.g a.n a.image.now) (c.no_totals-s.ensures (views_of a.g a.image.now))

abbrev refused_by : ℕ → ℕ → Refused
refused_by k i = record { number = k; place = i }

pub returns-in_err-s : goal.returns-in_err-s
returns-in_err-s c =
    let a = c.args in
    let p = err_from_is_err_and c.from_residual.result c.from_residual.ensures.1 in
    let z : (k : ℕ) × (c.pass_peb.result ≡ Err k) × (c.in_err-s.field-0.0 ≡ refused_by k c.loop-i.i-counter) =
    search rules in
    rw (p.1, p.2, z.2)
    (pass_refused a.g a.n a.image.now c.loop-i.invariant (omega arith) c.pass_peb.ensures {k = z.0} z.1)

pub loop-i-preserved : goal.loop-i-preserved
loop-i-preserved c =
    let a = c.args in
    let z : c.pass_peb.result ≡ Ok c.in_ok-s.s = search rules in
    pass_on a.g a.n a.image.now c.loop-i.invariant (omega arith) c.pass_peb.ensures z

pub returns : goal.returns
returns c =
    let l = c.loop-i in
    let e : l.i-counter ≡ c.args.n = omega arith in
    pass_whole (rw e at l.invariant)
