-- `scan::run::pass_peb` meets its contract. Assumes nothing.
use mathlib.Core.Path.{refl}
use mathlib.Core.Option.{none, some}
use Rattle.std.proofs.lemmas.Result.{err_from_is_err_and}
use Rattle.report.specs.View.{view_of}
use Rattle.scan.proofs.OnePeb.{small_view, EcPassed, VidPassed, ec_refused, vid_refused, peb_passed}
use Rattle.scan.proofs.run.pass_peb.Goals as goal

pub with_ec-ec-requires : goal.with_ec-ec-requires
with_ec-ec-requires c =
    (c.requires.small, rw c.see_ec-e.ensures (small_view c.args.g c.args.p.now))

pub returns-in_err-check_ec : goal.returns-in_err-check_ec
returns-in_err-check_ec c =
    let a = c.args in
    let p = err_from_is_err_and c.from_residual.result c.from_residual.ensures.1 in
    let x : EcPassed a.g (view_of a.g a.p.now) a.s c.see_ec-e.result c.with_ec-ec.result
    (some c.in_err-check_ec.field-0.0) = record {
      seen = c.see_ec-e.ensures;
      totals = c.with_ec-ec.ensures;
      refusal = c.in_err-check_ec.ensures;
    } in
    rw (p.1, p.2) (ec_refused x refl)

pub returns-in_err-check_vid : goal.returns-in_err-check_vid
returns-in_err-check_vid c =
    let a = c.args in
    let p = err_from_is_err_and c.from_residual-in_err-check_vid.result c.from_residual-in_err-check_vid.ensures.1 in
    let x : EcPassed a.g (view_of a.g a.p.now) a.s c.see_ec-e.result c.with_ec-ec.result none = record {
      seen = c.see_ec-e.ensures;
      totals = c.with_ec-ec.ensures;
      refusal = c.in_ok-check_ec.ensures;
    } in
    let y : VidPassed a.g a.p.now (view_of a.g a.p.now) c.see_vid-v.result (some c.in_err-check_vid.field-0.0) = record {
      seen = c.see_vid-v.ensures;
      refusal = c.in_err-check_vid.ensures a.g a.p.now;
    } in
    rw (p.1, p.2) (vid_refused x refl y refl)

pub first_counter-requires : goal.first_counter-requires
first_counter-requires c =
    let a = c.args in
    rw c.see_ec-e.ensures (small_view a.g a.p.now)

pub returns : goal.returns
returns c =
    let a = c.args in
    let x : EcPassed a.g (view_of a.g a.p.now) a.s c.see_ec-e.result c.with_ec-ec.result none = record {
      seen = c.see_ec-e.ensures;
      totals = c.with_ec-ec.ensures;
      refusal = c.in_ok-check_ec.ensures;
    } in
    let y : VidPassed a.g a.p.now (view_of a.g a.p.now) c.see_vid-v.result none = record {
      seen = c.see_vid-v.ensures;
      refusal = c.in_ok-check_vid.ensures a.g a.p.now;
    } in
    peb_passed x refl y refl
    (c.first_class-class.ensures a.g a.p.now) c.first_counter.ensures
    c.is_idle.ensures (c.with_vid-vid.ensures a.g a.p.now) c.store_peb.ensures
    (c.store_key.ensures a.g a.p.now)
