-- `builder::build` keeps its promise. Assumes nothing.
use mathlib.Core.Path.{refl, sym}
use Rattle.std.proofs.lemmas.Result.{err_from_is_err_and}
use Rattle.base.specs.Answers.{given}
use Rattle.builder.proofs.Laws.{geometry_placed, promised, slip_refuses}
use Rattle.builder.proofs.build.Goals as goal

pub returns-in_err-g : goal.returns-in_err-g
returns-in_err-g c =
    let a = c.args in
    let p = err_from_is_err_and c.from_residual.result c.from_residual.ensures.1 in
    let q = slip_refuses a.slip.now a.image_seq a.lengths.now a.content.now a.image.now
    c.in_err-g.field-0.0 c.in_err-g.ensures in
    record { answer = rw (p.1, p.2) q.0; image = q.1 }

pub build_chip-requires : goal.build_chip-requires
build_chip-requires c =
    ((geometry_placed c.args.slip.now c.in_ok-g.g (sym c.in_ok-g.ensures), c.volume_fields-fields.ensures.count), refl)

pub returns : goal.returns
returns c =
    let a = c.args in
    let q = promised a.slip.now a.image_seq a.lengths.now a.content.now a.image.now
    (given c.in_ok-g.g) c.in_ok-g.ensures
    (c.build_chip.ensures.answer, c.build_chip.ensures.image) in
    record { answer = q.0; image = q.1 }
