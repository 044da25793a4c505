-- `attach::attach_image` meets its contract. Assumes nothing.
use mathlib.Core.Path.{sym, ◌∙◌}
use Rattle.report.specs.Attach.{lent}
use Rattle.geometry.proofs.Laws.{image_few}
use Rattle.attach.proofs.Stages.{refused3, refused4, room_of, ended_image}
use Rattle.attach.proofs.attach_image.Goals as goal

pub returns-then-not-image_fits : goal.returns-then-not-image_fits
returns-then-not-image_fits c =
    let a = c.args in
    rw c.unplaced.ensures
    (refused3 a.g a.image.now (lent a.pebs.now a.map.now a.states.now)
    (sym c.image_fits.ensures ∙ c.if-not-image_fits.true))

pub long_enough-requires : goal.long_enough-requires
long_enough-requires c =
    let a = c.args in
    image_few a.g a.image.now (sym c.image_fits.ensures ∙ c.if-not-image_fits.false)

pub returns-then-not-long_enough : goal.returns-then-not-long_enough
returns-then-not-long_enough c =
    let a = c.args in
    rw c.unplaced-then-not-long_enough.ensures
    (refused4 a.g a.image.now (lent a.pebs.now a.map.now a.states.now)
    (sym c.image_fits.ensures ∙ c.if-not-image_fits.false)
    (sym c.long_enough.ensures ∙ c.if-not-long_enough.true))

pub attach_pebs-requires : goal.attach_pebs-requires
attach_pebs-requires c =
    let a = c.args in
    room_of a.g a.image.now (lent a.pebs.now a.map.now a.states.now)
    (sym c.image_fits.ensures ∙ c.if-not-image_fits.false)
    (sym c.long_enough.ensures ∙ c.if-not-long_enough.false) c.requires

pub returns : goal.returns
returns c =
    let a = c.args in
    ended_image a.g a.image.now (lent a.pebs.now a.map.now a.states.now)
    (sym c.image_fits.ensures ∙ c.if-not-image_fits.false)
    (sym c.long_enough.ensures ∙ c.if-not-long_enough.false)
    c.attach_pebs.ensures
