-- `mover_begin::beginning::plan_peb` meets its contract. Assumes nothing.
use mathlib.Core.Path.{ap, ◌∙◌}
use mathlib.Core.Option.{some}
use Prim.Native.Nat.{◌*◌}
use Rattle.base.proofs.Lists.{lent_part}
use Rattle.report.specs.View.{Copy}
use Rattle.mover_rules.specs.Begin.{plan_for}
use Rattle.mover_begin.specs.Begins.{medium_in}
use Rattle.mover_begin.proofs.Begins.{copy_there, moved}
use Rattle.mover_begin.proofs.beginning.plan_peb.Goals as goal

pub plan_copy-requires : goal.plan_copy-requires
plan_copy-requires c =
    let a = c.args in
    let g = a.report.geometry in
    let p = lent_part (a.old * g.peb_size) g.peb_size a.image.now in
    (c.requires.0, moved g a.image.now a.old p c.vid_fields-h.ensures c.requires.1.0 c.requires.1.1)

pub returns : goal.returns
returns c =
    let a = c.args in
    let g = a.report.geometry in
    let p = lent_part (a.old * g.peb_size) g.peb_size a.image.now in
    c.plan_copy.ensures
    ∙ ap (λ (x : Copy). plan_for (medium_in a.image.now a.report) a.target (some (a.old, x)))
    (copy_there g a.image.now a.old p c.vid_fields-h.ensures)
