-- `mover_checks::block::to_delete_at` meets its contract. Assumes nothing.
use mathlib.Core.Path.{◌∙◌}
use Rattle.report.specs.View.{medium_of}
use Rattle.mover_checks.proofs.Words.{kept}
use Rattle.mover_checks.proofs.block.to_delete_at.Goals as goal

pub returns-then-not-to_delete : goal.returns-then-not-to_delete
returns-then-not-to_delete c =
    let a = c.args in
    kept (medium_of a.g a.n a.image.now) a.i
    (c.class_word-to_delete.ensures ∙ c.requires.0.classes a.i c.requires.1) c.if-not-to_delete.true
