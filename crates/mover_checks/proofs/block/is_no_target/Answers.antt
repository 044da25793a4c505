-- `mover_checks::block::is_no_target` meets its contract. Assumes nothing.
use mathlib.Core.Path.{refl, ◌∙◌}
use Rattle.mover_checks.proofs.Words.{free_target}
use Rattle.mover_checks.proofs.block.is_no_target.Goals as goal

pub returns : goal.returns
returns c =
    let t = c.args.target in let h = c.if-n-i.false in
    free_target c.requires t h (c.class_word.ensures ∙ c.requires.classes t h)
    c.if-class_word-ne-FREE.false refl c.data_end.ensures.0
