-- `grade::grade` meets its contract. Assumes nothing.
use mathlib.Core.Path.{sym, ◌∙◌}
use mathlib.Core.Bool.{true, false}
use Rattle.grade.proofs.Graded.{graded}
use Rattle.grade.proofs.grade.Goals as goal

pub returns-then-is_sound : goal.returns-then-is_sound
returns-then-is_sound c = λ g image o. graded o true (sym c.is_sound.ensures ∙ c.if-is_sound.true)

pub returns : goal.returns
returns c = λ g image o. graded o false (sym c.is_sound.ensures ∙ c.if-is_sound.false)
