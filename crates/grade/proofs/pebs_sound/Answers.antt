-- `grade::pebs_sound` meets its contract. Assumes nothing.
use mathlib.Core.Path.{refl, ◌∙◌}
use native.Mathlib.Omega.{arith}
use Rattle.std.proofs.Common.{rules, tests}
use Rattle.std.proofs.lemmas.Iterator.{YieldsList-from_range}
use Rattle.std.proofs.lemmas.Iterator.Search.{all_from_yields_List}
use Rattle.grade.specs.Words.{sound_peb}
use Rattle.grade.proofs.Graded.{all_in_range}
use Rattle.grade.proofs.pebs_sound.Goals as goal

pub returns : goal.returns
returns c =
    let a = c.args in
    all_from_yields_List (sound_peb a.pebs.now) _ _ _ c.all.ensures.ran
    (YieldsList-from_range 0 a.n a.n refl (omega arith))
    (λ x b q k. search (rules, tests))
    ∙ all_in_range (sound_peb a.pebs.now) a.n
