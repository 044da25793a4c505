-- `grade::states_sound` meets its contract. Assumes nothing.
use mathlib.Core.Path.{◌∙◌}
use mathlib.Core.Bool.{not, ◌||◌}
use lib.Dec.{eqb}
use lib.ListN.{take}
use Rattle.std.proofs.Common.{rules, tests}
use Rattle.std.proofs.lemmas.Iterator.{YieldsList-from_slice}
use Rattle.std.proofs.lemmas.Iterator.Search.{all_from_yields_List}
use Rattle.words.specs.Words.{state_words_needed}
use Rattle.grade.proofs.Graded.{all_states}
use Rattle.grade.proofs.states_sound.Goals as goal

pub returns : goal.returns
returns c =
    let s = take state_words_needed c.args.states.now in
    all_from_yields_List (λ s. not (eqb s 2 || eqb s 3)) _ _ _ c.all.ensures.ran (YieldsList-from_slice s cc)
    (λ x b q k. search (rules, tests))
    ∙ all_states c.args.states.now c.requires
