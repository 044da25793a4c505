-- `choice::marking::choose_peb` meets its contract. Assumes nothing.
use mathlib.Core.Path.{refl, sym, ◌∙◌}
use Rattle.choice.proofs.Marks.{marked_lower, marked_one}
use Rattle.choice.proofs.marking.choose_peb.Goals as goal

pub returns-then-has_lower_copy : goal.returns-then-has_lower_copy
returns-then-has_lower_copy c =
    (marked_lower c.requires.1.1 (sym c.has_lower_copy.ensures ∙ c.if-has_lower_copy.true), refl)

pub returns : goal.returns
returns c =
    let p = c.requires in
    rw c.set_class.ensures
    (marked_one p.1.1 p.1.0.keyed p.0 (λ z. c.if-volume_word.false (c.volume_word.ensures ∙ z))
    c.chosen_peb-peb.ensures.0 c.chosen_peb-peb.ensures.1)
