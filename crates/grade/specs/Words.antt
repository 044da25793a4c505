-- What the contracts here cite: the words of the report, from which it is graded. Assumes nothing.
use Rattle.std.specs.Prelude.{◌≡◌, ℕ, ◌<◌, Bool, false, not, ◌&&◌, ◌||◌, List, eqb, take, get_or}
use Rattle.words.specs.Words.{no_word, peb_words_needed, state_words_needed, class_word, counter_word}
use Rattle.report.specs.View.{Medium, ecs}
use Rattle.report.specs.Report.{has_counter, counter_at, mark}
use Rattle.report.specs.Attach.{peb_words, state_words}

-- do the words of PEB i say that it is readable, and has its counter if it must?
abbrev pub sound_peb : List ℕ → ℕ → Bool
sound_peb pebs i =
    not (eqb (class_word pebs i) 4) && (eqb (class_word pebs i) 3 || not (eqb (counter_word pebs i) no_word))

-- is the state of volume v neither 2 nor 3?
abbrev pub sound_state : List ℕ → ℕ → Bool
sound_state states v = not (eqb (get_or states v 0) 2 || eqb (get_or states v 0) 3)

-- the words are those of the report, and the word of a lost counter is no good counter
pub record Read (m : Medium) (pebs states : List ℕ) (marked : ℕ) : Type 0 where
  pub pebs_are : take (peb_words_needed m.count) pebs ≡ peb_words m
  pub states_are : take state_words_needed states ≡ state_words m
  pub mark_is : marked ≡ mark m
  pub lost_only : (i : ℕ) → i < m.count → counter_at m i ≡ no_word → has_counter (ecs m.views i) ≡ false
