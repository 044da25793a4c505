-- What the contracts here cite: where a LEB's chosen copy is found in the words. No public promise names it. Assumes
-- nothing.
use Rattle.std.specs.Prelude.{◌≡◌, Bool, true, false, ◌&&◌, List, ◌++◌, ℕ, ◌≤◌, ◌<◌, eqb, length, drop, Option, MatchOption}
use Rattle.words.specs.Words.{peb_words_needed, class_word, volume_word, lnum_word}
use Rattle.geometry.specs.declared.Geometry.{Geometry}
use Rattle.report.specs.View.{medium_of, views_of}
use Rattle.report.specs.Report.{places}
use Rattle.report.specs.Scratch.{marked_words}
use Rattle.choice.specs.Keyed.{Keyed}

-- do the words of PEB j say that it is chosen for this volume and LEB?
abbrev pub is_chosen : List ℕ → List ℕ → ℕ → ℕ → ℕ → Bool
is_chosen pebs map v l j = eqb (class_word pebs j) 1 && (eqb (volume_word map j) v && eqb (lnum_word map j) l)

-- r is the first of the n PEBs that is chosen for this volume and LEB
pub record FoundAt (pebs map : List ℕ) (n v l r : ℕ) : Type 0 where
  pub range : r < n
  pub none_before : (j : ℕ) → j < r → is_chosen pebs map v l j ≡ false
  pub is : is_chosen pebs map v l r ≡ true

-- the first, if there is one
abbrev pub Found : List ℕ → List ℕ → ℕ → ℕ → ℕ → Option ℕ → Type 0
Found pebs map n v l r =
    MatchOption r ((j : ℕ) → j < n → is_chosen pebs map v l j ≡ false) (λ i. FoundAt pebs map n v l i)

-- an image of n PEBs whose chosen copies are marked in the words
pub record Chosen (g : Geometry) (image : List ℕ) (n : ℕ) (map pebs : List ℕ) : Type 0 where
  pub keyed : Keyed g image n map
  pub long_pebs : peb_words_needed n ≤ length pebs
  pub pebs_are : pebs ≡ marked_words (places (medium_of g n image)) n (views_of g image) ++ drop (peb_words_needed n) pebs
