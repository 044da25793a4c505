-- What the contracts here cite: the class words while copies are chosen. No public promise names them. Assumes nothing.
use Rattle.std.specs.Prelude.{◌≡◌, ◌⊎◌, ℕ, ◌≤◌, ◌<◌, List, length}
use Rattle.std.proofs.Math.Option.{none, some}
use Rattle.words.specs.Words.{no_word, peb_words_needed, class_word, counter_word, volume_word, lnum_word}
use Rattle.geometry.specs.declared.Geometry.{Geometry}
use Rattle.report.specs.View.{Medium, views_of, ecs, copies}
use Rattle.report.specs.Class.{first_class}
use Rattle.report.specs.Choice.{refusal9}
use Rattle.report.specs.Report.{counter_or, places}
use Rattle.report.specs.Scratch.{marked_class}
use Rattle.choice.specs.Keyed.{Holds, Keyed}
use Rattle.choice.specs.Chain.{Chained}

-- the copies are linked, and none repeats another
pub record Linking (g : Geometry) (image : List ℕ) (n : ℕ) (map heads : List ℕ) : Type 0 where
  pub keyed : Keyed g image n map
  pub chained : Chained n n map heads
  pub no_repeat : refusal9 n (copies (views_of g image)) ≡ none

-- a class word is that of the first pass, or marked already; it is marked if it is of the chosen copy of a LEB that a
-- PEB below i has
pub record MarkedTo (m : Medium) (map pebs : List ℕ) (i : ℕ) : Type 0 where
  pub long : peb_words_needed m.count ≤ length pebs
  pub counters : (p : ℕ) → p < m.count → counter_word pebs p ≡ counter_or no_word (ecs m.views p)
  pub classes : (p : ℕ) → p < m.count
      → (class_word pebs p ≡ first_class (m.views p).ec (m.views p).vid)
      ⊎ (class_word pebs p ≡ marked_class (places m) p (m.views p).ec (m.views p).vid)
  pub chosen : (k : ℕ) → k < i → (Holds map k)
      → (p : ℕ) → places m (volume_word map k) (lnum_word map k) ≡ some p → class_word pebs p ≡ 1
