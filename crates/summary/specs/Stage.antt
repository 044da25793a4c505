-- What the contracts here cite: what is known at each stage of attaching, and how it ends. No public promise names
-- them. Assumes nothing.
use Rattle.std.specs.Prelude.{◌≡◌, ℕ, ◌*◌, ◌≤◌, List, ◌++◌, length, take, drop, Result}
use Rattle.std.proofs.Math.Option.{none}
use Rattle.base.specs.Answers.{given}
use Rattle.words.specs.Words.{peb_words_needed, map_words_needed, state_words_needed}
use Rattle.geometry.specs.declared.Geometry.{Geometry}
use Rattle.geometry.specs.Placed.{Placed}
use Rattle.report.specs.View.{views_of, medium_of, copies}
use Rattle.report.specs.Scan.{refusal5678, refusal10}
use Rattle.report.specs.Choice.{refusal9}
use Rattle.report.specs.Report.{refusal, records, taken, mark}
use Rattle.report.specs.Attach.{Outcome, Tables, by_refusal, attached_answer, answer_of, tables_after, peb_words}
use Rattle.report.specs.declared.Report.{Report}
use Rattle.refusals.specs.declared.Refused.{Refused}
use Rattle.report.specs.Scratch.{keys_of}
use Rattle.scan.specs.Pass.{TotalsOf, first_words_of}
use Rattle.scan.specs.declared.ScanTotals.{ScanTotals}
use Rattle.layout.specs.Layout.{Chosen}
use Rattle.volumes.specs.Sorted.{NoMisfit}

-- the answer, and the lent tables after it, from those before
pub record Ended (o : Outcome) (r : Result Report Refused) (before after : Tables) : Type 0 where
  pub answer : attached_answer r ≡ answer_of o
  pub tables_are : after ≡ tables_after o before

-- what an image of n PEBs comes to
abbrev pub outcome : Geometry → ℕ → List ℕ → Outcome
outcome g n image = by_refusal (medium_of g n image) (refusal (medium_of g n image))

-- the words beyond those that n PEBs need are the same
pub record SameBeyond (n : ℕ) (before now : Tables) : Type 0 where
  pub pebs_tail : drop (peb_words_needed n) now.pebs ≡ drop (peb_words_needed n) before.pebs
  pub map_tail : drop (map_words_needed n) now.map ≡ drop (map_words_needed n) before.map
  pub states_tail : drop state_words_needed now.states ≡ drop state_words_needed before.states

-- an image of 2 to 4,096 PEBs, and lent tables that are long enough
pub record Room (g : Geometry) (n : ℕ) (image : List ℕ) (t : Tables) : Type 0 where
  pub placed : Placed g
  pub whole : length image ≡ n * g.peb_size
  pub least : 2 ≤ n
  pub few : n ≤ 4096
  pub long_pebs : peb_words_needed n ≤ length t.pebs
  pub long_map : map_words_needed n ≤ length t.map
  pub long_states : state_words_needed ≤ length t.states

-- refusals 5 to 8 are past, and the words are those of the first pass
pub record Past8 (g : Geometry) (n : ℕ) (image : List ℕ) (s : ScanTotals) (t : Tables) : Type 0 where
  pub room : Room g n image t
  pub totals : TotalsOf n (views_of g image) s
  pub no5678 : refusal5678 (medium_of g n image) ≡ none
  pub pebs_are : t.pebs ≡ first_words_of n (views_of g image) ++ drop (peb_words_needed n) t.pebs
  pub map_is : t.map ≡ keys_of n (views_of g image) ++ drop (map_words_needed n) t.map

-- refusals 5 to 10 are past, and the chosen copies marked
pub record Past10 (g : Geometry) (n : ℕ) (image : List ℕ) (s : ScanTotals) (t : Tables) : Type 0 where
  pub room : Room g n image t
  pub chosen : Chosen g image n t.map t.pebs
  pub totals : TotalsOf n (views_of g image) s
  pub no5678 : refusal5678 (medium_of g n image) ≡ none
  pub no9 : refusal9 n (copies (views_of g image)) ≡ none
  pub no10 : refusal10 (medium_of g n image) ≡ none

-- refusal 11 is past, and the table taken is known: its records, its LEB and the copies mark
pub record Past11 (g : Geometry) (n : ℕ) (image : List ℕ) (s : ScanTotals) (r : List ℕ) (l k : ℕ)
    (t : Tables) : Type 0 where
  pub past10 : Past10 g n image s t
  pub table_is : r ≡ records (medium_of g n image)
  pub taken_is : taken (medium_of g n image) ≡ given l
  pub mark_is : k ≡ mark (medium_of g n image)

-- refusal 12 is past, and the map made, with so many entries
pub record Past12 (g : Geometry) (n : ℕ) (image : List ℕ) (s : ScanTotals) (r : List ℕ) (l k count : ℕ)
    (t : Tables) : Type 0 where
  pub room : Room g n image t
  pub totals : TotalsOf n (views_of g image) s
  pub pebs_are : take (peb_words_needed n) t.pebs ≡ peb_words (medium_of g n image)
  pub fitting : NoMisfit g n image t.map r count
  pub taken_is : taken (medium_of g n image) ≡ given l
  pub mark_is : k ≡ mark (medium_of g n image)
