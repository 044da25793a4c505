-- What attaching says of an image, as far as demand 3 speaks of it. Assumes nothing.
use Rattle.std.specs.Prelude.{ℕ, Bool, true, false, List, []}
use Rattle.std.proofs.Math.Option.{Option, none, some}
use Rattle.base.specs.Answers.{Answer, map_o}
use Rattle.report.specs.View.{Medium}
use Rattle.report.specs.Volumes.{Face, Entry}
use Rattle.report.specs.Report.{faces, records, taken, mark, entries, class_at}
use Rattle.report.specs.Attach.{AttachRequest, Outcome, early, late, whole, attaching, state_words}

-- "attaching is judged with tables long enough"
unfoldable pub outcome_of : AttachRequest → List ℕ → Outcome
outcome_of req image = attaching req image (λ n. true)

-- what is asked of an image that attaches, or x of one that does not
abbrev pub if_whole : {A : Type 0} → A → (Medium → A) → Outcome → A
if_whole x f (early k) = x
if_whole x f (late n r) = x
if_whole x f (whole m) = f m

abbrev pub attaches : Outcome → Bool
attaches = if_whole false (λ (m : Medium). true)

-- the table: the layout LEB whose copy was taken, the record bytes, the copies mark
pub record Table : Type 0 where
  pub lnum : Answer ℕ
  pub records : List ℕ
  pub mark : ℕ

abbrev pub table_in : Outcome → Option Table
table_in = if_whole none (λ (m : Medium). some (record { lnum = taken m; records = records m; mark = mark m }))

-- the states of all 128 volumes
abbrev pub states_in : Outcome → List ℕ
states_in = if_whole [] state_words

-- the map
abbrev pub map_in : Outcome → List Entry
map_in = if_whole [] entries

-- the content of a LEB: that of the copy chosen for it
abbrev pub content_in : Outcome → ℕ → ℕ → Option (List ℕ)
content_in o v l = if_whole none (λ (m : Medium). map_o (λ (f : Face). f.content) (faces m v l)) o

-- the class of a PEB
abbrev pub class_in : Outcome → ℕ → Option ℕ
class_in o i = if_whole none (λ (m : Medium). some (class_at m i)) o
