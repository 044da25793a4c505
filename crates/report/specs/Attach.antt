-- 01 'The report' and 'Refusal numbers': what attaching answers, and what the lent tables hold afterwards. Assumes
-- nothing.
use Rattle.std.specs.Prelude.{ℕ, ◌-◌, ◌*◌, Bool, cond, List, [], ◌∷◌, ◌++◌, leb, length, drop, replicate, Result, Ok, Err}
use Rattle.std.proofs.Math.Option.{Option, none, some}
use Rattle.base.specs.Answers.{Answer, given, refused, all_of}
use Rattle.base.specs.Lists.{table}
use Rattle.words.specs.Words.{peb_stride, entry_stride, no_word}
use Rattle.base.specs.Below.{concat_below}
use Rattle.geometry.specs.Image.{peb_count_of, image_rules}
use Rattle.geometry.specs.Slip.{slip_geometry}
use Rattle.geometry.specs.declared.Geometry.{Geometry}
use Rattle.report.specs.View.{Medium, medium_of, copies}
use Rattle.report.specs.Scan.{Refusal, image_seq_of}
use Rattle.report.specs.Volumes.{Entry}
use Rattle.report.specs.Report.{class_at, counter_at, entries, state_at, mean_of, highest_of, read_only_of, grade_of, taken, mark, refusal}
use Rattle.report.specs.declared.Report.{Report}
use Rattle.refusals.specs.declared.Refused.{Refused}

-- the lent tables: the words of the PEBs, of the map and of the volume states
pub record Tables : Type 0 where
  pub pebs : List ℕ
  pub map : List ℕ
  pub states : List ℕ

abbrev pub lent : List ℕ → List ℕ → List ℕ → Tables
lent pebs map states = record { pebs = pebs; map = map; states = states }

-- refusal 4: "a lent table .. is too short"
unfoldable pub room_rules : Tables → ℕ → List Bool
room_rules t n =
    leb (n * peb_stride) (length t.pebs) ∷ leb (n * entry_stride) (length t.map) ∷ leb 128 (length t.states) ∷ []

abbrev pub long_enough : Tables → ℕ → Bool
long_enough t n = all_of (room_rules t n)

-- 01 'The mover's steps': "Inputs of attaching other than image and lent tables"
pub record AttachRequest : Type 0 where
  pub slip : List ℕ

abbrev pub request : List ℕ → AttachRequest
request slip = record { slip = slip }

-- what attaching comes to: a refusal 1 to 4, which changes nothing lent; a refusal 5 to 12 of an image of so many PEBs;
-- or a report
pub data Outcome : Type 0 where
  early : ℕ → Outcome
  late : ℕ → Refusal → Outcome
  whole : Medium → Outcome

abbrev pub by_refusal : Medium → Option Refusal → Outcome
by_refusal m (some r) = late m.count r
by_refusal m none = whole m

-- an image of a geometry; `room` says of a PEB count whether the lent tables are long enough for it
module _ (image : List ℕ) (room : ℕ → Bool) where
  abbrev pub by_geometry : Answer Geometry → Outcome
  by_geometry (refused k p) = early k
  by_geometry (given g) =
      cond (all_of (image_rules g image)) (cond (room (peb_count_of g image))
      (by_refusal (medium_of g (peb_count_of g image) image) (refusal (medium_of g (peb_count_of g image) image))) (early 4))
      (early 3)

-- "in order of checking"
unfoldable pub attaching : AttachRequest → List ℕ → (ℕ → Bool) → Outcome
attaching r image room = by_geometry image room (slip_geometry r.slip)

-- into these lent tables
abbrev pub attaching_into : AttachRequest → List ℕ → Tables → Outcome
attaching_into r image t = attaching r image (long_enough t)

abbrev pub answer_or : ℕ → Answer ℕ → ℕ
answer_or x (given k) = k
answer_or x (refused k p) = x

-- the report's numbers; beside them, ours: the geometry, and "the image sequence that refusal 7 compares with", "or
-- zero if there is none" (02 2026-02)
unfoldable pub report_of : Medium → Report
report_of m = record {
  geometry = m.geometry;
  peb_count = m.count;
  entries = length (entries m);
  mean = mean_of m;
  highest = highest_of m.count (copies m.views);
  image_seq = image_seq_of m.count m.views;
  read_only = read_only_of m.count (copies m.views);
  table = answer_or 0 (taken m);
  copies_mark = mark m;
  grade = grade_of m;
}

-- the answer
abbrev pub answer_of : Outcome → Answer Report
answer_of (early k) = refused k 0
answer_of (late n r) = refused r.number r.place
answer_of (whole m) = given (report_of m)

-- what each case of the answer is in 01
abbrev pub attached_answer : Result Report Refused → Answer Report
attached_answer (Ok r) = given r
attached_answer (Err e) = refused e.number e.place

-- lent words of which the first are given; "lent words .. beyond an answer .. never change"
abbrev pub over : List ℕ → List ℕ → List ℕ
over ws lent = ws ++ drop (length ws) lent

-- "Per PEB two u32 words: class, and counter"
unfoldable pub peb_words : Medium → List ℕ
peb_words m = concat_below m.count (λ i. class_at m i ∷ counter_at m i ∷ [])

-- "three words per entry (volume, LEB, PEB)"
abbrev pub entry_words : List Entry → List ℕ
entry_words [] = []
entry_words (e ∷ es) = e.volume ∷ e.lnum ∷ e.peb ∷ entry_words es

-- "Unused words up to 3 times PEB count in the map become 0xFFFFFFFF"
unfoldable pub map_words : ℕ → List Entry → List ℕ
map_words n es = entry_words es ++ replicate (n * entry_stride - length (entry_words es)) no_word

-- "Volume states: 128 words."
unfoldable pub state_words : Medium → List ℕ
state_words m = table (state_at m) 0 128

-- "Refusals 1 to 4 .. change nothing lent; 5 to 12 fill all needed report words with 0xFFFFFFFF."
abbrev pub tables_after : Outcome → Tables → Tables
tables_after (early k) t = t
tables_after (late n r) t =
    lent (over (replicate (n * peb_stride) no_word) t.pebs) (over (replicate (n * entry_stride) no_word) t.map)
    (over (replicate 128 no_word) t.states)
tables_after (whole m) t =
    lent (over (peb_words m) t.pebs) (over (map_words m.count (entries m)) t.map) (over (state_words m) t.states)
