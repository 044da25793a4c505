-- Demand 3, "a single claim about the list". Assumes nothing.
use Rattle.std.specs.Prelude.{◌≡◌, ◌≢◌, true, List, ℕ, ◌/◌, length, get_or}
use Rattle.std.proofs.Math.Option.{some}
use Rattle.base.specs.Answers.{Answer, given, refused}
use Rattle.report.specs.Attach.{AttachRequest}
use Rattle.job.specs.Course.{Course, to_end, to_stop, Steps}
use Rattle.job.specs.Outcomes.{outcome_of, attaches, table_in, states_in, map_in, content_in, class_in}
use Rattle.mover_rules.specs.declared.Plan.{Plan}
use Rattle.mover_rules.specs.Step.{mover_job}
use Rattle.mover_powercut.specs.Book.{Call, WithBook, begun, at_first, after_calls, Each}

module _ (req : AttachRequest) where
  -- an accepted move that was not cut ended with its old block in class 0
  abbrev pub Freed : Plan → Course → List ℕ → Type 0
  Freed p (to_end further) last = class_in (outcome_of req last) p.old ≡ some 0
  Freed p (to_stop s) last = Unit {0}

  -- an accepted move: no byte outside its two blocks changed
  pub record Moved (p : Plan) (course : Course) (image last : List ℕ) : Type 0 where
    pub same_length : length last ≡ length image
    pub elsewhere : (k : ℕ) → k / p.peb_size ≢ p.old → k / p.peb_size ≢ p.target
        → get_or last k 0 ≡ get_or image k 0
    pub steps : Steps mover_job p image
    pub freed : Freed p course last

  -- a call: a refused one changed nothing
  abbrev pub CallDone : List ℕ → Course → List ℕ → Answer Plan → Type 0
  CallDone image course last (refused k q) = last ≡ image
  CallDone image course last (given p) = Moved p course image last

  unfoldable pub Done : List ℕ → Call → List ℕ → Type 0
  Done image c last = CallDone image c.course last (begun req image c)

  -- the end of a list, beside the first image
  pub record Kept (image : List ℕ) (end : WithBook) : Type 0 where
    pub still_attaches : attaches (outcome_of req end.image) ≡ true
    pub same_table : table_in (outcome_of req end.image) ≡ table_in (outcome_of req image)
    pub same_states : states_in (outcome_of req end.image) ≡ states_in (outcome_of req image)
    pub map_is_book : map_in (outcome_of req end.image) ≡ end.book
    pub same_content : (v l : ℕ) → content_in (outcome_of req end.image) v l ≡ content_in (outcome_of req image) v l

  pub record Claim (image : List ℕ) (calls : List Call) : Type 0 where
    pub kept : Kept image (after_calls req (at_first req image) calls)
    pub each : Each req Done (at_first req image) calls
