-- 01 'The mover's steps': calls of the mover, and the place book, fed the calls and cut points alone. Assumes nothing.
use Rattle.std.specs.Prelude.{ℕ, Bool, true, ◌&&◌, cond, List}
use Rattle.base.specs.Answers.{Answer, given, refused}
use Rattle.base.specs.Lists.{eqs}
use Rattle.header.specs.Vid.{vid_bytes}
use Rattle.report.specs.Volumes.{Entry, place_written}
use Rattle.report.specs.Attach.{AttachRequest}
use Rattle.job.specs.Course.{Course, to_end, to_stop, image_left, after_all, EachCall}
use Rattle.job.specs.Outcomes.{outcome_of, map_in}
use Rattle.job.specs.Torn.{vid_at, run_at}
use Rattle.mover_rules.specs.declared.Plan.{Plan}
use Rattle.mover_rules.specs.Begin.{beginning}
use Rattle.mover_rules.specs.Write.{plan_geometry}
use Rattle.mover_rules.specs.Step.{mover_job}

-- the LEB to move, the target, and how the move goes on if it is accepted
pub record Call : Type 0 where
  pub volume : ℕ
  pub lnum : ℕ
  pub target : ℕ
  pub course : Course

-- is the new VID header whole? is the data run, that of the old PEB in the image that the move began on? "Bytes equal
-- to the whole count as whole"
unfoldable pub header_whole : Plan → List ℕ → Bool
header_whole p stopped = eqs (vid_at (plan_geometry p) stopped p.target) (vid_bytes p.vid)

unfoldable pub run_whole : Plan → List ℕ → List ℕ → Bool
run_whole p image stopped =
    eqs (run_at (plan_geometry p) p.vid.data_size stopped p.target)
    (run_at (plan_geometry p) p.vid.data_size image p.old)

-- "An accepted move writes its target for its LEB, a stopped one exactly if in its stopped image the new VID header and
-- data run are whole"
unfoldable pub is_written : Plan → List ℕ → Course → List ℕ → Bool
is_written p image (to_end further) last = true
is_written p image (to_stop s) last = header_whole p last && run_whole p image last

-- an image, with the place book of 01 beside it
pub record WithBook : Type 0 where
  pub image : List ℕ
  pub book : List Entry

-- the place book with the call's target for its LEB
abbrev pub written : Call → List Entry → List Entry
written c book = place_written c.volume c.lnum c.target book

-- what a call leaves, by the answer of its beginning; "a refused one writes nothing".
unfoldable pub call_left : WithBook → Call → Answer Plan → WithBook
call_left x c (refused k q) = x
call_left x c (given p) =
    let last : List ℕ = image_left mover_job p x.image c.course in
    record { image = last; book = cond (is_written p x.image c.course last) (written c x.book) x.book }

module _ (req : AttachRequest) where
  -- what the beginning of a call answers, with tables long enough
  unfoldable pub begun : List ℕ → Call → Answer Plan
  begun image c = beginning req image (λ n. true) c.volume c.lnum c.target

  unfoldable pub after_call : WithBook → Call → WithBook
  after_call x c = call_left x c (begun x.image c)

  -- "The place book starts as the first map, beside the first image"
  unfoldable pub at_first : List ℕ → WithBook
  at_first image = record { image = image; book = map_in (outcome_of req image) }

  abbrev pub after_calls : WithBook → List Call → WithBook
  after_calls = after_all after_call

  -- a statement on every call of a list, with the image that the calls before it left, and the one that it leaves
  abbrev pub Each : (List ℕ → Call → List ℕ → Type 0) → WithBook → List Call → Type 0
  Each S = EachCall after_call (λ (x : WithBook) (c : Call) (y : WithBook). S x.image c y.image)
