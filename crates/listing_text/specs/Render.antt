-- Writing a listing's text into a lent buffer. Assumes nothing.
use Rattle.std.specs.Prelude.{ℕ, ◌*◌, ◌≤◌, Bool, true, ◌&&◌, cond, List, [], ◌∷◌, leb, length, Result, Ok, Err}
use Rattle.base.specs.Answers.{Answer, given, refused, all_of}
use Rattle.report.specs.declared.Report.{Report}
use Rattle.report.specs.Attach.{Tables, over}
use Rattle.listing_text.specs.Text.{text_of}
use Rattle.listing_text.specs.declared.TooShort.{TooShort}

-- the words of which a listing's lines are made stand in the tables
abbrev pub tables_hold : Answer Report → Tables → Bool
tables_hold (given r) t =
    all_of (leb (r.peb_count * 2) (length t.pebs) ∷ leb (r.entries * 3) (length t.map)
    ∷ leb 128 (length t.states) ∷ [])
tables_hold (refused k p) t = true

module _ (a : Answer Report) (t : Tables) (out : List ℕ) where
  -- refusal 4: "a lent table .. is too short", and so here the text's buffer
  unfoldable pub has_room : Bool
  has_room = tables_hold a t && leb (length (text_of a t)) (length out)

  -- the text's length, or refusal 4
  unfoldable pub rendering : Answer ℕ
  rendering = cond has_room (given (length (text_of a t))) (refused 4 0)

  -- "Refusals 1 to 4 .. change nothing lent"; "lent .. bytes beyond an answer .. never change"
  unfoldable pub out_after : List ℕ
  out_after = cond has_room (over (text_of a t) out) out

abbrev pub rendered_answer : Result ℕ TooShort → Answer ℕ
rendered_answer (Ok n) = given n
rendered_answer (Err s) = refused 4 0

-- the text lies within the buffer
abbrev pub within : Result ℕ TooShort → List ℕ → Type 0
within (Ok n) out = n ≤ length out
within (Err s) out = Unit {0}
