-- No power cut loses a block: demand 3. Assumes nothing.
use mathlib.Core.Path.{◌≡◌, refl, sym, ◌∙◌, ap, subst}
use mathlib.Core.Bool.{Bool, true}
use mathlib.Core.Option.{some}
use mathlib.Core.List.{List}
use Prim.Native.Nat.{ℕ}
use Rattle.base.specs.Answers.{Answer, given, refused, map_o}
use Rattle.base.specs.Lists.{table, Bytes}
use Rattle.geometry.specs.declared.Geometry.{Geometry}
use Rattle.geometry.specs.Slip.{slip_geometry}
use Rattle.geometry.specs.Image.{peb_count_of}
use Rattle.report.specs.View.{Copy, Medium, medium_of}
use Rattle.report.specs.Volumes.{Face, Faces, table_leb, table_records, table_mark, state_of}
use Rattle.report.specs.Report.{faces, state_at, entries}
use Rattle.report.specs.Attach.{AttachRequest, Outcome, whole, state_words}
use Rattle.mover_rules.specs.declared.Plan.{Plan}
use Rattle.mover_rules.specs.Begin.{make_plan, plan_of, begin_on, beginning}
use Rattle.mover_rules.proofs.Accepted.{Accepted, accepted}
use Rattle.mover_rules.proofs.Steps.{mover_lawful}
use Rattle.job.specs.Course.{image_left}
use Rattle.job.specs.Outcomes.{outcome_of, attaches, Table, table_in, states_in, map_in, content_in}
use Rattle.job.proofs.Calls.{all_calls}
use Rattle.job.proofs.Outcomes.{Chip, any_room, attached, has_attached}
use Rattle.job.proofs.Finish.{ToEnd, finish_is_to_end}
use Rattle.mover_rules.specs.Step.{mover_job}
use Rattle.mover_powercut.specs.Book.{Call, WithBook, call_left, begun, after_call, at_first, after_calls, Each}
use Rattle.mover_powercut.specs.Premise.{premise_of, Premise}
use Rattle.mover_powercut.specs.Claim.{Moved, CallDone, Done, Claim}
use Rattle.mover_powercut.proofs.Move.{Attachable, after}

module _ (req : AttachRequest) (g : Geometry) (n : ℕ) (chip : Chip req g n) where
  outcome_is : (image : List ℕ) → Attachable g n image → outcome_of req image ≡ whole (medium_of g n image)
  outcome_is image f = attached req g n chip image f.long f.unrefused

  -- an image that attaches, whose map is the place book
  record Held (x : WithBook) : Type 0 where
    still : Attachable g n x.image
    map_is_book : entries (medium_of g n x.image) ≡ x.book

  SameFaces : WithBook → WithBook → Type 0
  SameFaces x y = faces (medium_of g n y.image) ≡ faces (medium_of g n x.image)

  -- ---- one call

  begun_is : (image : List ℕ) (f : Attachable g n image) (c : Call)
      → begun req image c ≡ plan_of (medium_of g n image) c.volume c.lnum c.target
  unfolding begun beginning outcome_of
  begun_is image f c = ap (λ (y : Outcome). begin_on y c.volume c.lnum c.target) (outcome_is image f)

  -- what a call leaves: all that is held, the same faces, and what the claim says of it
  abbrev Leaves : WithBook → WithBook → Type 0 → Type 0
  Leaves x y D = Held y × SameFaces x y × D

  accepted_call : (x : WithBook) (c : Call) → Held x → (o : ℕ) (cp : Copy)
      (a : Accepted (medium_of g n x.image) c.volume c.lnum c.target o cp)
      → let p : Plan = make_plan (medium_of g n x.image) c.target o cp in
      premise_of x.image c.course (image_left mover_job p x.image c.course) (given p) ≡ true
      → Leaves x (call_left x c (given p)) (Moved req p c.course x.image (image_left mover_job p x.image c.course))
  unfolding call_left SameFaces
  accepted_call x c h o cp a pr =
      let r = after req g n chip x.image h.still c.volume c.lnum c.target o cp a c.course pr in
      (record { still = r.still; map_is_book = rw (← h.map_is_book) r.new_map }, r.same_faces, r.moved)

  one_call : (x : WithBook) (c : Call) → Held x → Premise req x.image c (after_call req x c).image
      → Leaves x (after_call req x c) (Done req x.image c (after_call req x c).image)
  unfolding after_call Premise Done call_left SameFaces
  one_call x c h pr = by (begun req x.image c) refl pr
    where
      by : (y : Answer Plan) → begun req x.image c ≡ y → premise_of x.image c.course (call_left x c y).image y ≡ true
          → Leaves x (call_left x c y) (CallDone req x.image c.course (call_left x c y).image y)
      by (refused k q) e pr = (h, refl, refl)
      by (given p) e pr =
          let a = accepted (medium_of g n x.image) c.volume c.lnum c.target p (sym (begun_is x.image h.still c) ∙ e) in
          subst
          (λ (q : Plan). premise_of x.image c.course (image_left mover_job q x.image c.course) (given q) ≡ true
          → Leaves x (call_left x c (given q)) (Moved req q c.course x.image (image_left mover_job q x.image c.course)))
          (sym a.3) (accepted_call x c h a.0 a.1 a.2) pr

  -- ---- the list

  whole_list : (calls : List Call) (x : WithBook) → Held x → Each req (Premise req) x calls
      → Held (after_calls req x calls) × SameFaces x (after_calls req x calls) × Each req (Done req) x calls
  unfolding SameFaces
  whole_list calls x h pr =
      all_calls (after_call req) Held SameFaces (λ x c y. Premise req x.image c y.image)
      (λ x c y. Done req x.image c y.image)
      (λ x. refl) (λ x y z e f. f ∙ e) one_call calls x h pr

  -- what the faces fix
  module _ (a b : List ℕ) (e : faces (medium_of g n b) ≡ faces (medium_of g n a)) where
    abbrev m : Medium
    m = medium_of g n a

    table_same : table_in (whole (medium_of g n b)) ≡ table_in (whole m)
    unfolding table_leb table_records table_mark
    table_same = ap (λ (fs : Faces). some (table_from fs)) e
      where
        table_from : Faces → Table
        table_from fs = record { lnum = table_leb m fs; records = table_records m fs; mark = table_mark m fs }

    states_same : states_in (whole (medium_of g n b)) ≡ states_in (whole m)
    unfolding state_words state_at table_records
    states_same = ap (λ (fs : Faces). table (state_of (table_records m fs) fs) 0 128) e

    content_same : (v l : ℕ) → content_in (whole (medium_of g n b)) v l ≡ content_in (whole m) v l
    content_same v l = ap (λ (fs : Faces). map_o (λ (f : Face). f.content) (fs v l)) e

-- ---- the theorem

-- for every request, every image that attaches under it and every list of calls, if the premise holds of each stopped
-- image by itself: after the list the image attaches, with the table, the states and the contents that it had at first;
-- its map is the place book; each accepted move changed nothing outside its two blocks and, if it was not cut, ended
-- with its old block free; a refused one changed nothing
pub no_cut_loses_a_block : (req : AttachRequest) (image : List ℕ) (calls : List Call) → Bytes image
    → attaches (outcome_of req image) ≡ true
    → Each req (Premise req) (at_first req image) calls → Claim req image calls
unfolding at_first SameFaces
no_cut_loses_a_block req image calls bytes at pr =
    let A = has_attached req image at in
    let g = A.g in
    let n = A.n in
    let f : Attachable g n image = record { long = A.long; bytes = bytes; unrefused = A.unrefused } in
    let first = outcome_is req g n A.chip image f in
    let x : WithBook = record { image = image; book = map_in (outcome_of req image) } in
    let r = whole_list req g n A.chip calls x (record { still = f; map_is_book = sym (ap map_in first) }) pr in
    let end = after_calls req x calls in
    let last = outcome_is req g n A.chip end.image r.0.still in
    let e = r.1 in
    record {
      kept = record {
        still_attaches = ap attaches last;
        same_table = ap table_in last ∙ table_same req g n A.chip image end.image e ∙ sym (ap table_in first);
        same_states = ap states_in last ∙ states_same req g n A.chip image end.image e ∙ sym (ap states_in first);
        map_is_book = ap map_in last ∙ r.0.map_is_book;
        same_content = λ v l.
            ap (λ (y : Outcome). content_in y v l) last ∙ content_same req g n A.chip image end.image e v l
            ∙ sym (ap (λ (y : Outcome). content_in y v l) first);
      };
      each = r.2;
    }

-- ---- the calls as the code makes them

-- with tables that are long enough a beginning answers the same
pub any_beginning : (req : AttachRequest) (image : List ℕ) (room : ℕ → Bool) (g : Geometry)
    → slip_geometry req.slip ≡ given g → room (peb_count_of g image) ≡ true → (c : Call)
    → beginning req image room c.volume c.lnum c.target ≡ begun req image c
unfolding beginning begun outcome_of
any_beginning req image room g e h c =
    ap (λ (y : Outcome). begin_on y c.volume c.lnum c.target) (any_room req image room g e h)

-- `finish` is the course to the end, of every plan and image
pub mover_finish_is_to_end : (p : Plan) (image : List ℕ) (further : ℕ) → ToEnd mover_job mover_lawful p image further
mover_finish_is_to_end = finish_is_to_end mover_job mover_lawful
