-- What an input comes to, and the text for it. Assumes nothing.
use mathlib.Core.Path.{◌≡◌, refl, ◌∙◌}
use mathlib.Core.Bool.{Bool, true, false}
use mathlib.Core.List.{List}
use Prim.Native.Nat.{ℕ, ◌*◌, ◌≤◌}
use native.Mathlib.Omega.{arith}
use borrow.Author.Tests.{le-leb}
use lib.Dec.{leb}
use lib.ListN.{length, length-append}
use Rattle.base.proofs.Lists.{table_length}
use Rattle.base.specs.Answers.{Answer, given, refused}
use Rattle.base.proofs.Answers.{and_intro}
use Rattle.geometry.specs.declared.Geometry.{Geometry}
use Rattle.geometry.specs.Slip.{slip_geometry}
use Rattle.report.specs.declared.Report.{Report}
use Rattle.report.specs.View.{Medium}
use Rattle.report.specs.Volumes.{Entry}
use Rattle.report.specs.Report.{entries, state_at}
use Rattle.report.specs.Attach.{Tables, Outcome, early, late, whole, over, request, attaching_into, answer_of, report_of}
use Rattle.report.specs.Attach.{peb_words, map_words, state_words, tables_after}
use Rattle.report.proofs.Words.{entry_words_length, peb_words_length}
use Rattle.listing_text.specs.Render.{tables_hold, has_room, rendering, out_after}
use Rattle.listing.specs.Listing.{slip_part, image_part, too_much, after_slip, program_tables, judging, listing_of}
use Rattle.listing.specs.Listing.{listed, listed_out}

-- ---- the tables

over_long : (ws l : List ℕ) (k : ℕ) → k ≤ length ws → leb k (length (over ws l)) ≡ true
over_long ws l k h = le-leb k (length (over ws l)) (rw length-append (omega arith))

entries_held : (n : ℕ) (es : List Entry) → length es * 3 ≤ length (map_words n es)
unfolding map_words
entries_held n es = rw length-append (omega (arith, entry_words_length es))

states_held : (m : Medium) → 128 ≤ length (state_words m)
unfolding state_words
states_held m = omega (arith, table_length (state_at m) 0 128)

-- the tables after attaching hold the lines of its answer
pub held_always : (o : Outcome) (t : Tables) → tables_hold (answer_of o) (tables_after o t) ≡ true
unfolding report_of
held_always (early k) t = refl
held_always (late n r) t = refl
held_always (whole m) t =
    and_intro _ _ (over_long (peb_words m) t.pebs (m.count * 2) (omega (arith, peb_words_length m)))
    (and_intro _ _
    (over_long (map_words m.count (entries m)) t.map (length (entries m) * 3) (entries_held m.count (entries m)))
    (and_intro _ _ (over_long (state_words m) t.states 128 (states_held m)) refl))

-- ---- the program's text

module _ (input : List ℕ) (more : Bool) where
  -- an answer with the tables that attaching leaves is listed as the input
  pub listed_by : (out : List ℕ) {a : Answer Report} {t : Tables} → a ≡ answer_of (judging input more)
      → t ≡ tables_after (judging input more) program_tables → {x : Answer ℕ} {out' : List ℕ}
      → x ≡ rendering a t out → out' ≡ out_after a t out
      → (x ≡ listed input more out) × (out' ≡ listed_out input more out)
  unfolding rendering out_after has_room listed listed_out listing_of
  listed_by out ea et p q =
      let h = held_always (judging input more) program_tables in (p ∙ rw (ea, et, h), q ∙ rw (ea, et, h))

  -- more input than is held: nothing lent changes
  pub long_judged : {a : Answer Report} {s : List ℕ} {t : Tables} → too_much input more ≡ true
      → a ≡ answer_of (after_slip (slip_geometry s)) → s ≡ slip_part input → t ≡ program_tables
      → (a ≡ answer_of (judging input more)) × (t ≡ tables_after (judging input more) program_tables)
  unfolding judging
  long_judged h p e q = (p ∙ rw (h, e), q ∙ rw h (kept (slip_geometry (slip_part input))))
    where
      kept : (x : Answer Geometry) → program_tables ≡ tables_after (after_slip x) program_tables
      kept (given g) = refl
      kept (refused k p) = refl

  pub short_judged : {a : Answer Report} {s i : List ℕ} {t t' : Tables} → too_much input more ≡ false
      → s ≡ slip_part input → i ≡ image_part input → t ≡ program_tables
      → a ≡ answer_of (attaching_into (request s) i t) → t' ≡ tables_after (attaching_into (request s) i t) t
      → (a ≡ answer_of (judging input more)) × (t' ≡ tables_after (judging input more) program_tables)
  unfolding judging
  short_judged h es ei et p q = (p ∙ rw (h, es, ei, et), q ∙ rw (h, es, ei, et))
