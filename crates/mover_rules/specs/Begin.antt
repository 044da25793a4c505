-- 01 'Refusal numbers', 13 to 17, and the beginning of a move. Assumes nothing.
use Rattle.std.specs.Prelude.{ℕ, ◌-◌, ◌^◌, Bool, false, not, ◌&&◌, ◌||◌, cond, List, [], ◌∷◌, eqb, ltb, Result, Ok, Err}
use Rattle.std.proofs.Math.Option.{Option, none, some}
use Rattle.base.specs.Answers.{Answer, given, refused}
use Rattle.base.specs.Below.{any_below}
use Rattle.report.specs.View.{Copy, Medium, copies}
use Rattle.report.specs.Scan.{when}
use Rattle.report.specs.Choice.{sound, chosen}
use Rattle.report.specs.Volumes.{Entry}
use Rattle.report.specs.Report.{highest_of, is_internal, read_only_of, class_at, entries}
use Rattle.report.specs.Attach.{AttachRequest, Outcome, early, late, whole, attaching}
use Rattle.mover_rules.specs.Headers.{is_static, new_vid, old_counter, new_ec}
use Rattle.mover_rules.specs.declared.Plan.{Plan}
use Rattle.refusals.specs.declared.Refused.{Refused}

-- is the LEB in the map?
abbrev pub is_in : ℕ → ℕ → List Entry → Bool
is_in v l [] = false
is_in v l (e ∷ es) = (eqb e.volume v && eqb e.lnum l) || is_in v l es

-- a refusal's number, with place 0, if there is one; else the answer
abbrev pub unless_refused : Option ℕ → Answer Plan → Answer Plan
unless_refused (some k) a = refused k 0
unless_refused none a = a

-- 15 "chosen copy unsound, or static with wrong data CRC"
unfoldable pub refusal15 : Copy → Option ℕ
refusal15 c = when (not (sound c) || (is_static c && not c.matches)) 15

module _ (m : Medium) where
  -- 13 "read-only mark, or a compatibility 1 block stands"
  unfoldable pub refusal13 : Option ℕ
  refusal13 = when (read_only_of m.count (copies m.views) || any_below m.count (λ i. is_internal 1 (copies m.views i))) 13

  -- PEB and copy of a LEB that is in the map
  unfoldable pub mapped : ℕ → ℕ → Option (ℕ × Copy)
  mapped v l = cond (is_in v l (entries m)) (chosen m.count (copies m.views) v l) none

  -- 16 "target absent, not class 0, or a byte past its EC header is not 0xFF"
  unfoldable pub refusal16 : ℕ → Option ℕ
  refusal16 t = when (not (ltb t m.count) || (not (eqb (class_at m t) 0) || not (m.views t).clean)) 16

  -- 17 "highest sequence 2^64-1, or the old PEB's counter (mean if lost) 0x7FFFFFFF"
  unfoldable pub refusal17 : ℕ → Option ℕ
  refusal17 old = when (eqb (highest_of m.count (copies m.views)) (2 ^ 64 - 1) || eqb (old_counter m old) 0x7FFFFFFF) 17

  -- the plan of a move of this copy
  unfoldable pub make_plan : ℕ → ℕ → Copy → Plan
  make_plan t old c = record {
    peb_size = m.geometry.peb_size;
    unit = m.geometry.unit;
    sub_unit = m.geometry.sub_unit;
    old = old;
    target = t;
    vid = new_vid m.geometry (highest_of m.count (copies m.views)) c;
    ec = new_ec m old;
    steps = 0;
  }

  -- 14 "LEB not in the map"; then 15 to 17, then the plan
  abbrev pub plan_for : ℕ → Option (ℕ × Copy) → Answer Plan
  plan_for t none = refused 14 0
  plan_for t (some x) =
      unless_refused (refusal15 x.1)
      (unless_refused (refusal16 t) (unless_refused (refusal17 x.0) (given (make_plan t x.0 x.1))))

  -- a move of a LEB of an image that attached: 13 to 17, "in order of checking", or its plan
  unfoldable pub plan_of : ℕ → ℕ → ℕ → Answer Plan
  plan_of v l t = unless_refused refusal13 (plan_for t (mapped v l))

-- "Beginning a move first attaches .. and may give 1 to 12"
abbrev pub begin_on : Outcome → ℕ → ℕ → ℕ → Answer Plan
begin_on (early k) v l t = refused k 0
begin_on (late n r) v l t = refused r.number r.place
begin_on (whole m) v l t = plan_of m v l t

-- "Beginning a move first attaches into the lent tables ..; after 13 to 17, or its success, they hold that report": the
-- lent tables afterwards are those after attaching in every case, `tables_after` of report's specs/Attach.antt. `room`
-- says of a PEB count whether they are long enough for it
unfoldable pub beginning : AttachRequest → List ℕ → (ℕ → Bool) → ℕ → ℕ → ℕ → Answer Plan
beginning req image room v l t = begin_on (attaching req image room) v l t

-- what each case of the answer is in 01
abbrev pub begun_answer : Result Plan Refused → Answer Plan
begun_answer (Ok p) = given p
begun_answer (Err e) = refused e.number e.place
