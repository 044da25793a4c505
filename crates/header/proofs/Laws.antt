-- Laws of the field table and of judging a header. Assumes nothing.
use mathlib.Core.Path.{◌≡◌, refl, sym, ap, ◌∙◌}
use mathlib.Core.Bool.{Bool, true, false, ◌&&◌, cond}
use mathlib.Core.List.{List, [], ◌∷◌, ◌++◌}
use Prim.Native.Nat.{ℕ, ◌+◌, ◌-◌, ◌≤◌}
use native.Mathlib.Omega.{arith}
use lib.Dec.{eqb, leb}
use lib.ListN.{take, drop}
use borrow.Author.Tests.{leb-true}
use Rattle.std.specs.Prelude.{Result, Ok, Err, is_ok}
use Rattle.base.specs.Answers.{Answer, given, refused, all_of}
use Rattle.base.specs.Lists.{part, eqs}
use Rattle.base.proofs.Answers.{each_holds}
use Rattle.base.proofs.Lists.{table_from_lem}
use Rattle.field.specs.declared.Field.{Field}
use Rattle.field.specs.Fields.{row, number_in}
use Rattle.field.proofs.Laws.{rows_fit}
use Rattle.header.specs.declared.EcHeader.{EcHeader}
use Rattle.header.specs.declared.ReadError.{ReadError}
use Rattle.header.specs.declared.ReadError.TheVariants.{Bad, Newer, Short}
use Rattle.header.specs.declared.VidHeader.{VidHeader}
use Rattle.header.specs.Table.{fields}
use Rattle.header.specs.Fields.{crc_matches, Verdict, good, bad, newer, judged, is_good, verdict_answer}
use Rattle.header.specs.Ec.{ec_magic, ec_fields, ec_rules, judge_ec, read_ec, ec_answer}
use Rattle.header.specs.Vid.{vid_magic, vid_fields, IsVidField, vid_field, vid_rules, judge_vid, read_vid, vid_answer}

-- ---- the table

-- each field lies within the 64 bytes, and is 8 bytes wide at most
pub fits : (i : ℕ) → ((row fields i).at + (row fields i).width ≤ 64) × ((row fields i).width ≤ 8)
fits = rows_fit 64 8 fields refl

-- each field starts where the one before it has ended, and the last ends within the 64 bytes
abbrev apart : ℕ → List Field → Bool
apart end [] = leb end 64
apart end (f ∷ fs) = leb end f.at && apart (f.at + f.width) fs

-- no field of a header overlaps another or the magic
pub ec_apart : apart 4 (take 5 fields ++ drop 16 fields) ≡ true
ec_apart = refl

pub vid_apart : apart 4 (drop 5 fields) ≡ true
vid_apart = refl

-- the VID header's fields, by their numbers in the table
pub vid_field_at : (i : ℕ) (s : List ℕ) → IsVidField i → number_in (row fields i) s ≡ vid_field i (vid_fields s)
unfolding vid_fields
vid_field_at i s h =
    let f : ℕ → ℕ = λ (j : ℕ). number_in (row fields j) s in
    let e : 5 + (i - 5) ≡ i = omega arith in
    sym (table_from_lem f 0 5 11 (i - 5) (omega arith) ∙ ap f e)

-- ---- versions

-- what is judged past the version, as `judged` has it
abbrev pub by_version : {A : Type 0} → ℕ → Verdict A → Verdict A
by_version version rest = cond (eqb version 1) rest (cond (eqb version 0) bad newer)

-- ---- a verdict is good where its answer is Ok

abbrev good_in : {A : Type 0} → Answer (Verdict A) → Bool
good_in (given v) = is_good v
good_in (refused k p) = false

good_answer : {A : Type 0} (v : Verdict A) → good_in (verdict_answer v) ≡ is_good v
good_answer (good h) = refl
good_answer bad = refl
good_answer newer = refl

pub ec_ok : (r : Result EcHeader ReadError) (v : Verdict EcHeader) → ec_answer r ≡ verdict_answer v
    → is_ok r ≡ is_good v
ec_ok (Ok h) v e = ap good_in e ∙ good_answer v
ec_ok (Err Bad) v e = ap good_in e ∙ good_answer v
ec_ok (Err Newer) v e = ap good_in e ∙ good_answer v
ec_ok (Err Short) v e = ap good_in e ∙ good_answer v

pub vid_ok : (r : Result VidHeader ReadError) (v : Verdict VidHeader) → vid_answer r ≡ verdict_answer v
    → is_ok r ≡ is_good v
vid_ok (Ok h) v e = ap good_in e ∙ good_answer v
vid_ok (Err Bad) v e = ap good_in e ∙ good_answer v
vid_ok (Err Newer) v e = ap good_in e ∙ good_answer v
vid_ok (Err Short) v e = ap good_in e ∙ good_answer v

-- ---- a header that is read as good has the fields in its place, and all rules hold

pub bad_not : {A : Type 0} {h : A} → bad ≡ good h → ⊥
bad_not e = let z : ◌≡◌ {A = ℕ} 0 1 = cc in omega arith

module _ {A : Type 0} {x h : A} where
  judged_good : (one zero b : Bool) → cond one (cond b (good x) bad) (cond zero bad newer) ≡ good h
      → (x ≡ h) × (b ≡ true)
  judged_good true zero true e = (cc, refl)
  judged_good true zero false e = absurd (bad_not e)
  judged_good false true b e = absurd (bad_not e)
  judged_good false false b e = absurd (let z : ◌≡◌ {A = ℕ} 0 1 = cc in omega arith)

  -- `test` says that magic and CRC are right
  pub read_good : (test : Bool) (version : ℕ) (rules : List Bool) → cond test (judged version rules x) bad ≡ good h
      → (x ≡ h) × (all_of rules ≡ true)
  read_good true version rules e = judged_good (eqb version 1) (eqb version 0) (all_of rules) e
  read_good false version rules e = absurd (bad_not e)

pub ec_good_holds : (s : List ℕ) {h : EcHeader} → read_ec s ≡ good h → (ec_fields s ≡ h) × (h.counter ≤ 0x7FFFFFFF)
unfolding read_ec judge_ec ec_rules
ec_good_holds s e =
    let r = read_good (eqs (part 0 4 s) ec_magic && crc_matches s) (ec_fields s).version (ec_rules (ec_fields s)) e in
    (r.0, rw (← r.0) (leb-true (ec_fields s).counter 0x7FFFFFFF (each_holds (ec_rules (ec_fields s)) r.1 0)))

pub vid_good_holds : (size : ℕ) (s : List ℕ) {h : VidHeader} → read_vid size s ≡ good h
    → (vid_fields s ≡ h) × (all_of (vid_rules size h) ≡ true)
unfolding read_vid judge_vid
vid_good_holds size s e =
    let r = read_good (eqs (part 0 4 s) vid_magic && crc_matches s) (vid_fields s).version
    (vid_rules size (vid_fields s)) e in
    (r.0, rw r.0 at r.1)
