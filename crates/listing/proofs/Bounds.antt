-- No listing is longer than 16,384 bytes, and the program's tables are never too short. Assumes nothing.
use mathlib.Core.Path.{◌≡◌, refl, sym, ap}
use mathlib.Core.Logic.{◌≢◌}
use mathlib.Core.Bool.{Bool, true, false, cond, true≢false}
use mathlib.Core.Option.{Option, none, some}
use mathlib.Core.List.{List}
use Prim.Native.Nat.{ℕ, ◌*◌, ◌/◌, ◌%◌, ◌≤◌}
use native.Mathlib.Nat.{mul-le-mul_left, div-mul-le_self}
use native.Mathlib.Omega.{arith}
use borrow.Author.Tests.{leb-true, le-leb, ltb-false}
use lib.Dec.{eqb, leb, ltb}
use lib.ListN.{length, length-drop}
use Rattle.base.specs.Answers.{Answer, given, refused, all_of}
use Rattle.base.proofs.Answers.{and_left, and_right, and_intro, or_right}
use Rattle.geometry.specs.declared.Geometry.{Geometry}
use Rattle.geometry.specs.Geometry.{good_unit, make_geometry, geometry_rules, geometry_of}
use Rattle.geometry.specs.Image.{peb_count_of, image_rules}
use Rattle.geometry.specs.Slip.{value_at, well_formed, slip_geometry}
use Rattle.report.specs.View.{Medium, medium_of}
use Rattle.report.specs.Scan.{Refusal}
use Rattle.report.specs.Report.{entries, refusal}
use Rattle.report.specs.Attach.{Outcome, early, late, whole, room_rules, long_enough, by_refusal, by_geometry}
use Rattle.report.specs.Attach.{attaching, report_of, answer_of, tables_after}
use Rattle.listing_text.specs.Text.{text_of}
use Rattle.report.proofs.Tables.{entries_fit}
use Rattle.listing.specs.Listing.{slip_part, image_part, too_much, after_slip, program_tables, judging}
use Rattle.listing.specs.Listing.{listing_of}
use Rattle.listing_text.proofs.Lengths.{report_short, refused_short}

-- ---- what the input comes to

abbrev early_number : Outcome → ℕ
early_number (early k) = k
early_number (late n r) = 0
early_number (whole m) = 0

record Fine (o : Outcome) : Type 0 where
  pub short : length (text_of (answer_of o) (tables_after o program_tables)) ≤ 16384
  pub tables_suffice : early_number o ≢ 4

fine_early : (k : ℕ) → k ≢ 4 → Fine (early k)
fine_early k h = record { short = omega (arith, refused_short k 0); tables_suffice = h }

fine_late : (n : ℕ) (r : Refusal) → Fine (late n r)
fine_late n r = record {
  short = omega (arith, refused_short r.number r.place);
  tables_suffice = λ e. omega arith;
}

fine_whole : (m : Medium) → m.count ≤ 59 → length (entries m) ≤ m.count → Fine (whole m)
unfolding report_of
fine_whole m h k = record {
  short = report_short (report_of m) _ h (omega arith);
  tables_suffice = λ e. omega arith;
}

-- a slip is refused with 1 or 2, or its PEB size is 1,024 at least
by_slip : (P : Answer Geometry → Type 0) (s : List ℕ) → P (refused 1 0) → P (refused 2 0)
    → ((g : Geometry) → 1024 ≤ g.peb_size → P (given g)) → P (slip_geometry s)
unfolding slip_geometry geometry_of geometry_rules make_geometry
by_slip P s one two good = go (well_formed s) (all_of (geometry_rules peb unit sub)) refl
  where
    peb : ℕ
    peb = value_at 0 4 s

    unit : ℕ
    unit = value_at 7 2 s

    sub : ℕ
    sub = value_at 12 2 s

    go : (a b : Bool) → all_of (geometry_rules peb unit sub) ≡ b
        → P (cond a (cond b (given (make_geometry peb unit sub)) (refused 2 0)) (refused 1 0))
    go false b e = one
    go true false e = two
    go true true e =
        let r = and_right (leb sub unit) _ (and_right (good_unit sub) _ (and_right (good_unit unit) _ e)) in
        good (make_geometry peb unit sub) (leb-true 1024 peb (and_left (leb 1024 peb) _ r))

-- 61,420 bytes are 59 PEBs at the most
module _ (g : Geometry) (image : List ℕ) (h : 1024 ≤ g.peb_size) (k : length image ≤ 61420) where
  few_pebs : peb_count_of g image ≤ 59
  few_pebs =
      let n = length image / g.peb_size in
      let a : n * 1024 ≤ n * g.peb_size = mul-le-mul_left n h in
      let b : n * g.peb_size ≤ length image = div-mul-le_self (length image) g.peb_size in
      omega (arith, a, b)

  long_tables : long_enough program_tables (peb_count_of g image) ≡ true
  unfolding room_rules program_tables
  long_tables =
      and_intro _ _ (le-leb (peb_count_of g image * 2) 118 (omega (arith, few_pebs)))
      (and_intro _ _ (le-leb (peb_count_of g image * 3) 177 (omega (arith, few_pebs))) refl)

  fine_image : Fine (by_geometry image (long_enough program_tables) (given g))
  unfolding image_rules
  fine_image =
      go (all_of (image_rules g image)) refl (long_enough program_tables (peb_count_of g image)) long_tables
      (refusal (medium_of g (peb_count_of g image) image)) refl
    where
      go : (a : Bool) → all_of (image_rules g image) ≡ a → (b : Bool) → b ≡ true → (x : Option Refusal)
          → refusal (medium_of g (peb_count_of g image) image) ≡ x
          → Fine (cond a (cond b (by_refusal (medium_of g (peb_count_of g image) image) x) (early 4)) (early 3))
      go false e b q x z = fine_early 3 (λ w. omega arith)
      go true e false q x z = absurd (true≢false (sym q))
      go true e true q (some r) z = fine_late (peb_count_of g image) r
      go true e true q none z =
          let two = and_left (leb 2 (peb_count_of g image)) _ (and_right (eqb (length image % g.peb_size) 0) _ e) in
          fine_whole (medium_of g (peb_count_of g image) image) few_pebs
          (entries_fit (medium_of g (peb_count_of g image) image) z (leb-true 2 (peb_count_of g image) two))

-- refusals 1 to 3
fine_slip : (k : ℕ) → k ≤ 3 → Fine (early k)
fine_slip k h = fine_early k (λ w. omega arith)

fine_judged : (input : List ℕ) (more : Bool) → Fine (judging input more)
unfolding judging attaching
fine_judged input more = go (too_much input more) refl
  where
    go : (b : Bool) → too_much input more ≡ b
        → Fine (cond b (after_slip (slip_geometry (slip_part input)))
        (by_geometry (image_part input) (long_enough program_tables) (slip_geometry (slip_part input))))
    go true e =
        by_slip (λ (x : Answer Geometry). Fine (after_slip x)) (slip_part input) (fine_slip 1 (omega arith))
        (fine_slip 2 (omega arith)) (λ g h. fine_slip 3 (omega arith))
    go false e =
        let l : length input ≤ 61440 = ltb-false 61440 (length input) (or_right more (ltb 61440 (length input)) e) in
        by_slip (λ (x : Answer Geometry). Fine (by_geometry (image_part input) (long_enough program_tables) x))
        (slip_part input) (fine_slip 1 (omega arith)) (fine_slip 2 (omega arith))
        (λ g h. fine_image g (image_part input) h (omega (arith, length-drop 20 input)))

-- every listing fits a buffer of 16,384 bytes
pub listing_short : (input : List ℕ) (more : Bool) → length (listing_of input more) ≤ 16384
unfolding listing_of
listing_short input more = (fine_judged input more).short

-- the tables that the program lends are long enough: refusal 4 is never printed for them
pub tables_suffice : (input : List ℕ) (more : Bool) → judging input more ≢ early 4
tables_suffice input more e = (fine_judged input more).tables_suffice (ap early_number e)
