-- An image that attaches, by its views. Assumes nothing.
use mathlib.Core.Path.{◌≡◌, refl, subst}
use mathlib.Core.Bool.{Bool, true, false, cond, false≢true}
use mathlib.Core.Option.{Option, none, some}
use mathlib.Core.List.{List}
use Prim.Native.Nat.{ℕ, ◌*◌, ◌%◌, ◌≤◌, ◌<◌}
use native.Mathlib.Omega.{arith}
use native.Mathlib.Nat.{div-add-mod', mul-div_cancel, mul-mod_left}
use borrow.Author.Tests.{le-leb, leb-true, eqb-true, eq-eqb}
use lib.ListN.{length, get_or}
use Rattle.base.specs.Answers.{Answer, given, refused, all_of}
use Rattle.base.proofs.Answers.{each_holds, cond_yes}
use Rattle.geometry.specs.Geometry.{geometry_rules, make_geometry, geometry_of}
use Rattle.geometry.specs.Slip.{well_formed, value_at, slip_geometry}
use Rattle.geometry.specs.Placed.{Placed}
use Rattle.geometry.specs.declared.Geometry.{Geometry}
use Rattle.geometry.proofs.Laws.{slip_placed}
use Rattle.report.specs.View.{Medium, medium_of}
use Rattle.report.specs.Scan.{Refusal}
use Rattle.report.specs.Report.{refusal}
use Rattle.geometry.specs.Image.{peb_count_of, image_rules}
use Rattle.report.specs.Attach.{AttachRequest, early, whole, by_refusal, by_geometry, attaching}
use Rattle.job.specs.Outcomes.{outcome_of, attaches}

-- with tables that are long enough for its PEBs, attaching an image comes to the same
pub any_room : (req : AttachRequest) (image : List ℕ) (room : ℕ → Bool) (g : Geometry) → slip_geometry req.slip ≡ given g
    → room (peb_count_of g image) ≡ true → attaching req image room ≡ outcome_of req image
unfolding attaching outcome_of
any_room req image room g e h = rw (e, h)

-- ---- by its views

-- the geometry of a slip has three numbers within the rules, and is made of them
pub record Ruled (g : Geometry) : Type 0 where
  pub rules : all_of (geometry_rules g.peb_size g.unit g.sub_unit) ≡ true
  pub made : make_geometry g.peb_size g.unit g.sub_unit ≡ g

no_geometry : {k : ℕ} {g : Geometry} → ◌≡◌ {A = Answer Geometry} (refused k 0) (given g) → ⊥
no_geometry e = let z : ◌≡◌ {A = ℕ} 0 1 = cc in omega arith

of_numbers : (peb unit sub : ℕ) → all_of (geometry_rules peb unit sub) ≡ true → Ruled (make_geometry peb unit sub)
unfolding make_geometry
of_numbers peb unit sub r = record { rules = r; made = refl }

ruled : (peb unit sub : ℕ) (g : Geometry) → geometry_of peb unit sub ≡ given g → Ruled g
unfolding geometry_of
ruled peb unit sub g e =
    let c = cond_yes (all_of (geometry_rules peb unit sub)) no_geometry e in
    let m : make_geometry peb unit sub ≡ g = cc c.1 in
    subst Ruled m (of_numbers peb unit sub c.0)

pub slip_ruled : (slip : List ℕ) (g : Geometry) → slip_geometry slip ≡ given g → Ruled g
unfolding slip_geometry
slip_ruled slip g e = ruled (value_at 0 4 slip) (value_at 7 2 slip) (value_at 12 2 slip) g
    (cond_yes (well_formed slip) no_geometry e).1

-- images of n PEBs that a request fits
pub record Chip (req : AttachRequest) (g : Geometry) (n : ℕ) : Type 0 where
  pub geometry : slip_geometry req.slip ≡ given g
  pub least : 2 ≤ n
  pub most : n ≤ 4096

module _ (req : AttachRequest) (g : Geometry) (n : ℕ) (c : Chip req g n) where
  pub chip_placed : Placed g
  chip_placed = slip_placed req.slip g c.geometry

  pub peb_above : 0 < g.peb_size
  peb_above = omega (arith, chip_placed.leb_fills, chip_placed.leb_least)

  module _ (image : List ℕ) (len : length image ≡ n * g.peb_size) where
    pub count_is : peb_count_of g image ≡ n
    count_is = rw len (mul-div_cancel n peb_above)

    pub image_ruled : all_of (image_rules g image) ≡ true
    unfolding image_rules
    image_ruled =
        let z : length image % g.peb_size ≡ 0 = rw len (mul-mod_left n g.peb_size) in
        rw (count_is, eq-eqb (length image % g.peb_size) 0 z, le-leb 2 n c.least, le-leb n 4096 c.most)

    -- one that nothing refuses attaches
    pub attached : refusal (medium_of g n image) ≡ none → outcome_of req image ≡ whole (medium_of g n image)
    unfolding outcome_of attaching
    attached e = rw (c.geometry, image_ruled, count_is, e)

-- what an image that attaches has
pub record Attached (req : AttachRequest) (image : List ℕ) : Type 0 where
  pub g : Geometry
  pub n : ℕ
  pub chip : Chip req g n
  pub long : length image ≡ n * g.peb_size
  pub unrefused : refusal (medium_of g n image) ≡ none

pub has_attached : (req : AttachRequest) (image : List ℕ) → attaches (outcome_of req image) ≡ true → Attached req image
unfolding outcome_of attaching image_rules
has_attached req image e = go (slip_geometry req.slip) refl e
  where
    some_not : (m : Medium) (r : Option Refusal) → attaches (by_refusal m r) ≡ true → r ≡ none
    some_not m none e = refl
    some_not m (some r) e = absurd (false≢true e)

    go : (a : Answer Geometry) → slip_geometry req.slip ≡ a → attaches (by_geometry image (λ n. true) a) ≡ true
        → Attached req image
    go (refused k q) s e = absurd (false≢true e)
    go (given g) s e = by (all_of (image_rules g image)) refl e
      where
        n : ℕ
        n = peb_count_of g image

        by : (r : Bool) → all_of (image_rules g image) ≡ r
            → attaches (cond r (by_refusal (medium_of g n image) (refusal (medium_of g n image))) (early 3)) ≡ true
            → Attached req image
        by false q e = absurd (false≢true e)
        by true q e =
            let r : (k : ℕ) → get_or (image_rules g image) k true ≡ true = each_holds (image_rules g image) q in
            let z : length image % g.peb_size ≡ 0 = eqb-true (length image % g.peb_size) 0 (r 0) in
            record {
              g = g;
              n = n;
              chip = record { geometry = s; least = leb-true 2 n (r 1); most = leb-true n 4096 (r 2) };
              long = omega (arith, div-add-mod' (length image) g.peb_size);
              unrefused = some_not (medium_of g n image) (refusal (medium_of g n image)) e;
            }
