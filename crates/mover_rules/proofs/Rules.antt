-- What refusal 18 leaves of a plan and an image. Assumes nothing.
use mathlib.Core.Path.{◌≡◌, refl, subst}
use mathlib.Core.Bool.{Bool, true, false, cond, false≢true}
use mathlib.Core.List.{List}
use Prim.Native.Nat.{ℕ, ◌+◌, ◌-◌, ◌*◌, ◌/◌, ◌≤◌, ◌<◌}
use native.Mathlib.Nat.{div-add-mod', mul-le-mul_right}
use native.Mathlib.Omega.{arith}
use lib.Dec.{eqb}
use lib.ListN.{length, get_or}
use borrow.Author.Tests.{ltb-true, leb-true, eqb-false, not-true}
use Rattle.base.specs.Answers.{Answer, given, all_of}
use Rattle.base.proofs.Answers.{each_holds, cond_yes, refused_not}
use Rattle.geometry.specs.Geometry.{geometry_rules, geometry_of, make_geometry}
use Rattle.geometry.specs.declared.Geometry.{Geometry}
use Rattle.geometry.proofs.Laws.{placed, unit_range}
use Rattle.header.specs.Fields.{good, bad, newer, judged, is_good}
use Rattle.header.specs.Vid.{judge_vid, vid_rules}
use Rattle.header.specs.declared.VidHeader.{VidHeader}
use Rattle.geometry.specs.Image.{image_rules}
use Rattle.mover_rules.specs.Write.{plan_geometry}
use Rattle.mover_rules.specs.Step.{step_rules, runnable}
use Rattle.mover_rules.specs.Running.{Measured, Running}
use Rattle.mover_rules.specs.declared.Plan.{Plan}

-- ---- the geometry

module _ (p : Plan) where
  pub measured_by : all_of (geometry_rules p.peb_size p.unit p.sub_unit) ≡ true → Measured (plan_geometry p) p
  unfolding geometry_of geometry_rules make_geometry plan_geometry
  measured_by r =
      let u = unit_range p.unit (each_holds (geometry_rules p.peb_size p.unit p.sub_unit) r 0) in
      record {
        is = refl;
        inside = r;
        placed = placed p.peb_size p.unit p.sub_unit (plan_geometry p) (rw r);
        same_unit = refl;
        unit_most = omega arith;
      }

  pub measured : (g : Geometry) → geometry_of p.peb_size p.unit p.sub_unit ≡ given g → Measured g p
  unfolding geometry_of plan_geometry
  measured g e =
      let c = cond_yes (all_of (geometry_rules p.peb_size p.unit p.sub_unit)) refused_not e in
      let is : plan_geometry p ≡ g = given_is c.1 in
      subst (λ (x : Geometry). Measured x p) is (measured_by c.0)
    where
      given_is : {a b : Geometry} → ◌≡◌ {A = Answer Geometry} (given a) (given b) → a ≡ b
      given_is e = cc

-- ---- the plan on the image

good_rules : {A : Type 0} (v : ℕ) (rules : List Bool) (x : A) → is_good (judged v rules x) ≡ true → all_of rules ≡ true
good_rules v rules x e = go (eqb v 1) (eqb v 0) (all_of rules) e
  where
    go : (one zero r : Bool) → is_good (cond one (cond r (good x) bad) (cond zero bad newer)) ≡ true → r ≡ true
    go true zero true e = refl
    go true zero false e = e
    go false true r e = absurd (false≢true e)
    go false false r e = absurd (false≢true e)

size_most : (size : ℕ) (h : VidHeader) → is_good (judge_vid size h) ≡ true → h.data_size ≤ size
unfolding judge_vid vid_rules
size_most size h e =
    let r = leb-true h.data_size (size - h.data_pad)
    (each_holds (vid_rules size h) (good_rules h.version (vid_rules size h) h e) 6) in
    omega arith

room : (i size len : ℕ) → i < len / size → i * size + size ≤ len
room i size len h = omega (arith, div-add-mod' len size, mul-le-mul_right size h)

pub running : (g : Geometry) (p : Plan) → Measured g p → (image : List ℕ) → runnable p image ≡ true → Running g p image
unfolding runnable step_rules image_rules
running g p m image e =
    let r : (k : ℕ) → get_or (step_rules p image) k true ≡ true = each_holds (step_rules p image) e in
    let most = leb-true (length image / g.peb_size) 4096 (each_holds (image_rules g image) (rw m.is (r 1)) 2) in
    let o = ltb-true p.old (length image / g.peb_size) (rw m.is (r 2)) in
    let t = ltb-true p.target (length image / g.peb_size) (rw m.is (r 3)) in
    let v : is_good (judge_vid g.leb_size p.vid) ≡ true = rw m.is (r 5) in
    record {
      measured = m;
      old_below = omega arith;
      target_below = omega arith;
      old_room = room p.old g.peb_size (length image) o;
      target_room = room p.target g.peb_size (length image) t;
      apart = eqb-false p.old p.target (not-true (eqb p.old p.target) (r 4));
      vid_good_holds = v;
      ec_good_holds = r 6;
      size_fits = size_most g.leb_size p.vid v;
    }

-- a plan that may run has a geometry within the rules
pub runs_on : (p : Plan) (image : List ℕ) → runnable p image ≡ true → Running (plan_geometry p) p image
unfolding runnable step_rules
runs_on p image e = running (plan_geometry p) p (measured_by p (each_holds (step_rules p image) e 0)) image e
