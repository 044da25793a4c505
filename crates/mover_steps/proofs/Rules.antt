-- Laws of refusal 18. Assumes nothing.
use mathlib.Core.Path.{◌≡◌, refl, sym, ◌∙◌}
use mathlib.Core.Logic.{◌≢◌}
use mathlib.Core.Bool.{Bool, true, false, cond, and-true}
use mathlib.Core.List.{List}
use Rattle.std.proofs.Common.{Err}
use Prim.Native.Nat.{ℕ, ◌+◌, ◌-◌, ◌/◌, ◌≤◌, ◌<◌}
use native.Mathlib.Nat.{mul-le-mul_right, div-lt_iff_lt-mul}
use native.Mathlib.Omega.{arith}
use lib.ListN.{length, get_or}
use borrow.Author.Tests.{lt-ltb, le-ltb, eq-eqb, ne_eqb}
use Rattle.base.specs.Answers.{given, refused, all_of}
use Rattle.base.proofs.Answers.{one_broken, refused_not}
use Rattle.geometry.specs.Geometry.{geometry_rules, geometry_of, make_geometry, geometry_read}
use Rattle.geometry.specs.declared.SlipError.{SlipError}
use Rattle.geometry.specs.declared.SlipError.TheVariants.{Malformed, Outside}
use Rattle.geometry.specs.declared.Geometry.{Geometry}
use Rattle.header.specs.Fields.{is_good}
use Rattle.header.specs.Ec.{judge_ec}
use Rattle.header.specs.Vid.{judge_vid}
use Rattle.geometry.specs.Image.{image_rules}
use Rattle.mover_rules.specs.Step.{step_rules, runnable}
use Rattle.mover_rules.specs.Running.{Running}
use Rattle.mover_rules.specs.declared.Plan.{Plan}
use Rattle.mover_rules.proofs.Rules.{running}
use Rattle.mover_steps.specs.declared.steps.MeasuredPlan.{MeasuredPlan}

-- ---- a rule that does not hold

module _ (m : MeasuredPlan) (image : List ℕ) where
  abbrev g : Geometry
  g = m.geometry

  abbrev p : Plan
  p = m.plan

  broken : (k : ℕ) → get_or (step_rules p image) k true ≡ false → false ≡ runnable p image
  unfolding runnable
  broken k e = sym (one_broken (step_rules p image) k e)

  pub not_fitting : all_of (image_rules g image) ≡ false → false ≡ runnable p image
  unfolding step_rules
  not_fitting e = broken 1 (rw (← m.measured.is) e)

  pub old_absent : length image / g.peb_size ≤ p.old → false ≡ runnable p image
  unfolding step_rules
  old_absent h = broken 2 (rw (← m.measured.is) (le-ltb _ _ h))

  pub target_absent : length image / g.peb_size ≤ p.target → false ≡ runnable p image
  unfolding step_rules
  target_absent h = broken 3 (rw (← m.measured.is) (le-ltb _ _ h))

  pub one_peb : p.old ≡ p.target → false ≡ runnable p image
  unfolding step_rules
  one_peb h = broken 4 (rw (eq-eqb _ _ h))

  pub vid_not_good : is_good (judge_vid g.leb_size p.vid) ≡ false → false ≡ runnable p image
  unfolding step_rules
  vid_not_good h = broken 5 (rw (← m.measured.is) h)

  -- with the other rules met, the last one decides
  pub last_rule : {r : Bool} → all_of (image_rules g image) ≡ true → p.old < length image / g.peb_size
      → p.target < length image / g.peb_size → p.old ≢ p.target → is_good (judge_vid g.leb_size p.vid) ≡ true
      → r ≡ is_good (judge_ec p.ec) → r ≡ runnable p image
  unfolding runnable step_rules
  last_rule f o n ne v e =
      e ∙ rw (← m.measured.is, m.measured.inside, f, lt-ltb _ _ o, lt-ltb _ _ n, ne_eqb _ _ ne, v)
      (sym (and-true (is_good (judge_ec p.ec))))

-- ---- the geometry

module _ (p : Plan) where
  pub outside : (e : SlipError) → geometry_read (Err e) ≡ geometry_of p.peb_size p.unit p.sub_unit
      → all_of (geometry_rules p.peb_size p.unit p.sub_unit) ≡ false
  unfolding geometry_of
  outside e q = go (all_of (geometry_rules p.peb_size p.unit p.sub_unit)) e q
    where
      go : (b : Bool) (e : SlipError)
          → geometry_read (Err e) ≡ cond b (given (make_geometry p.peb_size p.unit p.sub_unit)) (refused 2 0)
          → b ≡ false
      go true Malformed q = absurd (refused_not q)
      go true Outside q = absurd (refused_not q)
      go false e q = refl

  pub not_measured : (image : List ℕ) → all_of (geometry_rules p.peb_size p.unit p.sub_unit) ≡ false
      → runnable p image ≡ false
  unfolding runnable step_rules
  not_measured image e = one_broken (step_rules p image) 0 e

-- ---- past refusal 18

pub runs : (m : MeasuredPlan) (image : List ℕ) → runnable m.plan image ≡ true → Running m.geometry m.plan image
runs m = running m.geometry m.plan m.measured

-- ---- the steps that store data

pub steps_most : (d u : ℕ) → d ≤ 262144 → 0 < u → (d + (u - 1)) / u ≤ 262144
steps_most d u h k =
    let e : (d + (u - 1)) / u < 262145 = (div-lt_iff_lt-mul k).1 (omega (arith, mul-le-mul_right 262145 k)) in
    omega arith

pub data_bounds : {g : Geometry} {p : Plan} {image : List ℕ} → Running g p image
    → (p.vid.data_size ≤ 262144) × ((0 < p.unit) × (p.unit ≤ 262144))
data_bounds r =
    let m = r.measured in
    let P = m.placed in
    let u = m.same_unit in (
      omega (arith, r.size_fits, P.leb_fills, P.peb_most),
      (omega (arith, u, P.unit_above), omega (arith, u, m.unit_most)),
    )
