-- What building comes to, judged step by step. Assumes nothing.
use mathlib.Core.Path.{◌≡◌, refl}
use mathlib.Core.Bool.{Bool, true, false}
use mathlib.Core.List.{List}
use Rattle.std.proofs.Common.{Result, Err}
use Prim.Native.Nat.{ℕ, ◌<◌, ◌^◌}
use native.Mathlib.Nat.{mod-le}
use borrow.Author.Tests.{eqb-true}
use lib.ListN.{length}
use Rattle.base.specs.Answers.{Answer, given, refused, all_of}
use Rattle.base.specs.Lists.{Bytes}
use Rattle.base.proofs.Answers.{each_holds, cond_yes, refused_not}
use Rattle.field.specs.Fields.{field, number_in}
use Rattle.geometry.specs.Image.{peb_count_of, image_rules}
use Rattle.geometry.specs.Placed.{Placed}
use Rattle.geometry.specs.Slip.{value_at}
use Rattle.geometry.specs.Geometry.{geometry_read}
use Rattle.geometry.specs.declared.SlipError.{SlipError}
use Rattle.geometry.specs.declared.SlipError.TheVariants.{Malformed, Outside}
use Rattle.refusals.specs.Slip.{slip_refused}
use Rattle.geometry.specs.declared.Geometry.{Geometry}
use Rattle.geometry.proofs.Laws.{placed, image_least, image_few}
use Rattle.builder_rules.specs.Slip.{volume_count, volume_field, builder_slip, builder_geometry}
use Rattle.builder_rules.specs.Table.{record_of_field, slip_table, volume_rules}
use Rattle.builder_rules.specs.Blocks.{BuildPlan, volume_of, built_image}
use Rattle.builder_rules.specs.Build.{content_rules, plan_of, build_by, building, without_plan, image_after}
use Rattle.builder_rules.specs.Filling.{plan_from, PadsWithin, Accepted}
use Rattle.builder_rules.proofs.Planned.{record_given, accepted}

-- ---- an answer, and the image after it

pub by_refusal_lem : {x : Answer BuildPlan} {a : Answer (Unit {0})} (image : List ℕ) {k p : ℕ} → x ≡ refused k p
    → a ≡ refused k p → (a ≡ without_plan x) × (image ≡ image_after x image)
by_refusal_lem image e q = rw e (q, refl)

pub by_plan : {x : Answer BuildPlan} {b : BuildPlan} (image : List ℕ) {last : List ℕ} → x ≡ given b
    → last ≡ built_image b (peb_count_of b.geometry image) → (given tt ≡ without_plan x) × (last ≡ image_after x image)
by_plan image e q = rw e (refl, q)

-- ---- a geometry

module _ (slip : List ℕ) (seq : ℕ) (lengths contents image : List ℕ) (g : Geometry) where
  abbrev n : ℕ
  n = peb_count_of g image

  abbrev plan : BuildPlan
  plan = plan_of slip seq lengths contents image g

  abbrev outcome : Answer BuildPlan
  outcome = build_by slip seq lengths contents image (given g)

  module _ (three : all_of (image_rules g image) ≡ true) where
    module _ (twenty : all_of (volume_rules g n slip) ≡ true) where
      pub refused_21 : all_of (content_rules plan) ≡ false → outcome ≡ refused 21 0
      refused_21 c = rw (three, twenty, c)

      pub planned : all_of (content_rules plan) ≡ true → outcome ≡ given plan
      planned c = rw (three, twenty, c)

      -- a length for each volume
      pub lengths_many : all_of (content_rules plan) ≡ true → length lengths ≡ volume_count slip
      unfolding content_rules
      lengths_many e = eqb-true (length lengths) (volume_count slip) (each_holds (content_rules plan) e 0)

      -- ---- what the functions that judge and fill are lent

      module _ {k : ℕ} {t : List ℕ} (count : k ≡ volume_count slip) (table : t ≡ slip_table g.leb_size slip) where
        pub content_decides : {r : Bool} → r ≡ all_of (content_rules (plan_from g 0 k t lengths contents))
            → r ≡ all_of (content_rules plan)
        unfolding content_rules volume_of
        content_decides e = rw (count, table) at e

        module _ (p : Placed g) (bytes : Bytes slip) where
          pub pads : PadsWithin g.leb_size k t
          unfolding record_of_field
          pads v h =
              rw (table, record_given g n slip p bytes twenty v (rw count at h))
              (mod-le g.leb_size (number_in (field 4 4) (volume_field slip v)))

          pub ready : seq < 256 ^ 4 → Bytes contents → all_of (content_rules plan) ≡ true
              → Accepted (plan_from g seq (length lengths) t lengths contents) n
          ready s c e =
              rw (lengths_many e, table)
              (accepted g n slip p bytes twenty seq lengths contents image (image_least g image three)
              (image_few g image three) s c e)

-- ---- a slip

pub geometry_placed : (s : List ℕ) (g : Geometry) → builder_geometry s ≡ given g → Placed g
unfolding builder_geometry
geometry_placed s g e =
    placed (value_at 0 4 s) (value_at 7 2 s) (value_at 12 2 s) g (cond_yes (builder_slip s) refused_not e).1

pub promised : (slip : List ℕ) (seq : ℕ) (lengths contents image : List ℕ) (x : Answer Geometry) {a : Answer (Unit {0})}
    {last : List ℕ} → x ≡ builder_geometry slip
    → (a ≡ without_plan (build_by slip seq lengths contents image x))
    × (last ≡ image_after (build_by slip seq lengths contents image x) image)
    → (a ≡ without_plan (building slip seq lengths contents image))
    × (last ≡ image_after (building slip seq lengths contents image) image)
unfolding building
promised slip seq lengths contents image x e p = rw (← e) p

-- a slip that is refused
pub slip_refuses : (slip : List ℕ) (seq : ℕ) (lengths contents image : List ℕ) (e : SlipError)
    → geometry_read (Err e) ≡ builder_geometry slip
    → (refused (slip_refused e).number (slip_refused e).place ≡ without_plan (building slip seq lengths contents image))
    × (image ≡ image_after (building slip seq lengths contents image) image)
slip_refuses slip seq lengths contents image Malformed q =
    promised slip seq lengths contents image (refused 1 0) q (refl, refl)
slip_refuses slip seq lengths contents image Outside q =
    promised slip seq lengths contents image (refused 2 0) q (refl, refl)

-- of a malformed slip alone: with these the check judges each number that could be answered to it
pub malformed_answer : (slip : List ℕ) (seq : ℕ) (lengths contents image : List ℕ) {r : Result Geometry SlipError}
    → r ≡ Err Malformed → geometry_read r ≡ builder_geometry slip
    → refused 1 0 ≡ without_plan (building slip seq lengths contents image)
malformed_answer slip seq lengths contents image e q =
    (slip_refuses slip seq lengths contents image Malformed (rw e at q)).0

pub malformed_image : (slip : List ℕ) (seq : ℕ) (lengths contents image : List ℕ) {r : Result Geometry SlipError}
    → r ≡ Err Malformed → geometry_read r ≡ builder_geometry slip
    → image ≡ image_after (building slip seq lengths contents image) image
malformed_image slip seq lengths contents image e q =
    (slip_refuses slip seq lengths contents image Malformed (rw e at q)).1
