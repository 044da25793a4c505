-- No refusal of building has number 0: a call that answers 0 filled the image. Assumes nothing.
use mathlib.Core.Bool.{Bool, cond}
use mathlib.Core.List.{List}
use Prim.Native.Nat.{ℕ, ◌<◌}
use lib.Dec.{lit<}
use Rattle.base.specs.Answers.{Answer, given, refused, all_of}
use Rattle.base.proofs.Answers.{either_way}
use Rattle.geometry.specs.Geometry.{geometry_rules, make_geometry, geometry_of}
use Rattle.geometry.specs.Image.{peb_count_of, image_rules}
use Rattle.geometry.specs.Slip.{value_at, head_geometry}
use Rattle.geometry.specs.declared.Geometry.{Geometry}
use Rattle.report.proofs.Numbers.{Numbered}
use Rattle.builder_rules.specs.Slip.{builder_slip, builder_geometry}
use Rattle.builder_rules.specs.Table.{volume_rules}
use Rattle.builder_rules.specs.Build.{content_rules, plan_of, build_by, building}

unless_refused_lem : {A : Type 0} (b : Bool) (x : Answer A) (k p : ℕ) → Numbered x → 0 < k → Numbered (cond b x
    (refused k p))
unless_refused_lem b x k p h l = either_way (λ (b : Bool). Numbered (cond b x (refused k p))) b h l

module _ (slip : List ℕ) (seq : ℕ) (lengths contents image : List ℕ) where
  by_numbered : (x : Answer Geometry) → Numbered x → Numbered (build_by slip seq lengths contents image x)
  by_numbered (refused k p) h = h
  by_numbered (given g) h =
      let plan = plan_of slip seq lengths contents image g in
      unless_refused_lem (all_of (image_rules g image)) _ 3 0
      (unless_refused_lem (all_of (volume_rules g (peb_count_of g image) slip)) _ 20 0
      (unless_refused_lem (all_of (content_rules plan)) (given plan) 21 0 tt (lit< tt)) (lit< tt)) (lit< tt)

  geometry_numbered : Numbered (builder_geometry slip)
  unfolding builder_geometry geometry_of
  geometry_numbered =
      let peb = value_at 0 4 slip in let unit = value_at 7 2 slip in let sub = value_at 12 2 slip in
      unless_refused_lem (builder_slip slip) (head_geometry slip) 1 0
      (unless_refused_lem (all_of (geometry_rules peb unit sub)) (given (make_geometry peb unit sub)) 2 0 tt (lit< tt))
      (lit< tt)

  pub built_numbered : Numbered (building slip seq lengths contents image)
  unfolding building
  built_numbered = by_numbered (builder_geometry slip) geometry_numbered
