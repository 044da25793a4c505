-- 02 2026-01: what building answers, and what the lent image holds afterwards. Assumes nothing.
use Rattle.std.specs.Prelude.{ℕ, ◌*◌, Bool, cond, List, [], ◌∷◌, eqb, leb, length, Result, Ok, Err}
use Rattle.base.specs.Answers.{Answer, given, refused, all_of}
use Rattle.base.specs.Below.{all_below, sum_below}
use Rattle.geometry.specs.Image.{peb_count_of, image_rules}
use Rattle.geometry.specs.declared.Geometry.{Geometry}
use Rattle.builder_rules.specs.Slip.{volume_count, builder_geometry}
use Rattle.builder_rules.specs.Table.{slip_table, volume_rules}
use Rattle.builder_rules.specs.Blocks.{BuildPlan, volume_of, length_of, room, built_image}
use Rattle.refusals.specs.declared.Refused.{Refused}

-- 21 "lengths not one for each volume or not summing to the content, or content longer than its volume's reserved LEBs
-- hold"
unfoldable pub content_rules : BuildPlan → List Bool
content_rules b =
    eqb (length b.lengths) b.volumes
    ∷ eqb (sum_below b.volumes (length_of b)) (length b.contents)
    ∷ all_below b.volumes (λ v. leb (length_of b v) ((volume_of b v).reserved * room b v)) ∷ []

module _ (slip : List ℕ) (seq : ℕ) (lengths contents image : List ℕ) where
  abbrev pub plan_of : Geometry → BuildPlan
  plan_of g = record {
    geometry = g;
    image_seq = seq;
    volumes = volume_count slip;
    table = slip_table g.leb_size slip;
    lengths = lengths;
    contents = contents;
  }

  -- 3, then 20 and 21, "both after 1 to 4" (4 has no case: no table or header buffer is lent, and too few lengths is
  -- 21)
  abbrev pub build_by : Answer Geometry → Answer BuildPlan
  build_by (refused k p) = refused k p
  build_by (given g) =
      cond (all_of (image_rules g image))
      (cond (all_of (volume_rules g (peb_count_of g image) slip))
      (cond (all_of (content_rules (plan_of g))) (given (plan_of g)) (refused 21 0)) (refused 20 0)) (refused 3 0)

  -- 1 and 2 before them
  unfoldable pub building : Answer BuildPlan
  building = build_by (builder_geometry slip)

-- the answer alone
abbrev pub without_plan : Answer BuildPlan → Answer (Unit {0})
without_plan (given b) = given tt
without_plan (refused k p) = refused k p

-- the image afterwards: "A refusal leaves the image as it came."
abbrev pub image_after : Answer BuildPlan → List ℕ → List ℕ
image_after (given b) image = built_image b (peb_count_of b.geometry image)
image_after (refused k p) image = image

-- what each case of the answer is in 01 and 02
abbrev pub built_answer : Result (Unit {0}) Refused → Answer (Unit {0})
built_answer (Ok u) = given u
built_answer (Err e) = refused e.number e.place
