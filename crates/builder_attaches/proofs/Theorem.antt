-- 02 2026-01: every image that is built attaches with grade 0 and holds what was given. Assumes nothing.
use mathlib.Core.Path.{◌≡◌, refl, sym, ◌∙◌, subst}
use mathlib.Core.Bool.{true}
use mathlib.Core.List.{List, ◌∷◌}
use Prim.Native.Nat.{ℕ, ◌+◌, ◌≤◌, ◌<◌, ◌^◌}
use native.Mathlib.Omega.{arith}
use borrow.Author.Tests.{le-leb}
use lib.Dec.{lit≤}
use lib.ListN.{length, take, drop, length-append, length-drop}
use lib.Seq.{length-take-le, drop_at, drop-append-le, take-append-le}
use Rattle.base.specs.Answers.{Answer, given, refused, all_of}
use Rattle.base.specs.Lists.{part, Bytes}
use Rattle.base.proofs.Answers.{and_left, each_holds, cond_yes, refused_not}
use Rattle.base.proofs.Lists.{part_take, eqs_refl}
use Rattle.field.specs.Be.{to_be}
use Rattle.geometry.specs.Image.{peb_count_of, image_rules}
use Rattle.geometry.specs.Slip.{has_field, value_at, head_rules, head_geometry, ends_at, well_formed, slip_geometry}
use Rattle.geometry.specs.declared.Geometry.{Geometry}
use Rattle.geometry.proofs.Laws.{placed, head_length, image_whole, image_least, image_few}
use Rattle.report.specs.Attach.{Tables, request, long_enough, attaching, attaching_into, whole}
use Rattle.builder_rules.specs.Slip.{field_start, volume_count, builder_slip, builder_geometry}
use Rattle.builder_rules.specs.Table.{volume_rules}
use Rattle.builder_rules.specs.Blocks.{BuildPlan, built_image}
use Rattle.builder_rules.specs.Build.{content_rules, plan_of, build_by, building, image_after}
use Rattle.builder_rules.specs.Filling.{Accepted}
use Rattle.builder_rules.proofs.Pebs.{built_length}
use Rattle.builder_rules.proofs.Planned.{accepted, record_given}
use Rattle.builder_attaches.specs.Claim.{plain_slip, Holds, built_medium, Claim}
use Rattle.builder_attaches.proofs.Chosen.{highest_is}
use Rattle.builder_attaches.proofs.Faces.{records_are, mark_zero}
use Rattle.builder_attaches.proofs.Whole.{sequence_given, sequences_given, attaches, counters_zero, mean_zero}
use Rattle.builder_attaches.proofs.Whole.{map_built, states_good, grade_zero}
use Rattle.builder_attaches.proofs.Contents.{content_given}

-- ---- the slip with the volume fields left out

-- tag 0, length 0
abbrev tail : List ℕ
tail = 0 ∷ to_be 2 0

module _ (s : List ℕ) (w : all_of (head_rules s) ≡ true) where
  head_long : length (take 17 s) ≡ 17
  head_long = length-take-le 17 s (head_length s w)

  -- what stands in the head
  head_part : (at n : ℕ) → at + n ≤ 17 → part at n (plain_slip s) ≡ part at n s
  head_part at n h =
      rw (drop-append-le at (take 17 s) tail (omega (arith, head_long)))
      (take-append-le n (drop at (take 17 s)) tail (omega (arith, length-drop at (take 17 s), head_long))
      ∙ part_take at n 17 s h)

  plain_formed : well_formed (plain_slip s) ≡ true
  unfolding well_formed head_rules has_field ends_at
  plain_formed =
      let r = each_holds (head_rules s) w in
      rw (
        le-leb 17 (length (plain_slip s)) (omega (arith, length-append (take 17 s) tail, head_long)),
        head_part 0 3 (lit≤ tt),
        r 1,
        head_part 7 3 (lit≤ tt),
        r 2,
        head_part 12 3 (lit≤ tt),
        r 3,
        drop_at (take 17 s) tail 17 head_long,
        eqs_refl tail,
      )

  pub plain_geometry : slip_geometry (plain_slip s) ≡ head_geometry s
  unfolding slip_geometry value_at
  plain_geometry =
      rw (plain_formed, head_part 3 4 (lit≤ tt), head_part 10 2 (lit≤ tt), head_part 15 2 (lit≤ tt))

-- ---- a plan that no refusal meets

-- what the claim says of a plan
abbrev Concluded : List ℕ → List ℕ → Tables → BuildPlan → Type 0
Concluded slip image t b =
    long_enough t (peb_count_of b.geometry image) ≡ true
    → (attaching_into (request (plain_slip slip)) (image_after (given b) image) t ≡ whole (built_medium b image))
    × Holds slip b (built_medium b image)

module _ (slip : List ℕ) (seq : ℕ) (lengths contents image : List ℕ) (bs : Bytes slip) (sq : seq < 2 ^ 32)
    (bc : Bytes contents) (g : Geometry) (head : all_of (head_rules slip) ≡ true) (is : head_geometry slip ≡ given g)
    (three : all_of (image_rules g image) ≡ true) (twenty : all_of (volume_rules g (peb_count_of g image) slip) ≡ true)
    (twenty-one : all_of (content_rules (plan_of slip seq lengths contents image g)) ≡ true) where
  abbrev b : BuildPlan
  b = plan_of slip seq lengths contents image g

  abbrev n : ℕ
  n = peb_count_of g image

  fine : Accepted b n
  fine =
      accepted g n slip (placed (value_at 0 4 slip) (value_at 7 2 slip) (value_at 12 2 slip) g is) bs twenty
      seq lengths contents image (image_least g image three) (image_few g image three) sq bc twenty-one

  -- the image keeps its length
  same_length : length (built_image b n) ≡ length image
  same_length = built_length b n fine ∙ sym (image_whole g image three)

  attached : (t : Tables) → long_enough t n ≡ true
      → attaching_into (request (plain_slip slip)) (built_image b n) t ≡ whole (built_medium b image)
  unfolding attaching image_rules
  attached t l = rw (plain_geometry slip head, is, same_length, three, l, attaches b n fine)

  holds : Holds slip b (built_medium b image)
  holds = record {
    grade_zero = grade_zero b n fine;
    copies_zero = mark_zero b n fine;
    states_good = states_good b n fine;
    sequence_given = sequence_given b n fine;
    sequences_given = sequences_given b n fine;
    counters_zero = counters_zero b n fine;
    mean_zero = mean_zero b n fine;
    highest_is = highest_is b n fine;
    table_given = records_are b n fine;
    records_given = λ v h. rw (records_are b n fine) (record_given g n slip fine.placed bs twenty v h);
    map_built = map_built b n fine;
    contents_given = content_given b n fine;
  }

pub built_image_attaches : Claim
unfolding building builder_geometry builder_slip
built_image_attaches slip seq lengths contents image b bs sq bc e t = rw e (from (builder_geometry slip) refl e)
  where
    from : (x : Answer Geometry) → builder_geometry slip ≡ x → build_by slip seq lengths contents image x ≡ given b
        → Concluded slip image t b
    from (refused k p) q e = absurd (refused_not e)
    from (given g) q e =
        let u : BuildPlan = plan_of slip seq lengths contents image g in
        let c₀ = cond_yes (builder_slip slip) refused_not q in
        let c₁ = cond_yes (all_of (image_rules g image)) refused_not e in
        let c₂ = cond_yes (all_of (volume_rules g (peb_count_of g image) slip)) refused_not c₁.1 in
        let c₃ = cond_yes (all_of (content_rules u)) refused_not c₂.1 in
        let z : u ≡ b = cc c₃.1 in
        let w = and_left (all_of (head_rules slip)) (ends_at (field_start slip (volume_count slip)) slip) c₀.0 in
        subst (Concluded slip image t) z
        (λ l. (
          attached slip seq lengths contents image bs sq bc g w c₀.1 c₁.0 c₂.0 c₃.0 t l,
          holds slip seq lengths contents image bs sq bc g w c₀.1 c₁.0 c₂.0 c₃.0,
        ))
