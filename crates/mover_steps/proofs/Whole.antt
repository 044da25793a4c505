-- Laws of a whole step: what it answers, and the image after it. Assumes nothing.
use mathlib.Core.Path.{◌≡◌, refl, sym, ap, ◌∙◌}
use mathlib.Core.Bool.{true, false}
use mathlib.Core.List.{List}
use Prim.Native.Nat.{ℕ, suc, ◌+◌, ◌-◌, ◌*◌, ◌≤◌, ◌<◌}
use native.Mathlib.Omega.{arith}
use borrow.Author.Tests.{lt-ltb, le-ltb}
use lib.ListN.{replicate}
use Rattle.base.specs.Answers.{given, refused}
use Rattle.base.specs.Lists.{put}
use Rattle.geometry.specs.declared.Geometry.{Geometry}
use Rattle.header.specs.Ec.{ec_bytes}
use Rattle.header.specs.Vid.{vid_bytes}
use Rattle.job.specs.Write.{Write, applied_whole, peb_start}
use Rattle.job.specs.Relocation.{relocating}
use Rattle.job.specs.Job.{on, done, step_write, step_answer, stepping}
use Rattle.job.proofs.Relocated.{vid_write, unit_write, erase_write, ec_write}
use Rattle.mover_rules.specs.Write.{data_steps, step_count, unit_bytes, relocation, write_after}
use Rattle.mover_rules.specs.Step.{runnable, one_on, mover_job}
use Rattle.mover_rules.specs.declared.Plan.{Plan}
use Rattle.mover_rules.proofs.Steps.{mover_lawful}
use Rattle.mover_steps.specs.declared.steps.MeasuredPlan.{MeasuredPlan}

-- ---- the write, where one is left

module _ (m : MeasuredPlan) (image : List ℕ) where
  abbrev g : Geometry
  g = m.geometry

  abbrev p : Plan
  p = m.plan

  -- the image after it
  abbrev pub Left : List ℕ → Type 0
  Left y = y ≡ applied_whole (write_after p image p.steps) image

  pub after : {w : Write} (k : ℕ) → p.steps ≡ k → relocating g (relocation p image) k ≡ w
      → write_after p image p.steps ≡ w
  unfolding write_after
  after k h e = ap (write_after p image) h ∙ (λ i. relocating (sym m.measured.is i) (relocation p image) k) ∙ e

  by : {y : List ℕ} (k : ℕ) (w : Write) → p.steps ≡ k → relocating g (relocation p image) k ≡ w
      → y ≡ applied_whole w image → Left y
  by k w h e q = q ∙ sym (ap (λ (x : Write). applied_whole x image) (after k h e))

  pub left_vid : {y : List ℕ} {s : ℕ} → p.steps ≡ 0 → s ≡ p.target * g.peb_size
      → y ≡ put (s + g.vid_start) (vid_bytes p.vid) image → Left y
  left_vid h z e = by 0 _ h (vid_write g (relocation p image) 0 refl) (rw z at e)

  module _ (started : p.steps ≡ 0 → ⊥) where
    next : p.steps ≡ suc (p.steps - 1)
    next = omega arith

    pub left_unit : {y : List ℕ} {d : ℕ} → d ≡ data_steps p → p.steps - 1 < d
        → y ≡ put (peb_start g p.target + (g.data_start + (p.steps - 1) * g.unit))
        (unit_bytes p image (p.steps - 1)) image → Left y
    left_unit z h e = by (suc (p.steps - 1)) _ next (unit_write g (relocation p image) (p.steps - 1) (omega arith)) e

    pub left_erase : {y : List ℕ} {d s : ℕ} → d ≡ data_steps p → p.steps - 1 ≡ d → s ≡ p.old * g.peb_size
        → y ≡ put s (replicate g.peb_size 0xFF) image → Left y
    left_erase z h q e = by (suc (p.steps - 1)) _ next (erase_write g (relocation p image) (p.steps - 1) (omega arith))
        (rw q at e)

    pub left_ec : {y : List ℕ} {d s : ℕ} → d ≡ data_steps p → d ≤ p.steps - 1 → (p.steps - 1 ≡ d → ⊥)
        → p.steps < step_count p
        → s ≡ p.old * g.peb_size → y ≡ put s (ec_bytes p.ec) image → Left y
    unfolding step_count
    left_ec z h n l q e = by (suc (p.steps - 1)) _ next (ec_write g (relocation p image) (p.steps - 1) (omega arith))
        (rw q at e)

-- ---- the step

module _ (p : Plan) (image : List ℕ) where
  pub step_refused : runnable p image ≡ false
      → (refused 18 0 ≡ (stepping mover_job p image).answer) × (image ≡ (stepping mover_job p image).image)
  unfolding stepping step_answer step_write
  step_refused e = (rw e, rw e)

  pub step_done : runnable p image ≡ true → step_count p ≤ p.steps
      → (given done ≡ (stepping mover_job p image).answer) × (image ≡ (stepping mover_job p image).image)
  unfolding stepping step_answer step_write
  step_done e h = (rw (e, le-ltb _ _ h), rw (e, mover_lawful.late p image p.steps h))

  pub step_on : {y : List ℕ} → runnable p image ≡ true → p.steps < step_count p
      → y ≡ applied_whole (write_after p image p.steps) image
      → (given (on (one_on p)) ≡ (stepping mover_job p image).answer) × (y ≡ (stepping mover_job p image).image)
  unfolding stepping step_answer step_write
  step_on e h q = (rw (e, lt-ltb _ _ h), rw e q)
