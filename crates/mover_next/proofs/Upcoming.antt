-- Laws of what the next step will write. Assumes nothing.
use mathlib.Core.Path.{◌≡◌, refl, sym, ap, ◌∙◌}
use mathlib.Core.Bool.{true, false}
use mathlib.Core.List.{List}
use Prim.Native.Nat.{ℕ, suc, ◌+◌, ◌-◌, ◌*◌, ◌≤◌, ◌<◌, min}
use native.Mathlib.Omega.{arith}
use lib.ListN.{length}
use Rattle.base.proofs.Lists.{length_part}
use Rattle.geometry.specs.declared.Geometry.{Geometry}
use Rattle.header.proofs.Writes.{ec_64, vid_64}
use Rattle.job.specs.Write.{Write, peb_start}
use Rattle.job.specs.Relocation.{relocating}
use Rattle.job.specs.Job.{step_write}
use Rattle.job.proofs.Relocated.{vid_write, unit_write, erase_write, ec_write, late_write}
use Rattle.mover_rules.specs.Write.{data_steps, unit_bytes, relocation}
use Rattle.mover_rules.specs.Step.{runnable}
use Rattle.mover_rules.specs.Running.{Running}
use Rattle.mover_rules.specs.declared.Plan.{Plan}
use Rattle.mover_rules.proofs.Steps.{unit_within}
use Rattle.mover_next.specs.Upcoming.{shown, next_write}
use Rattle.mover_next.specs.declared.NextWrite.{NextWrite}
use Rattle.mover_next.specs.declared.NextWrite.TheVariants.{Store, Erase, Nothing, Refused}
use Rattle.mover_steps.specs.declared.steps.MeasuredPlan.{MeasuredPlan}
use Rattle.mover_steps.proofs.Rules.{runs}
use Rattle.mover_steps.proofs.Whole.{after}

pub next_refused : (p : Plan) (image : List ℕ) → runnable p image ≡ false → Refused ≡ next_write p image
unfolding next_write
next_refused p image e = rw e

module _ (m : MeasuredPlan) (image : List ℕ) (may : runnable m.plan image ≡ true) where
  abbrev g : Geometry
  g = m.geometry

  abbrev p : Plan
  p = m.plan

  r : Running g p image
  r = runs m image may

  by : {x : NextWrite} {w : Write} (k : ℕ) → p.steps ≡ k → relocating g (relocation p image) k ≡ w → x ≡ shown w
      → x ≡ next_write p image
  unfolding next_write step_write
  by k h e q = rw may (q ∙ rw (after m image k h e))

  pub next_vid : {s : ℕ} → p.steps ≡ 0 → s ≡ p.target * g.peb_size
      → Store (s + g.vid_start) 64 ≡ next_write p image
  next_vid h z = by 0 h (vid_write g (relocation p image) 0 refl) (rw (z, vid_64))

  module _ (started : p.steps ≡ 0 → ⊥) {d : ℕ} (is-d : d ≡ data_steps p) where
    started_as : p.steps ≡ suc (p.steps - 1)
    started_as = omega arith

    unit_length : (j : ℕ) → j < data_steps p
        → length (unit_bytes p image j) ≡ min p.unit (p.vid.data_size - j * g.unit)
    unfolding unit_bytes
    unit_length j h =
        rw (← m.measured.is)
        (length_part (peb_start g p.old + (g.data_start + j * g.unit))
        (min g.unit (p.vid.data_size - j * g.unit)) image
        (omega (arith, unit_within g p image r j h, r.size_fits, r.old_room, m.measured.placed.leb_fills)))
        ∙ sym (ap (λ (u : ℕ). min u (p.vid.data_size - j * g.unit)) m.measured.same_unit)

    pub next_unit : {x : NextWrite} → p.steps - 1 < d
        → x ≡ Store (peb_start g p.target + (g.data_start + (p.steps - 1) * g.unit))
        (min p.unit (p.vid.data_size - (p.steps - 1) * g.unit))
        → x ≡ next_write p image
    next_unit h e =
        let l : p.steps - 1 < data_steps p = omega arith in
        by (suc (p.steps - 1)) started_as (unit_write g (relocation p image) (p.steps - 1) l)
        (e ∙ rw (unit_length (p.steps - 1) l))

    pub next_erase : {s : ℕ} → p.steps - 1 ≡ d → s ≡ p.old * g.peb_size
        → Erase s g.peb_size ≡ next_write p image
    next_erase h z =
        by (suc (p.steps - 1)) started_as (erase_write g (relocation p image) (p.steps - 1) (omega arith)) (rw z)

    pub next_ec : {s : ℕ} → p.steps - 1 ≡ d + 1 → s ≡ p.old * g.peb_size → Store s 64 ≡ next_write p image
    next_ec h z =
        by (suc (p.steps - 1)) started_as (ec_write g (relocation p image) (p.steps - 1) (omega arith))
        (rw (z, ec_64))

    pub next_nothing : d ≤ p.steps - 1 → (p.steps - 1 ≡ d → ⊥) → (p.steps - 1 ≡ d + 1 → ⊥)
        → Nothing ≡ next_write p image
    next_nothing h n o = by p.steps refl (late_write g (relocation p image) p.steps (omega arith)) refl
