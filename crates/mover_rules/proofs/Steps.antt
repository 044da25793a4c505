-- A move is a job: its steps fulfil the laws of all jobs. Assumes nothing.
use mathlib.Core.Path.{◌≡◌, refl}
use mathlib.Core.Bool.{true}
use mathlib.Core.List.{List}
use Prim.Native.Nat.{ℕ, zero, suc, ◌+◌, ◌-◌, ◌*◌, ◌/◌, ◌≤◌, ◌<◌, min}
use native.Mathlib.Omega.{arith}
use lib.ListN.{length-take}
use Rattle.base.specs.Lists.{Bytes}
use Rattle.base.proofs.Lists.{bytes_part}
use Rattle.geometry.specs.declared.Geometry.{Geometry}
use Rattle.header.proofs.Writes.{vid_64, ec_64}
use Rattle.geometry.specs.Image.{image_rules}
use Rattle.job.specs.Write.{nothing, peb_start}
use Rattle.job.proofs.Writes.{Within, Octets, ec_octets, vid_octets}
use Rattle.job.proofs.Runs.{Lawful, nexts}
use Rattle.job.proofs.Relocated.{late_write, each_write}
use Rattle.mover_rules.specs.Write.{plan_geometry, data_steps, step_count, unit_bytes, relocation, write_after}
use Rattle.mover_rules.specs.Step.{step_rules, runnable, one_on, mover_job}
use Rattle.mover_rules.specs.Running.{Running}
use Rattle.mover_rules.specs.declared.Plan.{Plan}
use Rattle.mover_rules.proofs.Data.{unit_starts}
use Rattle.mover_rules.proofs.Rules.{runs_on}

module _ (g : Geometry) (p : Plan) (image : List ℕ) (r : Running g p image) where
  -- unit j starts within the data
  pub unit_within : (j : ℕ) → j < data_steps p → j * g.unit < p.vid.data_size
  unfolding data_steps
  unit_within j h =
      let k : j < (p.vid.data_size + (g.unit - 1)) / g.unit = rw r.measured.same_unit at h in
      unit_starts j p.vid.data_size g.unit r.measured.placed.unit_above k

module _ (p : Plan) (image : List ℕ) where
  abbrev g : Geometry
  g = plan_geometry p

  writes_within : runnable p image ≡ true → (k : ℕ) → Within (write_after p image k) image
  unfolding write_after unit_bytes
  writes_within e =
      let r = runs_on p image e in
      let P = r.measured.placed in
      each_write g (relocation p image) (λ w. Within w image)
      (omega (arith, vid_64 p.vid, r.target_room, P.data_after_vid, P.leb_fills))
      (λ j h. let u = unit_within g p image r j h in rw length-take
      (omega (arith, r.target_room, r.size_fits, P.leb_fills)))
      r.old_room
      (omega (arith, ec_64 p.ec, r.old_room, P.vid_after_ec, P.data_after_vid, P.leb_fills))
      tt

  writes_octets : (k : ℕ) → Bytes image → Octets (write_after p image k)
  unfolding write_after unit_bytes
  writes_octets k b =
      each_write g (relocation p image) Octets (vid_octets p.vid)
      (λ j h. bytes_part (peb_start g p.old + (g.data_start + j * g.unit))
      (min g.unit (p.vid.data_size - j * g.unit)) image b)
      tt (ec_octets p.ec) tt k

  late : (k : ℕ) → step_count p ≤ k → write_after p image k ≡ nothing
  unfolding write_after step_count
  late k h = late_write g (relocation p image) k h

pub mover_lawful : Lawful mover_job
unfolding one_on runnable step_rules image_rules plan_geometry step_count data_steps unit_bytes write_after
mover_lawful = record {
  counts = λ p. refl;
  same_count = λ p image. refl;
  same_write = λ p image k. refl;
  by_length = λ p a b e. (rw e, refl);
  within = writes_within;
  late = late;
  octets = writes_octets;
}

-- 18 refuses none of the steps, if it does not refuse the first
pub mover_runs : (p : Plan) (image : List ℕ) → runnable p image ≡ true → (k : ℕ)
    → runnable (nexts mover_job p k) image ≡ true
unfolding one_on runnable step_rules plan_geometry
mover_runs p image e zero = e
mover_runs p image e (suc k) = mover_runs p image e k
