-- 01 'The mover's steps': what each step writes. Assumes nothing.
use Rattle.std.specs.Prelude.{ℕ, ◌+◌, ◌-◌, ◌*◌, ◌/◌, min, List}
use Rattle.base.specs.Lists.{part}
use Rattle.geometry.specs.Geometry.{make_geometry}
use Rattle.geometry.specs.declared.Geometry.{Geometry}
use Rattle.header.specs.Ec.{ec_bytes}
use Rattle.header.specs.Vid.{vid_bytes}
use Rattle.job.specs.Write.{Write, peb_start}
use Rattle.job.specs.Relocation.{Relocation, relocating}
use Rattle.mover_rules.specs.declared.Plan.{Plan}

-- the geometry of the plan's three numbers
unfoldable pub plan_geometry : Plan → Geometry
plan_geometry p = make_geometry p.peb_size p.unit p.sub_unit

-- "data size over unit, rounded up": the steps that store data
unfoldable pub data_steps : Plan → ℕ
data_steps p = (p.vid.data_size + (p.unit - 1)) / p.unit

-- "Steps: 3 plus data size over unit, rounded up."
unfoldable pub step_count : Plan → ℕ
step_count p = 3 + data_steps p

-- "one unit of data (the last may be short)": the bytes of unit j, as they stand in the old PEB
unfoldable pub unit_bytes : Plan → List ℕ → ℕ → List ℕ
unit_bytes p image j =
    let g : Geometry = plan_geometry p in
    part (peb_start g p.old + (g.data_start + j * g.unit)) (min g.unit (p.vid.data_size - j * g.unit)) image

-- the LEB's new place, with the data as they stand in the image
abbrev pub relocation : Plan → List ℕ → Relocation
relocation p image = record {
  old = p.old;
  target = p.target;
  vid = vid_bytes p.vid;
  ec = ec_bytes p.ec;
  units = data_steps p;
  unit = unit_bytes p image;
}

-- the write of the step after k steps
unfoldable pub write_after : Plan → List ℕ → ℕ → Write
write_after p image k = relocating (plan_geometry p) (relocation p image) k
