-- 01 'The mover's steps': the writes that give a LEB a new PEB. Assumes nothing.
use Rattle.std.specs.Prelude.{ℕ, zero, suc, ◌+◌, ◌*◌, cond, List, eqb, ltb}
use Rattle.geometry.specs.declared.Geometry.{Geometry}
use Rattle.job.specs.Write.{Write, store, erase, nothing, peb_start}

-- the PEB that holds the LEB and the one that it gets; the bytes of the new VID header and of the EC header that the
-- old PEB has once it is erased; the units of data: how many, and the bytes of each
pub record Relocation : Type 0 where
  pub old : ℕ
  pub target : ℕ
  pub vid : List ℕ
  pub ec : List ℕ
  pub units : ℕ
  pub unit : ℕ → List ℕ

-- the write of the step after k steps: "Step 1 stores the header; each next step one unit of data .., ascending; then
-- one erases the old PEB to 0xFF; the last stores its EC header .. Further steps .. change nothing."
unfoldable pub relocating : Geometry → Relocation → ℕ → Write
relocating g r zero = store (peb_start g r.target + g.vid_start) r.vid
relocating g r (suc j) =
    cond (ltb j r.units) (store (peb_start g r.target + (g.data_start + j * g.unit)) (r.unit j))
    (cond (eqb j r.units) (erase (peb_start g r.old) g.peb_size)
    (cond (eqb j (r.units + 1)) (store (peb_start g r.old) r.ec) nothing))
