-- What is known of a plan whose steps may run on an image: `mover_steps::MeasuredPlan` holds the first record, and
-- contracts of inner functions ask for the second; `step`, `finish` and `next_write` name neither. Assumes nothing.
use Rattle.std.specs.Prelude.{◌≡◌, true, ◌≢◌, List, ℕ, ◌+◌, ◌*◌, ◌≤◌, ◌<◌, length}
use Rattle.base.specs.Answers.{all_of}
use Rattle.geometry.specs.Geometry.{geometry_rules}
use Rattle.geometry.specs.Placed.{Placed}
use Rattle.geometry.specs.declared.Geometry.{Geometry}
use Rattle.header.specs.Fields.{is_good}
use Rattle.header.specs.Ec.{judge_ec}
use Rattle.header.specs.Vid.{judge_vid}
use Rattle.mover_rules.specs.Write.{plan_geometry}
use Rattle.mover_rules.specs.declared.Plan.{Plan}

-- the geometry is the plan's, and within the rules
pub record Measured (g : Geometry) (p : Plan) : Type 0 where
  pub is : g ≡ plan_geometry p
  pub inside : all_of (geometry_rules p.peb_size p.unit p.sub_unit) ≡ true
  pub placed : Placed g
  pub same_unit : p.unit ≡ g.unit
  pub unit_most : g.unit < 8192

pub record Running (g : Geometry) (p : Plan) (image : List ℕ) : Type 0 where
  pub measured : Measured g p
  pub old_below : p.old < 4096
  pub target_below : p.target < 4096
  pub old_room : p.old * g.peb_size + g.peb_size ≤ length image
  pub target_room : p.target * g.peb_size + g.peb_size ≤ length image
  pub apart : p.old ≢ p.target
  pub vid_good_holds : is_good (judge_vid g.leb_size p.vid) ≡ true
  pub ec_good_holds : is_good (judge_ec p.ec) ≡ true
  pub size_fits : p.vid.data_size ≤ g.leb_size
