-- What a geometry within the rules has: contracts of inner functions ask for it, no public one does. Assumes nothing.
use Rattle.std.specs.Prelude.{◌≡◌, ◌+◌, ◌%◌, ◌≤◌, ◌<◌}
use Rattle.geometry.specs.declared.Geometry.{Geometry}

pub record Placed (g : Geometry) : Type 0 where
  pub vid_after_ec : 64 ≤ g.vid_start
  pub data_after_vid : g.vid_start + 64 ≤ g.data_start
  pub leb_fills : g.data_start + g.leb_size ≡ g.peb_size
  pub leb_least : 172 ≤ g.leb_size
  pub peb_most : g.peb_size ≤ 262144
  pub unit_above : 0 < g.unit
  pub unit_divides : g.leb_size % g.unit ≡ 0
