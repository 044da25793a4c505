-- What contracts of the builder's inner functions ask for and give; no public promise names it. Assumes nothing.
use Rattle.std.specs.Prelude.{ℕ, ◌+◌, ◌-◌, ◌*◌, ◌≤◌, ◌<◌, ◌^◌, ◌≡◌, ◌⊎◌, true, List, length, take}
use Rattle.base.specs.Answers.{all_of}
use Rattle.base.specs.Below.{concat_below}
use Rattle.base.specs.Lists.{Bytes}
use Rattle.geometry.specs.Placed.{Placed}
use Rattle.geometry.specs.declared.Geometry.{Geometry}
use Rattle.volume_record.specs.Record.{record_of}
use Rattle.volume_table.specs.Table.{record_count, record_at, table_good}
use Rattle.builder_rules.specs.Blocks.{BuildPlan, volume_of, block_bytes}
use Rattle.builder_rules.specs.Build.{content_rules}
use Rattle.builder_rules.specs.declared.VolumeShape.{VolumeShape}

-- a plan of its parts
abbrev pub plan_from : Geometry → ℕ → ℕ → List ℕ → List ℕ → List ℕ → BuildPlan
plan_from g seq count table lengths contents = record {
  geometry = g;
  image_seq = seq;
  volumes = count;
  table = table;
  lengths = lengths;
  contents = contents;
}

-- the pads of the first k records are no larger than a LEB
abbrev pub PadsWithin : ℕ → ℕ → List ℕ → Type 0
PadsWithin size k t = (v : ℕ) → v < k → (record_of (record_at t v)).data_pad ≤ size

-- a plan that nothing refuses, for n PEBs
pub record Accepted (b : BuildPlan) (n : ℕ) : Type 0 where
  pub placed : Placed b.geometry
  pub pebs_least : 2 ≤ n
  pub pebs_most : n ≤ 4096
  pub seq_fits : b.image_seq < 256 ^ 4
  pub content_bytes : Bytes b.contents
  pub volumes_most : b.volumes ≤ record_count b.geometry.leb_size
  pub table_good_holds : table_good b.geometry.leb_size b.geometry.unit n b.table ≡ true
  pub table_length : length b.table ≡ 172 * record_count b.geometry.leb_size
  pub reserved_above : (v : ℕ) → v < b.volumes → 0 < (volume_of b v).reserved
  pub unmarked : (v : ℕ) → v < b.volumes → (volume_of b v).update_marker ≡ 0
  pub none_else : (v : ℕ) → b.volumes ≤ v → (volume_of b v).reserved ≡ 0
  pub contents_fit : all_of (content_rules b) ≡ true

-- the volume, LEB l of it, and the LEB's bytes: those of the last may be fewer
pub record Shaped (size : ℕ) (s : VolumeShape) (l : ℕ) (bytes : List ℕ) : Type 0 where
  pub full : (l + 1 ≡ s.lebs) ⊎ (length bytes ≡ size - s.data_pad)
  pub user : s.volume < 128
  pub kind : (s.vol_type ≡ 1) ⊎ (s.vol_type ≡ 2)
  pub pad : 2 * s.data_pad < size
  pub few : s.lebs ≤ 4096
  pub within : l < s.lebs
  pub some : 0 < length bytes
  pub most : length bytes ≤ size - s.data_pad

-- the first p PEBs are filled
abbrev pub Filled : BuildPlan → ℕ → List ℕ → Type 0
Filled b p s = take (p * b.geometry.peb_size) s ≡ concat_below p (block_bytes b)
