-- 02 2026-01: "The filled image attaches with grade 0, and each volume's content, padded with 0xFF where dynamic, is
-- what was given." Assumes nothing.
use Rattle.std.specs.Prelude.{ℕ, ◌+◌, ◌-◌, ◌*◌, ◌<◌, ◌^◌, ◌≡◌, true, cond, List, [], ◌∷◌, ◌++◌, eqb, length, take, replicate}
use Rattle.std.proofs.Math.Option.{Option, none, some}
use Rattle.base.specs.Answers.{given, map_o}
use Rattle.base.specs.Below.{sum_below, concat_below}
use Rattle.base.specs.Lists.{Bytes}
use Rattle.field.specs.Be.{to_be}
use Rattle.geometry.specs.Image.{peb_count_of}
use Rattle.geometry.specs.declared.Geometry.{Geometry}
use Rattle.header.specs.Vid.{layout_volume}
use Rattle.header.specs.declared.EcHeader.{EcHeader}
use Rattle.volume_record.specs.Record.{record_of}
use Rattle.volume_record.specs.declared.VolumeRecord.{VolumeRecord}
use Rattle.volume_table.specs.Table.{record_at}
use Rattle.report.specs.View.{Medium, medium_of, ecs, copies}
use Rattle.report.specs.Scan.{image_seq_of}
use Rattle.report.specs.Volumes.{Face, Entry}
use Rattle.report.specs.Report.{faces, records, entries, mark, state_at, counter_at, mean_of, highest_of, grade_of}
use Rattle.report.specs.Attach.{Tables, request, long_enough, attaching_into, whole}
use Rattle.builder_rules.specs.Slip.{volume_field}
use Rattle.builder_rules.specs.Table.{record_of_field}
use Rattle.builder_rules.specs.Blocks.{BuildPlan, volume_of, is_static, volume_content, room, lebs_of, block_no}
use Rattle.builder_rules.specs.Build.{building, image_after}

-- 01's slip of the same geometry: the volume fields are left out
abbrev pub plain_slip : List ℕ → List ℕ
plain_slip s = take 17 s ++ (0 ∷ to_be 2 0)

-- ---- what attaching found

-- record v of the table taken
abbrev pub record_in : Medium → ℕ → VolumeRecord
record_in m v = record_of (record_at (records m) v)

-- what a LEB adds to its volume's content: 01's content of its copy; one that is not mapped reads as 0xFF in a dynamic
-- volume and adds nothing to a static one
abbrev pub leb_read : Geometry → VolumeRecord → Option Face → List ℕ
leb_read g r (some f) = f.content
leb_read g r none = cond (eqb r.vol_type 2) [] (replicate (g.leb_size - r.data_pad) 0xFF)

-- the content of volume v: those of its LEBs, all that are reserved, one after another
abbrev pub volume_read : Medium → ℕ → List ℕ
volume_read m v = concat_below (record_in m v).reserved (λ l. leb_read m.geometry (record_in m v) (faces m v l))

-- ---- what was given

module _ (b : BuildPlan) where
  -- LEB l of volume v, with its PEB
  abbrev pub leb_entry : ℕ → ℕ → Entry
  leb_entry v l = record { volume = v; lnum = l; peb = 2 + block_no (lebs_of b) v l }

  -- the LEBs built; 01: "by volume then LEB"
  abbrev pub built_entries : List Entry
  built_entries =
      concat_below b.volumes (λ v. concat_below (lebs_of b v) (λ l. leb_entry v l ∷ []))
      ++ (record { volume = layout_volume; lnum = 0; peb = 0 }
      ∷ record { volume = layout_volume; lnum = 1; peb = 1 } ∷ [])

  -- the content of volume v, "padded with 0xFF where dynamic"
  unfoldable pub padded : ℕ → List ℕ
  padded v =
      cond (is_static b v) (volume_content b v)
      (volume_content b v ++ replicate ((volume_of b v).reserved * room b v - length (volume_content b v)) 0xFF)

-- ---- that they are the same

-- what attaching finds on an image filled from this slip by this plan
pub record Holds (slip : List ℕ) (b : BuildPlan) (m : Medium) : Type 0 where
  pub grade_zero : grade_of m ≡ 0
  pub copies_zero : mark m ≡ 0
  pub states_good : (v : ℕ) → v < b.volumes → state_at m v ≡ 1
  -- the image sequence, as the report has it and in every EC header
  pub sequence_given : image_seq_of m.count m.views ≡ b.image_seq
  pub sequences_given : (i : ℕ) → i < m.count
      → map_o (λ (h : EcHeader). h.image_seq) (ecs m.views i) ≡ some b.image_seq
  -- "counter 0 everywhere"
  pub counters_zero : (i : ℕ) → i < m.count → counter_at m i ≡ 0
  pub mean_zero : mean_of m ≡ 0
  -- "sequences from 1 in that order": the highest is the number of LEBs, with the two of the layout
  pub highest_is : highest_of m.count (copies m.views) ≡ 2 + sum_below b.volumes (lebs_of b)
  pub table_given : records m ≡ b.table
  pub records_given : (v : ℕ) → v < b.volumes → record_in m v ≡ record_of_field b.geometry.leb_size (volume_field slip v)
  pub map_built : entries m ≡ built_entries b
  pub contents_given : (v : ℕ) → v < b.volumes → volume_read m v ≡ padded b v

-- the image that building leaves, as a medium of as many PEBs
abbrev pub built_medium : BuildPlan → List ℕ → Medium
built_medium b image = medium_of b.geometry (peb_count_of b.geometry image) (image_after (given b) image)

-- For every call that building accepts. That slip and contents are bytes and that the image sequence has 32 bits is so
-- by their types. The lent tables are any that are long enough.
abbrev pub Claim : Type 0
Claim =
    (slip : List ℕ) (seq : ℕ) (lengths contents image : List ℕ) (b : BuildPlan)
    → Bytes slip → seq < 2 ^ 32 → Bytes contents → building slip seq lengths contents image ≡ given b
    → (t : Tables) → long_enough t (peb_count_of b.geometry image) ≡ true
    → (attaching_into (request (plain_slip slip)) (image_after (building slip seq lengths contents image) image) t
    ≡ whole (built_medium b image))
    × Holds slip b (built_medium b image)
