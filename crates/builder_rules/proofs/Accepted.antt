-- What a plan that no refusal meets has. Assumes nothing.
use mathlib.Core.Path.{◌≡◌}
use mathlib.Core.Logic.{◌⊎◌, inl, inr, ⊎_elim}
use mathlib.Core.Bool.{true}
use mathlib.Core.List.{List, [], ◌++◌, append-nil}
use Prim.Native.Nat.{ℕ, suc, ◌+◌, ◌-◌, ◌*◌, ◌/◌, ◌≤◌, ◌<◌, ◌^◌, min}
use native.Mathlib.Nat.{add-mul, min-le_right, div-add-mod'}
use native.Mathlib.Omega.{arith}
use borrow.Author.Tests.{eqb-true, leb-true}
use lib.ListN.{length, get_or, length-take, length-drop}
use lib.Seq.{take_at}
use Rattle.base.specs.Below.{sum_below}
use Rattle.base.specs.Lists.{Bytes}
use Rattle.base.proofs.Answers.{each_holds}
use Rattle.base.proofs.Below.{lt_or_le, all_at, sum_grows, sum_le}
use Rattle.base.proofs.Lists.{length_part, bytes_part}
use Rattle.header.specs.Fields.{good}
use Rattle.header.specs.Vid.{judge_vid, VidFits}
use Rattle.header.specs.declared.VidHeader.{VidHeader}
use Rattle.volume_record.specs.Record.{record_of, record_good}
use Rattle.volume_table.specs.Table.{record_count, records_part, record_at}
use Rattle.volume_table.proofs.Good.{good_alignment, good_pad, good_type, empty_reserves_none, empty_or_good_lem}
use Rattle.volume_table.proofs.Good.{records_fine, reserved_within}
use Rattle.volume_table.proofs.Tables.{count_small}
use Rattle.builder_rules.specs.Blocks.{BuildPlan, volume_of, length_of, volume_content, room, lebs_of, leb_data}
use Rattle.builder_rules.specs.Blocks.{shape_of, user_vid}
use Rattle.builder_rules.specs.Build.{content_rules}
use Rattle.builder_rules.proofs.Numbers.{pad_half, ceiling_below, ceiling_within}
use Rattle.builder_rules.specs.Filling.{Accepted, Shaped}
use Rattle.builder_rules.proofs.Headers.{user_good, user_fits}

-- a table with nothing, or something, behind its records
pub records_front : (size : ℕ) (t r : List ℕ) → length t ≡ 172 * record_count size → records_part size (t ++ r) ≡ t
unfolding records_part
records_front size t r e = take_at t r (172 * record_count size) e

pub records_whole : (size : ℕ) (t : List ℕ) → length t ≡ 172 * record_count size → records_part size t ≡ t
records_whole size t e = rw append-nil at (records_front size t [] e)

-- the VID header of LEB l of volume v
abbrev pub leb_vid : BuildPlan → ℕ → ℕ → ℕ → VidHeader
leb_vid b v seq l = user_vid (shape_of b v) seq l (leb_data b v l)

module _ (b : BuildPlan) (n : ℕ) (a : Accepted b n) where
  abbrev size : ℕ
  size = b.geometry.leb_size

  pub volumes_few : b.volumes ≤ 128
  volumes_few = omega (arith, a.volumes_most, count_small size)

  -- a LEB has room for the table
  pub table_fits : length b.table ≤ size
  unfolding record_count
  table_fits = omega (arith, a.table_length, min-le_right 128 (size / 172), div-add-mod' size 172)

  table_self : records_part size b.table ≡ b.table
  table_self = records_whole size b.table a.table_length

  -- ---- a volume

  content_rule : (i : ℕ) → get_or (content_rules b) i true ≡ true
  content_rule = each_holds (content_rules b) a.contents_fit

  pub lengths_many : length b.lengths ≡ b.volumes
  unfolding content_rules
  lengths_many = eqb-true (length b.lengths) b.volumes (content_rule 0)

  module _ (v : ℕ) (h : v < b.volumes) where
    -- its record is not empty: it reserves something
    record_good_lem : record_good size b.geometry.unit (record_at b.table v) ≡ true
    unfolding volume_of
    record_good_lem =
        ⊎_elim (λ e. absurd (omega (arith, empty_reserves_none (record_at b.table v) e, a.reserved_above v h))) (λ g. g)
        (empty_or_good_lem size b.geometry.unit (record_at b.table v)
        (rw table_self at
        (records_fine size b.geometry.unit n b.table a.table_good_holds v (omega (arith, a.volumes_most)))))

    pub volume_type : ((volume_of b v).vol_type ≡ 1) ⊎ ((volume_of b v).vol_type ≡ 2)
    unfolding volume_of
    volume_type = good_type size b.geometry.unit _ record_good_lem

    pub pad_small : 2 * (volume_of b v).data_pad < size
    unfolding volume_of
    pad_small =
        let q = good_alignment size b.geometry.unit _ record_good_lem in
        rw (good_pad size b.geometry.unit _ record_good_lem)
        (pad_half size (record_of (record_at b.table v)).alignment q.0 q.1)

    pub room_above : 0 < room b v
    room_above = omega (arith, pad_small)

    pub length_within : length_of b v ≤ (volume_of b v).reserved * room b v
    unfolding content_rules
    length_within = leb-true _ _ (all_at b.volumes _ (content_rule 2) v h)

    pub lebs_within : lebs_of b v ≤ (volume_of b v).reserved
    unfolding lebs_of
    lebs_within = ceiling_within (room b v) (length_of b v) room_above (volume_of b v).reserved length_within

    -- ---- its content

    pub content_within : sum_below v (length_of b) + length_of b v ≤ length b.contents
    unfolding content_rules
    content_within =
        omega (
          arith,
          sum_grows (length_of b) (suc v) b.volumes h,
          eqb-true (sum_below b.volumes (length_of b)) (length b.contents) (content_rule 1),
        )

    pub content_length : length (volume_content b v) ≡ length_of b v
    unfolding volume_content
    content_length = length_part (sum_below v (length_of b)) (length_of b v) b.contents content_within

  -- ---- the LEBs

  pub pebs_suffice : 2 + sum_below b.volumes (lebs_of b) ≤ n
  unfolding volume_of
  pebs_suffice =
      let f : ℕ → ℕ = λ i. (record_of (record_at b.table i)).reserved in
      omega (
        arith,
        sum_le b.volumes (lebs_of b) f lebs_within,
        sum_grows f b.volumes (record_count size) a.volumes_most,
        rw table_self at (reserved_within size b.geometry.unit n b.table a.table_good_holds),
        a.pebs_least,
      )

  module _ (v : ℕ) (h : v < b.volumes) where
    pub lebs_few : lebs_of b v ≤ 4096
    lebs_few = omega (arith, sum_grows (lebs_of b) (suc v) b.volumes h, pebs_suffice, a.pebs_most)

    -- ---- the bytes of a LEB

    pub data_length : (l : ℕ) → length (leb_data b v l) ≡ min (room b v) (length_of b v - l * room b v)
    unfolding leb_data
    data_length l = rw (length-take, length-drop, content_length v h)

    pub data_small : (l : ℕ) → length (leb_data b v l) ≤ room b v
    data_small l = omega (arith, data_length l)

    pub data_fits : (l : ℕ) → length (leb_data b v l) ≤ size
    data_fits l = omega (arith, data_small l)

    pub starts_within : (l : ℕ) → l < lebs_of b v → l * room b v < length_of b v
    unfolding lebs_of
    starts_within = ceiling_below (room b v) (length_of b v) (room_above v h)

    pub data_above : (l : ℕ) → l < lebs_of b v → 0 < length (leb_data b v l)
    data_above l k = omega (arith, data_length l, starts_within l k, room_above v h)

    -- all but the last are full
    pub data_full : (l : ℕ) → l + 1 < lebs_of b v → length (leb_data b v l) ≡ room b v
    data_full l k = omega (arith, data_length l, starts_within (l + 1) k, add-mul l 1 (room b v))

    pub data_bytes : (l : ℕ) → Bytes (leb_data b v l)
    unfolding leb_data volume_content
    data_bytes l =
        bytes_part (l * room b v) (room b v) (volume_content b v)
        (bytes_part (sum_below v (length_of b)) (length_of b v) b.contents a.content_bytes)

    pub shaped : (l : ℕ) → l < lebs_of b v → Shaped size (shape_of b v) l (leb_data b v l)
    shaped l k = record {
      full = ⊎_elim (λ q. inr (data_full l q)) (λ q. inl (omega (arith, q))) (lt_or_le (l + 1) (lebs_of b v));
      user = omega (arith, volumes_few);
      kind = volume_type v h;
      pad = pad_small v h;
      few = lebs_few;
      within = k;
      some = data_above l k;
      most = data_small l;
    }

    -- its header
    pub leb_good : (seq l : ℕ) → l < lebs_of b v → judge_vid size (leb_vid b v seq l) ≡ good (leb_vid b v seq l)
    leb_good seq l k = user_good size (shape_of b v) l (leb_data b v l) (shaped l k) seq

    pub leb_fits : (seq l : ℕ) → l < lebs_of b v → seq < 256 ^ 8 → VidFits (leb_vid b v seq l)
    leb_fits seq l k q =
        user_fits size (shape_of b v) l (leb_data b v l) (shaped l k) seq
        (omega (arith, a.placed.leb_fills, a.placed.peb_most)) (data_bytes l) q
