-- What the reader sees of the PEBs of a filled image. Assumes nothing.
use mathlib.Core.Path.{◌≡◌, refl, sym, ap, ap₂, ◌∙◌}
use mathlib.Core.Bool.{true}
use mathlib.Core.Option.{Option, none, some}
use mathlib.Core.List.{List, ◌++◌}
use Prim.Native.Nat.{ℕ, zero, suc, ◌+◌, ◌-◌, ◌≤◌, ◌<◌}
use native.Mathlib.Omega.{arith}
use borrow.Author.Tests.{eq-eqb}
use lib.ListN.{length, take, drop, replicate}
use lib.Seq.{take_at}
use Rattle.base.specs.Answers.{map_o}
use Rattle.base.specs.Lists.{put}
use Rattle.base.proofs.Lists.{part_put}
use Rattle.base.proofs.Rows.{row_part}
use Rattle.base.proofs.Stores.{put_before}
use Rattle.crc32.specs.Crc.{crc_of}
use Rattle.geometry.specs.declared.Geometry.{Geometry}
use Rattle.geometry.specs.Placed.{Placed}
use Rattle.header.specs.Fields.{good}
use Rattle.header.specs.Ec.{ec_bytes}
use Rattle.header.specs.Vid.{judge_vid, vid_bytes, VidFits}
use Rattle.header.specs.declared.EcHeader.{EcHeader}
use Rattle.header.specs.declared.VidHeader.{VidHeader}
use Rattle.header.proofs.Writes.{vid_64}
use Rattle.report.specs.View.{Copy, ec_good, VidView, vid_good, vid_blank, Medium, medium_of, copy_of, vid_part, view_of}
use Rattle.report.specs.View.{peb_at}
use Rattle.job.proofs.Seen.{ec_written_lem, vid_written_lem, vid_erased, renewed_ec, renewed_vid}
use Rattle.builder_rules.specs.Blocks.{BuildPlan, free_peb, used_peb, layout_vid, key_below, block_no, lebs_of, leb_data}
use Rattle.builder_rules.specs.Blocks.{plan_ec, user_peb, block_bytes, built_image}
use Rattle.builder_rules.proofs.Keys.{key_here}
use Rattle.builder_rules.proofs.Headers.{ec_good_holds, ec_fits, layout_good, layout_fits}
use Rattle.builder_rules.specs.Filling.{Accepted}
use Rattle.builder_rules.proofs.Accepted.{leb_vid, table_fits, data_fits, leb_good, leb_fits}
use Rattle.builder_rules.proofs.Pebs.{vid_within, data_within, used_body, block_length}

-- ---- the bytes of one PEB

module _ (g : Geometry) (p : Placed g) (e : EcHeader) where
  free_ec : take 64 (free_peb g e) ≡ ec_bytes e
  unfolding free_peb
  free_ec = renewed_ec g p (free_peb g e) e refl

  free_vid : vid_part g (free_peb g e) ≡ replicate 64 0xFF
  unfolding free_peb
  free_vid = renewed_vid g p (free_peb g e) e refl

  module _ (h : VidHeader) (bytes : List ℕ) (fits : length bytes ≤ g.leb_size) where
    abbrev headed : List ℕ
    headed = put g.vid_start (vid_bytes h) (free_peb g e)

    used_ec : take 64 (used_peb g e h bytes) ≡ ec_bytes e
    unfolding used_peb
    used_ec =
        put_before g.data_start bytes headed (data_within g p e h bytes fits) 0 64
        (omega (arith, p.vid_after_ec, p.data_after_vid))
        ∙ put_before g.vid_start (vid_bytes h) (free_peb g e) (vid_within g p e h bytes fits) 0 64
        (omega (arith, p.vid_after_ec))
        ∙ free_ec

    used_vid : vid_part g (used_peb g e h bytes) ≡ vid_bytes h
    unfolding used_peb
    used_vid =
        put_before g.data_start bytes headed (data_within g p e h bytes fits) g.vid_start 64 p.data_after_vid
        ∙ ap (λ n. take n (drop g.vid_start headed)) (sym (vid_64 h))
        ∙ part_put g.vid_start (vid_bytes h) (free_peb g e) (vid_within g p e h bytes fits)

    -- ---- the copy in it

    abbrev stored : Copy
    stored = copy_of g (used_peb g e h bytes) h

    pub stored_body : stored.body ≡ bytes ++ replicate (g.leb_size - length bytes) 0xFF
    unfolding copy_of
    stored_body = used_body g p e h bytes fits

    -- a header with the size and CRC of the bytes matches
    pub stored_matches : h.data_size ≡ length bytes → h.data_crc ≡ crc_of bytes → stored.matches ≡ true
    unfolding copy_of
    stored_matches q r =
        eq-eqb _ _ (ap crc_of (ap₂ take q (used_body g p e h bytes fits) ∙ take_at bytes _ (length bytes) refl) ∙ sym r)

-- ---- what stands in each PEB

abbrev pub filled : BuildPlan → ℕ → Medium
filled b n = medium_of b.geometry n (built_image b n)

-- the view of a VID header: of a copy, or of none
abbrev pub shown : Option Copy → VidView
shown none = vid_blank
shown (some c) = vid_good c

module _ (b : BuildPlan) where
  abbrev pub copy_in : VidHeader → List ℕ → Copy
  copy_in h bytes = copy_of b.geometry (used_peb b.geometry (plan_ec b) h bytes) h

  -- the copies of layout LEB l, and of LEB l of volume v
  abbrev pub layout_copy : ℕ → Copy
  layout_copy l = copy_in (layout_vid (l + 1) l) b.table

  abbrev pub leb_header : ℕ → ℕ → VidHeader
  leb_header v l = leb_vid b v (block_no (lebs_of b) v l + 3) l

  abbrev pub leb_copy : ℕ × ℕ → Copy
  leb_copy x = copy_in (leb_header x.0 x.1) (leb_data b x.0 x.1)

  -- the copy in PEB p
  unfoldable pub standing : ℕ → Option Copy
  standing zero = some (layout_copy 0)
  standing (suc zero) = some (layout_copy 1)
  standing (suc (suc k)) = map_o leb_copy (key_below b.volumes (lebs_of b) k)

  -- the bytes of a PEB show a good EC header, and a copy or none
  pub record Shows (o : Option Copy) (peb : List ℕ) : Type 0 where
    pub ec : (view_of b.geometry peb).ec ≡ ec_good (plan_ec b)
    pub vid : (view_of b.geometry peb).vid ≡ shown o

module _ (b : BuildPlan) (n : ℕ) (a : Accepted b n) where
  ec_shows : (peb : List ℕ) → take 64 peb ≡ ec_bytes (plan_ec b) → (view_of b.geometry peb).ec ≡ ec_good (plan_ec b)
  ec_shows peb =
      ec_written_lem b.geometry peb (plan_ec b) (ec_fits b.geometry b.image_seq a.placed a.seq_fits)
      (ec_good_holds b.geometry b.image_seq)

  free_shows : Shows b none (free_peb b.geometry (plan_ec b))
  free_shows = record {
    ec = ec_shows (free_peb b.geometry (plan_ec b)) (free_ec b.geometry a.placed (plan_ec b));
    vid = vid_erased b.geometry (free_peb b.geometry (plan_ec b)) (free_vid b.geometry a.placed (plan_ec b));
  }

  used_shows : (h : VidHeader) (bytes : List ℕ) → length bytes ≤ b.geometry.leb_size → VidFits h
      → judge_vid b.geometry.leb_size h ≡ good h
      → Shows b (some (copy_in b h bytes)) (used_peb b.geometry (plan_ec b) h bytes)
  used_shows h bytes l f j =
      let peb : List ℕ = used_peb b.geometry (plan_ec b) h bytes in
      record {
        ec = ec_shows peb (used_ec b.geometry a.placed (plan_ec b) h bytes l);
        vid = vid_written_lem b.geometry peb h f j (used_vid b.geometry a.placed (plan_ec b) h bytes l);
      }

  layout_shows : (l : ℕ) → l < 2
      → Shows b (some (layout_copy b l)) (used_peb b.geometry (plan_ec b) (layout_vid (l + 1) l) b.table)
  layout_shows l h =
      used_shows (layout_vid (l + 1) l) b.table (table_fits b n a) (layout_fits (l + 1) l (omega arith) h)
      (layout_good b.geometry.leb_size (l + 1) l (omega (arith, a.placed.leb_least)) h)

  user_shows : (k : ℕ) (x : Option (ℕ × ℕ)) → suc (suc k) < n → key_below b.volumes (lebs_of b) k ≡ x
      → Shows b (map_o (leb_copy b) x) (user_peb b (k + 3) x)
  user_shows k none h e = free_shows
  user_shows k (some x) h e =
      let r = key_here (lebs_of b) b.volumes k x e in
      rw r.block
      (used_shows (leb_header b x.0 x.1) (leb_data b x.0 x.1) (data_fits b n a x.0 r.volume x.1)
      (leb_fits b n a x.0 r.volume (block_no (lebs_of b) x.0 x.1 + 3) x.1 r.lnum (omega (arith, r.block, a.pebs_most)))
      (leb_good b n a x.0 r.volume (block_no (lebs_of b) x.0 x.1 + 3) x.1 r.lnum))

  block_shows : (p : ℕ) → p < n → Shows b (standing b p) (block_bytes b p)
  unfolding standing block_bytes
  block_shows zero h = layout_shows 0 (omega arith)
  block_shows (suc zero) h = layout_shows 1 (omega arith)
  block_shows (suc (suc k)) h = user_shows k (key_below b.volumes (lebs_of b) k) h refl

  pub peb_shows : (p : ℕ) → p < n → Shows b (standing b p) (peb_at b.geometry (built_image b n) p)
  unfolding built_image
  peb_shows p h = rw (row_part n b.geometry.peb_size (block_bytes b) (block_length b n a) p h) (block_shows p h)
