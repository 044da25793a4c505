-- A PEB's copy, where it stands in the image. Assumes nothing.
use mathlib.Core.Path.{◌≡◌, refl, sym, ap, ap₂, ◌∙◌}
use mathlib.Core.Bool.{Bool, true, false, cond}
use mathlib.Core.Option.{Option, some}
use mathlib.Core.List.{List}
use Prim.Native.Nat.{ℕ, ◌+◌, ◌-◌, ◌*◌, ◌≤◌, ◌<◌, ◌^◌}
use native.Mathlib.Omega.{arith}
use native.Mathlib.Nat.{add-sub_cancel_left}
use borrow.Author.Tests.{leb-true, ltb-true, eq-eqb}
use lib.Dec.{eqb, ltb}
use lib.ListN.{length, take, drop}
use Rattle.base.specs.Answers.{map_o, all_of}
use Rattle.base.specs.Lists.{part, Bytes}
use Rattle.base.proofs.Answers.{each_holds, and_left, by_option, none_some, map_o_some}
use Rattle.base.proofs.Lists.{length_part, bytes_part, part_part}
use Rattle.crc32.specs.Crc.{crc_of}
use Rattle.geometry.specs.declared.Geometry.{Geometry}
use Rattle.geometry.specs.Placed.{Placed}
use Rattle.header.specs.declared.VidHeader.{VidHeader}
use Rattle.header.specs.Fields.{Verdict, good, bad, newer}
use Rattle.header.specs.Vid.{vid_fields, vid_rules, static_rule, read_vid}
use Rattle.header.proofs.Laws.{vid_good_holds}
use Rattle.header.proofs.RoundTrip.{vid_read_fits}
use Rattle.report.specs.View.{all_ff, Copy, vid_blank, copy_of, vid_of, vid_part, view_of, peb_at, views_of, Medium, medium_of, good_vid, copies}
use Rattle.report.specs.Choice.{chosen}
use Rattle.report.specs.Volumes.{face_of, faces_of, places_of}
use Rattle.report.specs.Report.{faces, places}
use Rattle.report.proofs.Choice.{chosen_at}
use Rattle.copies.specs.InPlace.{header_at, copy_at, face_at, HasCopy}

-- ---- a good copy is the one of the fields in its place

-- a good VID view comes of a header that was read
module _ (g : Geometry) (p : List ℕ) (c : Copy) where
  abbrev fields : VidHeader
  fields = vid_fields (vid_part g p)

  of_verdict : (blank : Bool) (v : Verdict VidHeader) → read_vid g.leb_size (vid_part g p) ≡ v
      → good_vid (cond blank vid_blank (vid_of g p v)) ≡ some c
      → (c ≡ copy_of g p fields) × (all_of (vid_rules g.leb_size fields) ≡ true)
  of_verdict true v q e = none_some e
  of_verdict false bad q e = none_some e
  of_verdict false newer q e = none_some e
  of_verdict false (good h) q e =
      let r = vid_good_holds g.leb_size (vid_part g p) q in
      let z : copy_of g p h ≡ c = cc in
      (rw r.0 (sym z), rw r.0 r.1)

  pub view_good : good_vid (view_of g p).vid ≡ some c
      → (c ≡ copy_of g p fields) × (all_of (vid_rules g.leb_size fields) ≡ true)
  unfolding view_of
  view_good e = of_verdict (all_ff (vid_part g p)) (read_vid g.leb_size (vid_part g p)) refl e

module _ (g : Geometry) (image : List ℕ) (i : ℕ) (c : Copy) (e : copies (views_of g image) i ≡ some c) where
  pub copy_is : c ≡ copy_at g image i
  unfolding header_at
  copy_is = (view_good g (peb_at g image i) c e).0

  rules_hold : all_of (vid_rules g.leb_size (header_at g image i)) ≡ true
  unfolding header_at
  rules_hold = (view_good g (peb_at g image i) c e).1

  -- "data size at most LEB size less pad"
  pub data_within : (header_at g image i).data_size ≤ g.leb_size
  unfolding vid_rules
  data_within =
      let h = header_at g image i in
      let t = each_holds (vid_rules g.leb_size h) rules_hold 6 in
      omega (arith, leb-true h.data_size (g.leb_size - h.data_pad) t)

  -- "static: LEB below used LEBs"
  pub static_below : (header_at g image i).vol_type ≡ 2 → (header_at g image i).lnum < (header_at g image i).used_lebs
  unfolding vid_rules static_rule
  static_below k =
      let h = header_at g image i in
      let t = rw (eq-eqb h.vol_type 2 k) at (each_holds (vid_rules g.leb_size h) rules_hold 7) in
      ltb-true h.lnum h.used_lebs (and_left (ltb h.lnum h.used_lebs) _ t)

-- ---- where it stands in the image

-- the bytes that are lent from a place in PEB i on
module _ (g : Geometry) (image : List ℕ) (i at n : ℕ) where
  abbrev from : ℕ
  from = i * g.peb_size + at

  pub lent_peb_lem : at + n ≤ g.peb_size → take (from + n - from) (drop from image) ≡ part at n (peb_at g image i)
  lent_peb_lem h = rw add-sub_cancel_left (sym (part_part at n (i * g.peb_size) g.peb_size image h))

module _ {g : Geometry} {image : List ℕ} {i : ℕ} (m : HasCopy g image i) where
  -- a data size that was read
  pub size_within : {size : ℕ} → size ≡ (header_at g image i).data_size → g.data_start + size ≤ g.peb_size
  size_within s = omega (arith, data_within g image i (copy_at g image i) m.is, m.placed.leb_fills)

  -- a data CRC that was compared; `at` is where the data start
  pub matches_run : {size sum crc : ℕ} (at : ℕ) → at ≡ i * g.peb_size + g.data_start
      → size ≡ (header_at g image i).data_size → sum ≡ crc_of (take (at + size - at) (drop at image))
      → crc ≡ (header_at g image i).data_crc → eqb sum crc ≡ (copy_at g image i).matches
  unfolding copy_of
  matches_run {size} at a s k r =
      let t = rw a at k in
      rw s at (ap₂ eqb (t ∙ ap crc_of (lent_peb_lem g image i g.data_start size (size_within s))) r)

-- a sequence fits its 8 bytes
module _ (g : Geometry) (image : List ℕ) (i : ℕ) (p : Placed g) where
  abbrev peb : List ℕ
  peb = peb_at g image i

  pub sequence_fits : (i + 1) * g.peb_size ≤ length image → Bytes image → (header_at g image i).sequence < 256 ^ 8
  unfolding header_at
  sequence_fits h b =
      let l : length peb ≡ g.peb_size = length_part (i * g.peb_size) g.peb_size image (omega arith) in
      let k = length_part g.vid_start 64 peb (omega (arith, p.data_after_vid, p.leb_fills)) in
      let c = bytes_part g.vid_start 64 peb (bytes_part (i * g.peb_size) g.peb_size image b) in
      (vid_read_fits (vid_part g peb) c (rw k (omega arith))).sequence

-- ---- the copy in the place of a LEB, and its face

-- the good VID header in PEB p, of this volume and LEB
pub record CopyOf (g : Geometry) (n : ℕ) (image : List ℕ) (v l p : ℕ) : Type 0 where
  pub below : p < n
  pub is : copies (views_of g image) p ≡ some (copy_at g image p)
  pub volume : (copy_at g image p).header.volume ≡ v
  pub lnum : (copy_at g image p).header.lnum ≡ l

module _ (g : Geometry) (n : ℕ) (image : List ℕ) (v l : ℕ) where
  abbrev m : Medium
  m = medium_of g n image

  abbrev choice : Option (ℕ × Copy)
  choice = chosen n (copies m.views) v l

  chosen_copy : (x : ℕ × Copy) → choice ≡ some x → (x.1 ≡ copy_at g image x.0) × CopyOf g n image v l x.0
  chosen_copy x q =
      let a = chosen_at n (copies m.views) v l x.0 x.1 q in
      let e = copy_is g image x.0 x.1 a.1 in
      (e, record { below = a.0; is = a.1 ∙ ap some e; volume = rw e at a.2; lnum = rw e at a.3 })

  pub copy_at_lem : (p : ℕ) → places m v l ≡ some p → CopyOf g n image v l p
  unfolding places_of
  copy_at_lem p e = let x = map_o_some _ choice p e in rw x.2 at (chosen_copy x.0 x.1).1

  pub face_is : faces m v l ≡ map_o (face_at g image) (places m v l)
  unfolding faces_of places_of
  face_is =
      by_option choice (λ q. rw q) (λ x q. rw q (ap (λ (c : Copy). some (face_of g c)) (chosen_copy x q).0))
