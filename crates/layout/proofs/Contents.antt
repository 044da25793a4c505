-- The contents of the layout LEBs. Assumes nothing.
use mathlib.Core.Path.{◌≡◌, refl, sym, ap, ◌∙◌}
use mathlib.Core.Bool.{true, false, ◌&&◌}
use mathlib.Core.Option.{some}
use mathlib.Core.List.{List, []}
use Prim.Native.Nat.{ℕ, ◌+◌, ◌*◌, ◌-◌, ◌<◌}
use native.Mathlib.Omega.{arith}
use borrow.Author.Tests.{eq-eqb, eqb-true, leb-true}
use lib.Dec.{eqb, leb}
use lib.ListN.{take, drop}
use Rattle.base.specs.Lists.{part}
use Rattle.base.proofs.Answers.{and_left, and_right, each_holds}
use Rattle.base.proofs.Lists.{part_part}
use Rattle.geometry.specs.declared.Geometry.{Geometry}
use Rattle.geometry.specs.Placed.{Placed}
use Rattle.header.specs.declared.VidHeader.{VidHeader}
use Rattle.header.specs.Vid.{layout_volume, layout_rule, vid_rules, vid_fields}
use Rattle.report.specs.View.{Copy, medium_of, views_of, vid_part, peb_at, copy_of, copies}
use Rattle.report.specs.Volumes.{face_of, layout_content}
use Rattle.report.specs.Report.{faces}
use Rattle.copies.specs.InPlace.{copy_at, face_at}
use Rattle.copies.proofs.Copies.{view_good, copy_at_lem, face_is}
use Rattle.layout.specs.Layout.{is_chosen, FoundAt, Chosen}
use Rattle.layout.proofs.Places.{found_some, found_none}

-- "volume 0x7FFFEFFF (layout): type 1, compatibility 5, pad 0, LEB 0 or 1"
rule_is : (h : VidHeader) → layout_rule h ≡ true → h.volume ≡ layout_volume
    → (h.vol_type ≡ 1) × (h.data_pad ≡ 0) × (h.lnum < 2)
unfolding layout_rule
rule_is h r e =
    let a : (eqb h.vol_type 1 && (eqb h.compat 5 && (eqb h.data_pad 0 && leb h.lnum 1))) ≡ true =
    rw (eq-eqb _ _ e) at r in
    let b = and_right (eqb h.compat 5) _ (and_right (eqb h.vol_type 1) _ a) in
    let l = leb-true h.lnum 1 (and_right (eqb h.data_pad 0) _ b) in
    let p = eqb-true _ _ (and_left (eqb h.data_pad 0) _ b) in
    (eqb-true _ _ (and_left (eqb h.vol_type 1) _ a), p, omega arith)

module _ (g : Geometry) (image : List ℕ) where
  layout_copy_lem : (i : ℕ) (c : Copy) → copies (views_of g image) i ≡ some c → c.header.volume ≡ layout_volume
      → (c.header.vol_type ≡ 1) × (c.header.data_pad ≡ 0) × (c.header.lnum < 2)
  unfolding vid_rules copy_of
  layout_copy_lem i c e v =
      let k = view_good g (peb_at g image i) c e in
      let h = vid_fields (vid_part g (peb_at g image i)) in
      let q : c.header ≡ h = ap (λ (x : Copy). x.header) k.0 in
      rule_is c.header (rw q (each_holds (vid_rules g.leb_size h) k.1 9)) v

  -- "LEB 0 or 1"
  pub layout_small : (i : ℕ) (c : Copy) → copies (views_of g image) i ≡ some c → c.header.volume ≡ layout_volume
      → c.header.lnum < 2
  layout_small i c e v = (layout_copy_lem i c e v).2

  -- the content of a layout LEB's copy is its PEB's data
  content_is : Placed g → (i : ℕ) → copies (views_of g image) i ≡ some (copy_at g image i)
      → (copy_at g image i).header.volume ≡ layout_volume
      → part (i * g.peb_size + g.data_start) g.leb_size image ≡ (face_at g image i).content
  unfolding face_of copy_of
  content_is p i e v =
      let k = layout_copy_lem i (copy_at g image i) e v in
      let s : g.leb_size - 0 ≡ g.leb_size = omega arith in
      sym (part_part g.data_start g.leb_size (i * g.peb_size) g.peb_size image
      (omega (arith, p.leb_fills)))
      ∙ rw (k.0, k.1, s)

-- ---- the content of a layout LEB, from where its PEB is found

module _ {g : Geometry} {image : List ℕ} {n : ℕ} {map pebs : List ℕ} (o : Chosen g image n map pebs) where
  pub no_content : (l : ℕ) → ((j : ℕ) → j < n → is_chosen pebs map layout_volume l j ≡ false)
      → [] ≡ layout_content (faces (medium_of g n image) layout_volume l)
  no_content l f = rw (face_is g n image layout_volume l, found_none o layout_volume l refl f)

  module _ {l i : ℕ} (f : FoundAt pebs map n layout_volume l i) where
    pub content_slice :
        take (i * g.peb_size + g.peb_size - (i * g.peb_size + g.data_start))
        (drop (i * g.peb_size + g.data_start) image)
        ≡ layout_content (faces (medium_of g n image) layout_volume l)
    content_slice =
        let p = o.keyed.placed in
        let q = found_some o f in
        let a = copy_at_lem g n image layout_volume l i q in
        let e : i * g.peb_size + g.peb_size - (i * g.peb_size + g.data_start) ≡ g.leb_size =
        omega (arith, p.leb_fills) in
        rw (e, face_is g n image layout_volume l, q) (content_is g image p i a.is a.volume)
