-- An image that is filled run by run of PEBs is the plan's. Assumes nothing.
use mathlib.Core.Path.{◌≡◌, sym, ap, ◌∙◌}
use mathlib.Core.List.{List, ◌++◌}
use Prim.Native.Nat.{ℕ, suc, ◌+◌, ◌-◌, ◌*◌, ◌≤◌, ◌<◌}
use native.Mathlib.Nat.{add-mul, add-sub_cancel_left, mul-le-mul_right}
use native.Mathlib.Omega.{arith}
use lib.ListN.{length, take, drop, length-append}
use lib.Seq.{take_all}
use Rattle.base.specs.Below.{sum_below, concat_below}
use Rattle.base.specs.Lists.{put}
use Rattle.base.proofs.Below.{sum_grows}
use Rattle.base.proofs.Rows.{rows_length, concat_add, concat_cong}
use Rattle.base.proofs.Stores.{take_put, length_put}
use Rattle.builder_rules.specs.Blocks.{BuildPlan, free_peb, used_peb, layout_vid, block_no, length_of}
use Rattle.builder_rules.specs.Blocks.{volume_content}
use Rattle.builder_rules.specs.Blocks.{lebs_of, leb_data, shape_of, plan_ec, block_bytes, built_image}
use Rattle.builder_rules.specs.declared.VolumeShape.{VolumeShape}
use Rattle.builder_rules.specs.Filling.{Accepted, Filled}
use Rattle.builder_rules.proofs.Accepted.{pebs_suffice, pad_small, content_length, starts_within, shaped}
use Rattle.builder_rules.proofs.Keys.{key_at, key_past}
use Rattle.builder_rules.proofs.Pebs.{free_length, block_user, block_length}
use Rattle.builder_fill.specs.Pebs.{leb_peb, VolumeReady}

module _ (b : BuildPlan) (n : ℕ) (a : Accepted b n) where
  abbrev size : ℕ
  size = b.geometry.peb_size

  -- the first PEB of volume v
  abbrev pub first_of : ℕ → ℕ
  first_of v = 2 + sum_below v (lebs_of b)

  -- ---- runs of PEBs

  -- m PEBs more
  pub filled_more : (p m : ℕ) (f : ℕ → List ℕ) (s : List ℕ) {y : List ℕ} → p * size ≤ length s → Filled b p s
      → ((l : ℕ) → l < m → f l ≡ block_bytes b (p + l)) → y ≡ put (p * size) (concat_below m f) s → Filled b (p + m) y
  filled_more p m f s h q e t =
      let x : List ℕ = concat_below m (λ (l : ℕ). block_bytes b (p + l)) in
      let same : concat_below m f ≡ x = concat_cong m f (λ (l : ℕ). block_bytes b (p + l)) e in
      let long : length x ≡ m * size = rows_length m size (λ (l : ℕ). block_bytes b (p + l)) (λ l. block_length b n a
      (p + l)) in
      let k : (p + m) * size ≡ p * size + length x = add-mul p m size ∙ rw long in
      rw (k, t, same, take_put (p * size) x s h, q) (sym (concat_add p m (block_bytes b)))

  -- ---- a volume

  module _ (v : ℕ) (h : v < b.volumes) where
    -- the PEBs of its LEBs
    pub leb_block : (l : ℕ) → l < lebs_of b v
        → leb_peb b.geometry (plan_ec b) (shape_of b v) (volume_content b v) (first_of v) l
        ≡ block_bytes b (first_of v + l)
    unfolding leb_peb leb_data
    leb_block l k =
        let e : first_of v + l ≡ 2 + block_no (lebs_of b) v l = omega arith in
        let q : first_of v + l + 1 ≡ block_no (lebs_of b) v l + 3 = omega arith in
        rw (q, e, block_user b (block_no (lebs_of b) v l), key_at (lebs_of b) b.volumes v l h k)

    pub lent_content : (from end : ℕ) → from ≡ sum_below v (length_of b) → end ≡ from + length_of b v
        → take (end - from) (drop from b.contents) ≡ volume_content b v
    unfolding volume_content
    lent_content from end p q = rw (q, add-sub_cancel_left, p)

    pub last_within : first_of v + lebs_of b v ≤ n
    last_within = omega (arith, sum_grows (lebs_of b) (suc v) b.volumes h, pebs_suffice b n a)

    pub volume_ready : (s : List ℕ) → n * size ≤ length s
        → VolumeReady b.geometry (shape_of b v) (volume_content b v) (first_of v) s
    unfolding leb_data
    volume_ready s k = record {
      pad = omega (arith, pad_small b n a v h);
      there = omega (arith, mul-le-mul_right size last_within);
      few = omega (arith, last_within, a.pebs_most);
      starts = λ l m. rw (content_length b n a v h) (starts_within b n a v h l m);
      shaped = shaped b n a v h;
    }

    -- with it, its PEBs are filled
    pub volume_filled : (s : List ℕ) {p : ℕ} {shape : VolumeShape} {content y : List ℕ} → n * size ≤ length s
        → p ≡ first_of v → shape ≡ shape_of b v → content ≡ volume_content b v → Filled b p s
        → y ≡ put (p * size) (concat_below shape.lebs (leb_peb b.geometry (plan_ec b) shape content p)) s
        → Filled b (p + shape.lebs) y
    volume_filled s k e u w q t =
        rw (e, u)
        (filled_more (first_of v) (lebs_of b v) (leb_peb b.geometry (plan_ec b) (shape_of b v) (volume_content b v)
        (first_of v)) s
        (omega (
          arith,
          mul-le-mul_right size last_within,
          add-mul (first_of v) (lebs_of b v) size,
        )) (rw e at q) leb_block
        (rw (e, u, w) at t))

  -- ---- the layout, and the rest

  pub layout_filled : (s : List ℕ) {y : List ℕ}
      → y ≡ put 0 (used_peb b.geometry (plan_ec b) (layout_vid 1 0) b.table ++ used_peb b.geometry (plan_ec b)
      (layout_vid 2 1) b.table) s
      → Filled b 2 y
  unfolding block_bytes
  layout_filled s t =
      let x : List ℕ = block_bytes b 0 ++ block_bytes b 1 in
      let k : 2 * size ≡ 0 + length x = rw length-append (omega (arith, block_length b n a 0, block_length b n a 1)) in
      rw (k, t) (take_put 0 x s (omega arith))

  pub free_block : (l : ℕ) → free_peb b.geometry (plan_ec b) ≡ block_bytes b (first_of b.volumes + l)
  free_block l =
      let k : ℕ = sum_below b.volumes (lebs_of b) in
      let e : first_of b.volumes + l ≡ 2 + (k + l) = omega arith in
      rw (e, block_user b (k + l), key_past (lebs_of b) b.volumes (k + l) (omega arith))

  -- the whole image
  pub all_filled : (s : List ℕ) {y : List ℕ} → length s ≡ n * size → Filled b (first_of b.volumes) s
      → y ≡ put (first_of b.volumes * size)
      (concat_below (n - first_of b.volumes) (λ (l : ℕ). free_peb b.geometry (plan_ec b))) s
      → y ≡ built_image b n
  unfolding built_image
  all_filled s {y} long q t =
      let p : ℕ = first_of b.volumes in
      let f : ℕ → List ℕ = λ (l : ℕ). free_peb b.geometry (plan_ec b) in
      let e : p + (n - p) ≡ n = omega (arith, pebs_suffice b n a) in
      let w : p * size + (n - p) * size ≡ n * size = sym (add-mul p (n - p) size) ∙ rw e in
      let l : length (concat_below (n - p) f) ≡ (n - p) * size =
      rows_length (n - p) size f (λ l. free_length b.geometry a.placed (plan_ec b)) in
      let m : length y ≡ n * size = ap length t ∙ length_put (p * size) (concat_below (n - p) f) s (omega arith)
      ∙ long in
      sym (take_all (n * size) y (omega arith))
      ∙ rw e at (filled_more p (n - p) f s (omega arith) q (λ l _. free_block l) t)
