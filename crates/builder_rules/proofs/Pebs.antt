-- The PEBs of a filled image are whole. Assumes nothing.
use mathlib.Core.Path.{◌≡◌, refl, ap, ◌∙◌}
use mathlib.Core.Option.{Option, none, some}
use mathlib.Core.List.{List, ◌++◌}
use Prim.Native.Nat.{ℕ, zero, suc, ◌+◌, ◌-◌, ◌≤◌, ◌*◌}
use native.Mathlib.Omega.{arith}
use lib.ListN.{length, take, drop, replicate, length-replicate}
use Rattle.base.specs.Lists.{put}
use Rattle.base.proofs.Rows.{rows_length}
use Rattle.base.proofs.Stores.{length_put, put_from, put_before, put_behind, part_put_in, drop_replicate}
use Rattle.base.proofs.Stores.{take_replicate}
use Rattle.geometry.specs.declared.Geometry.{Geometry}
use Rattle.geometry.specs.Placed.{Placed}
use Rattle.header.specs.Ec.{ec_bytes}
use Rattle.header.specs.Vid.{vid_bytes}
use Rattle.header.specs.declared.EcHeader.{EcHeader}
use Rattle.header.specs.declared.VidHeader.{VidHeader}
use Rattle.header.proofs.Writes.{ec_64, vid_64}
use Rattle.builder_rules.specs.Blocks.{BuildPlan, free_peb, used_peb, key_below, lebs_of, leb_data, layout_vid, plan_ec}
use Rattle.builder_rules.specs.Blocks.{user_peb, block_bytes, built_image}
use Rattle.builder_rules.proofs.Keys.{key_here}
use Rattle.builder_rules.specs.Filling.{Accepted}
use Rattle.builder_rules.proofs.Accepted.{leb_vid, table_fits, data_fits}

-- ---- each store lies within the PEB

-- an erased PEB
abbrev blank : Geometry → List ℕ
blank g = replicate g.peb_size 0xFF

module _ (g : Geometry) (p : Placed g) (e : EcHeader) where
  blank_length : length (blank g) ≡ g.peb_size
  blank_length = length-replicate {A = ℕ} g.peb_size 0xFF

  ec_within : 0 + length (ec_bytes e) ≤ length (blank g)
  ec_within = rw (blank_length, ec_64 e) (omega (arith, p.vid_after_ec, p.data_after_vid, p.leb_fills))

  pub free_length : length (free_peb g e) ≡ g.peb_size
  unfolding free_peb
  free_length = length_put 0 (ec_bytes e) (blank g) ec_within ∙ blank_length

  -- behind its header a free PEB is erased
  free_past : (i : ℕ) → 64 ≤ i → drop i (free_peb g e) ≡ replicate (g.peb_size - i) 0xFF
  unfolding free_peb
  free_past i h =
      put_behind 0 (ec_bytes e) (blank g) ec_within i (omega (arith, ec_64 e)) ∙ drop_replicate 0xFF i g.peb_size

  module _ (h : VidHeader) (bytes : List ℕ) (fits : length bytes ≤ g.leb_size) where
    pub vid_within : g.vid_start + length (vid_bytes h) ≤ length (free_peb g e)
    vid_within = rw (free_length, vid_64 h) (omega (arith, p.data_after_vid, p.leb_fills))

    headed_length : length (put g.vid_start (vid_bytes h) (free_peb g e)) ≡ g.peb_size
    headed_length = length_put g.vid_start (vid_bytes h) (free_peb g e) vid_within ∙ free_length

    pub data_within : g.data_start + length bytes ≤ length (put g.vid_start (vid_bytes h) (free_peb g e))
    data_within = rw headed_length (omega (arith, p.leb_fills))

    pub used_length : length (used_peb g e h bytes) ≡ g.peb_size
    unfolding used_peb
    used_length =
        length_put g.data_start bytes (put g.vid_start (vid_bytes h) (free_peb g e)) data_within ∙ headed_length

    -- from the data start on: the bytes, then 0xFF
    pub used_body : drop g.data_start (used_peb g e h bytes) ≡ bytes ++ replicate (g.leb_size - length bytes) 0xFF
    unfolding used_peb
    used_body =
        let n : ℕ = g.data_start + length bytes in
        let k : g.peb_size - n ≡ g.leb_size - length bytes = omega (arith, p.leb_fills) in
        put_from g.data_start bytes (put g.vid_start (vid_bytes h) (free_peb g e)) data_within
        ∙ ap (λ l. bytes ++ l)
        (put_behind g.vid_start (vid_bytes h) (free_peb g e) vid_within n (omega (arith, vid_64 h, p.data_after_vid))
        ∙ free_past n (omega (arith, p.vid_after_ec, p.data_after_vid)) ∙ ap (λ m. replicate m 0xFF) k)

    -- and before it: both headers over 0xFF
    pub used_front : take g.data_start (used_peb g e h bytes)
        ≡ put g.vid_start (vid_bytes h) (put 0 (ec_bytes e) (replicate g.data_start 0xFF))
    unfolding used_peb free_peb
    used_front =
        let d : ℕ = g.data_start in
        let v : 0 + g.vid_start ≡ g.vid_start = omega arith in
        put_before d bytes (put g.vid_start (vid_bytes h) (free_peb g e)) data_within 0 d (omega arith)
        ∙ rw v at (part_put_in 0 d g.vid_start (vid_bytes h) (free_peb g e)
        (omega (arith, vid_64 h, p.data_after_vid)) (omega (arith, free_length, p.leb_fills)))
        ∙ ap (put g.vid_start (vid_bytes h))
        (part_put_in 0 d 0 (ec_bytes e) (blank g) (omega (arith, ec_64 e, p.vid_after_ec, p.data_after_vid))
        (omega (arith, blank_length, p.leb_fills))
        ∙ ap (put 0 (ec_bytes e)) (take_replicate 0xFF d g.peb_size (omega (arith, p.leb_fills))))

-- ---- the blocks of a plan

module _ (b : BuildPlan) where
  pub block_user : (k : ℕ) → block_bytes b (2 + k) ≡ user_peb b (k + 3) (key_below b.volumes (lebs_of b) k)
  unfolding block_bytes
  block_user k = let e : 2 + k ≡ suc (suc k) = omega arith in rw e

module _ (b : BuildPlan) (n : ℕ) (a : Accepted b n) where
  user_length : (seq k : ℕ) (x : Option (ℕ × ℕ)) → key_below b.volumes (lebs_of b) k ≡ x
      → length (user_peb b seq x) ≡ b.geometry.peb_size
  user_length seq k none e = free_length b.geometry a.placed (plan_ec b)
  user_length seq k (some x) e =
      used_length b.geometry a.placed (plan_ec b) (leb_vid b x.0 seq x.1) (leb_data b x.0 x.1)
      (data_fits b n a x.0 (key_here (lebs_of b) b.volumes k x e).volume x.1)

  pub block_length : (i : ℕ) → length (block_bytes b i) ≡ b.geometry.peb_size
  unfolding block_bytes
  block_length zero = used_length b.geometry a.placed (plan_ec b) (layout_vid 1 0) b.table (table_fits b n a)
  block_length (suc zero) = used_length b.geometry a.placed (plan_ec b) (layout_vid 2 1) b.table (table_fits b n a)
  block_length (suc (suc k)) = user_length (k + 3) k (key_below b.volumes (lebs_of b) k) refl

  pub built_length : length (built_image b n) ≡ n * b.geometry.peb_size
  unfolding built_image
  built_length = rows_length n b.geometry.peb_size (block_bytes b) block_length
