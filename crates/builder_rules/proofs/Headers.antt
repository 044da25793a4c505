-- The builder's headers are good, and their numbers as large as their bytes allow. Assumes nothing.
use mathlib.Core.Path.{◌≡◌, refl}
use mathlib.Core.Logic.{⊎_elim}
use mathlib.Core.Bool.{Bool, true, ◌||◌, cond}
use mathlib.Core.List.{List}
use Prim.Native.Nat.{ℕ, ◌+◌, ◌-◌, ◌*◌, ◌<◌, ◌^◌}
use native.Mathlib.Omega.{arith}
use borrow.Author.Tests.{eq-eqb, ne_eqb, lt-ltb, le-leb}
use lib.Dec.{eqb, lit<}
use lib.ListN.{length}
use Rattle.base.specs.Lists.{Bytes}
use Rattle.base.proofs.Answers.{or_true_right, either_way}
use Rattle.crc32.specs.Crc.{crc_of}
use Rattle.crc32.proofs.Laws.{crc_of_lt}
use Rattle.geometry.specs.declared.Geometry.{Geometry}
use Rattle.geometry.specs.Placed.{Placed}
use Rattle.header.specs.Fields.{good}
use Rattle.header.specs.Ec.{ec_rules, judge_ec, EcFits}
use Rattle.header.specs.Vid.{layout_volume, volume_rule, static_rule, dynamic_rule, layout_rule, vid_rules, judge_vid, VidFits}
use Rattle.builder_rules.specs.Blocks.{built_ec, layout_vid, user_vid}
use Rattle.builder_rules.specs.Filling.{Shaped}
use Rattle.builder_rules.specs.declared.VolumeShape.{VolumeShape}

-- ---- the EC header

pub ec_good_holds : (g : Geometry) (seq : ℕ) → judge_ec (built_ec g seq) ≡ good (built_ec g seq)
unfolding judge_ec ec_rules built_ec
ec_good_holds g seq = refl

pub ec_fits : (g : Geometry) (seq : ℕ) → Placed g → seq < 256 ^ 4 → EcFits (built_ec g seq)
unfolding built_ec
ec_fits g seq p h = record {
  version = lit< tt;
  counter = lit< tt;
  vid_start = omega (arith, p.data_after_vid, p.leb_fills, p.peb_most);
  data_start = omega (arith, p.leb_fills, p.peb_most);
  image_seq = h;
}

-- ---- the layout volume's VID headers

pub layout_good : (size seq l : ℕ) → 0 < size → l < 2 → judge_vid size (layout_vid seq l) ≡ good (layout_vid seq l)
unfolding judge_vid vid_rules volume_rule static_rule dynamic_rule layout_rule layout_vid
layout_good size seq l h k =
    rw (
      le-leb l 0x7FFFFFFF (omega arith),
      lt-ltb 0 size h,
      le-leb 0 (size - 0) (omega arith),
      le-leb l 1 (omega arith),
    )

pub layout_fits : (seq l : ℕ) → seq < 256 ^ 8 → l < 2 → VidFits (layout_vid seq l)
unfolding layout_vid
layout_fits seq l h k = record {
  version = lit< tt;
  vol_type = lit< tt;
  copy_flag = lit< tt;
  compat = lit< tt;
  volume = lit< tt;
  lnum = omega arith;
  data_size = lit< tt;
  used_lebs = lit< tt;
  data_pad = lit< tt;
  data_crc = lit< tt;
  sequence = h;
}

-- ---- those of a volume

cond_lt : (b : Bool) (x m : ℕ) → x < m → cond b x 0 < m
cond_lt b x m h = either_way (λ b. cond b x 0 < m) b h (omega arith)

module _ (size : ℕ) (s : VolumeShape) (l : ℕ) (bytes : List ℕ) (h : Shaped size s l bytes) (seq : ℕ) where
  last_or_full : eqb (l + 1) s.lebs || eqb (length bytes) (size - s.data_pad) ≡ true
  last_or_full =
      ⊎_elim (λ q. rw (eq-eqb (l + 1) s.lebs q))
      (λ q. or_true_right (eqb (l + 1) s.lebs) _ (eq-eqb (length bytes) (size - s.data_pad) q)) h.full

  pub user_good : judge_vid size (user_vid s seq l bytes) ≡ good (user_vid s seq l bytes)
  unfolding judge_vid vid_rules volume_rule static_rule dynamic_rule layout_rule user_vid
  user_good =
      let a = lt-ltb s.volume 128 h.user in
      let b = le-leb l 0x7FFFFFFF (omega arith) in
      let c = lt-ltb (2 * s.data_pad) size h.pad in
      let d = ne_eqb s.volume layout_volume (λ e. omega arith) in
      ⊎_elim
      (λ e. rw (e, a, b, c, le-leb 0 (size - s.data_pad) (omega arith), d))
      (λ e.
      rw (
        e,
        a,
        b,
        le-leb s.lebs 0x7FFFFFFF (omega arith),
        c,
        le-leb (length bytes) (size - s.data_pad) h.most,
        lt-ltb l s.lebs h.within,
        lt-ltb 0 (length bytes) h.some,
        last_or_full,
        d,
      ))
      h.kind

  pub user_fits : size < 256 ^ 4 → Bytes bytes → seq < 256 ^ 8 → VidFits (user_vid s seq l bytes)
  unfolding user_vid
  user_fits z y q = record {
    version = lit< tt;
    vol_type = ⊎_elim (λ e. omega arith) (λ e. omega arith) h.kind;
    copy_flag = lit< tt;
    compat = lit< tt;
    volume = omega arith;
    lnum = omega arith;
    data_size = cond_lt (eqb s.vol_type 2) (length bytes) (256 ^ 4) (omega arith);
    used_lebs = cond_lt (eqb s.vol_type 2) s.lebs (256 ^ 4) (omega arith);
    data_pad = omega arith;
    data_crc = cond_lt (eqb s.vol_type 2) (crc_of bytes) (256 ^ 4) (crc_of_lt bytes y);
    sequence = q;
  }
