-- The headers of an accepted move: what they have to do with the copy that it moves, and that they are good. Assumes
-- nothing.
use mathlib.Core.Path.{◌≡◌, refl, sym, ◌∙◌}
use mathlib.Core.Logic.{◌≢◌, ◌⊎◌, inl, inr, ⊎_elim}
use mathlib.Core.Bool.{Bool, true, false, not, ◌&&◌, ◌||◌, cond}
use mathlib.Core.Option.{none}
use mathlib.Core.List.{List}
use Prim.Native.Nat.{ℕ, ◌+◌, ◌-◌, ◌^◌, ◌≤◌, ◌<◌}
use native.Mathlib.Omega.{arith}
use lib.Dec.{eqb, ltb, lit<}
use borrow.Author.Tests.{eqb-true, eqb-false, lt-ltb, le-leb}
use lib.ListN.{length, take, drop, get_or, replicate}
use Rattle.base.specs.Answers.{all_of}
use Rattle.base.specs.Lists.{Bytes}
use Rattle.base.proofs.Answers.{by_test, and_left, each_holds}
use Rattle.base.proofs.Lists.{bytes_take}
use Rattle.crc32.specs.Crc.{crc_of}
use Rattle.crc32.proofs.Laws.{crc_of_lt}
use Rattle.geometry.specs.Geometry.{round_up}
use Rattle.geometry.specs.Placed.{Placed}
use Rattle.geometry.specs.declared.Geometry.{Geometry}
use Rattle.geometry.proofs.Laws.{round_at_least}
use Rattle.header.specs.Fields.{good}
use Rattle.header.specs.Ec.{ec_rules, judge_ec, EcFits}
use Rattle.header.specs.Vid.{implies, volume_rule, static_rule, dynamic_rule, layout_rule, vid_rules, judge_vid, VidFits}
use Rattle.header.specs.declared.EcHeader.{EcHeader}
use Rattle.header.specs.declared.VidHeader.{VidHeader}
use Rattle.report.specs.View.{Copy, ec_good, Views, Medium}
use Rattle.report.specs.Scan.{image_seq_of, ec_refusal}
use Rattle.report.specs.Choice.{sound}
use Rattle.report.specs.Volumes.{content_of}
use Rattle.report.proofs.Facts.{ec_unrefused}
use Rattle.mover_rules.specs.Headers.{is_static, data_end, new_size, new_flag, new_crc, new_vid, old_counter, new_ec}
use Rattle.mover_rules.proofs.Data.{same_content}

-- h is the new VID header, e the new EC header; ref is the image sequence that refusal 7 compares with
pub record Good (g : Geometry) (ref : ℕ) (old : Copy) (h : VidHeader) (e : EcHeader) : Type 0 where
  pub vid_good_holds : judge_vid g.leb_size h ≡ good h
  pub vid_fits : VidFits h
  pub ec_good_holds : judge_ec e ≡ good e
  pub ec_fits : EcFits e
  pub ec_stands : ec_refusal g ref (ec_good e) ≡ none
  pub same_type : h.vol_type ≡ old.header.vol_type
  pub same_pad : h.data_pad ≡ old.header.data_pad
  pub same_used : h.used_lebs ≡ old.header.used_lebs
  pub data_fits : h.data_size ≤ g.leb_size
  pub no_data : h.copy_flag ≡ 0 → h.data_size ≡ 0
  pub summed : (h.copy_flag ≡ 0) ⊎ (h.data_crc ≡ crc_of (take h.data_size old.body))
  pub old_sound : sound old ≡ true
  pub old_right : not (is_static old) || old.matches ≡ true
  pub new_right : not (eqb h.vol_type 2) || eqb (crc_of (take h.data_size old.body)) h.data_crc ≡ true
  -- what is stored, with 0xFF behind it, has the content
  pub content : (b : List ℕ) → take h.data_size b ≡ take h.data_size old.body
      → drop h.data_size b ≡ replicate (g.leb_size - h.data_size) 0xFF
      → take (cond (eqb h.vol_type 2) h.data_size (g.leb_size - h.data_pad)) b ≡ content_of g old

-- what is known of the copy that is moved
pub record Moves (g : Geometry) (c : Copy) : Type 0 where
  pub is_sound : sound c ≡ true
  pub is_right : not (is_static c) || c.matches ≡ true
  pub long : length c.body ≡ g.leb_size
  pub bytes : Bytes c.body
  pub matches_is : c.matches ≡ eqb (crc_of (take c.header.data_size c.body)) c.header.data_crc
  pub rules : all_of (vid_rules g.leb_size c.header) ≡ true
  pub widths : VidFits c.header
  pub size_fits : new_size g c ≤ g.leb_size - c.header.data_pad

module _ (g : Geometry) (P : Placed g) (c : Copy) (m : Moves g c) (highest : ℕ) (below : highest + 1 < 256 ^ 8) where
  abbrev h : VidHeader
  h = new_vid g highest c

  abbrev d : ℕ
  d = new_size g c

  -- ---- data size, flag and CRC

  static_size : is_static c ≡ true → d ≡ c.header.data_size
  unfolding new_size
  static_size e = rw e

  dynamic_size : is_static c ≡ false → d ≡ round_up g.unit (data_end (take (g.leb_size - c.header.data_pad) c.body))
  unfolding new_size
  dynamic_size e = rw e

  flag_is : (new_flag g c ≡ 1) ⊎ ((new_flag g c ≡ 0) × (d ≡ 0))
  unfolding new_flag
  flag_is =
      by_test (is_static c) (λ s. inl (rw s))
      (λ s. by_test (eqb d 0) (λ z. inr (rw (s, z), eqb-true d 0 z)) (λ z. inl (rw (s, z))))

  flag_most : new_flag g c ≤ 1
  flag_most = ⊎_elim (λ q. omega arith) (λ q. omega (arith, q.0)) flag_is

  crc_static : is_static c ≡ true → eqb (crc_of (take d c.body)) (new_crc g c) ≡ true
  unfolding new_crc
  crc_static e = rw (static_size e, e) (sym m.matches_is ∙ rw e at m.is_right)

  summed : (new_flag g c ≡ 0) ⊎ (new_crc g c ≡ crc_of (take d c.body))
  unfolding new_flag new_crc
  summed =
      by_test (is_static c) (λ q. inr (sym (eqb-true (crc_of (take d c.body)) (new_crc g c) (crc_static q))))
      (λ q. by_test (eqb d 0) (λ r. inl (rw (q, r))) (λ r. inr (rw (q, r))))

  new_right : not (is_static c) || eqb (crc_of (take d c.body)) (new_crc g c) ≡ true
  new_right = by_test (is_static c) (λ q. rw q (crc_static q)) (λ q. rw q)

  content : (b : List ℕ) → take d b ≡ take d c.body → drop d b ≡ replicate (g.leb_size - d) 0xFF
      → take (cond (is_static c) d (g.leb_size - c.header.data_pad)) b ≡ content_of g c
  content b e f =
      by_test (is_static c) (λ q. rw q (e ∙ rw (static_size q)))
      (λ q.
      let top = g.leb_size - c.header.data_pad in
      let z = dynamic_size q in
      let r = round_at_least g.unit (data_end (take top c.body)) P.unit_above in
      let s = m.size_fits in
      let l = m.long in
      rw q (same_content top d g.leb_size b c.body (omega arith) s (omega arith) (omega arith) e f))

  -- ---- the rules

  rule : (k : ℕ) → get_or (vid_rules g.leb_size c.header) k true ≡ true
  rule = each_holds (vid_rules g.leb_size c.header) m.rules

  static_rule_lem : static_rule g.leb_size h ≡ true
  unfolding new_vid vid_rules static_rule
  static_rule_lem = by_test (is_static c) (λ e. rw (static_size e) (rule 7)) (λ e. rw e)

  dynamic_rule_lem : dynamic_rule h ≡ true
  unfolding new_vid vid_rules dynamic_rule new_flag new_crc
  dynamic_rule_lem = go (eqb c.header.vol_type 1) refl (rule 8)
    where
      size : (b : Bool) → eqb d 0 ≡ b
          → implies (eqb (cond {A = ℕ} b 0 1) 0) (b && eqb (cond b 0 (crc_of (take d c.body))) 0) && implies
          (eqb (cond {A = ℕ} b 0 1) 1) (ltb 0 d) ≡ true
      size true e = refl
      size false e = lt-ltb 0 d (let ne : d ≢ 0 = eqb-false d 0 e in omega arith)

      was : Bool
      was =
          implies (eqb c.header.copy_flag 0) (eqb c.header.data_size 0 && eqb c.header.data_crc 0)
          && implies (eqb c.header.copy_flag 1) (ltb 0 c.header.data_size)

      go : (a : Bool) → eqb c.header.vol_type 1 ≡ a → implies a (eqb c.header.used_lebs 0 && was) ≡ true
          → implies a
          (eqb c.header.used_lebs 0
          && (implies (eqb (new_flag g c) 0) (eqb d 0 && eqb (new_crc g c) 0) && implies (eqb (new_flag g c) 1) (ltb 0 d)))
          ≡ true
      go true e r =
          let s : is_static c ≡ false = rw (eqb-true c.header.vol_type 1 e) refl in
          rw (and_left (eqb c.header.used_lebs 0) was r, s) (size (eqb d 0) refl)
      go false e r = refl

  kept_rule : (volume_rule h ≡ true) × (layout_rule h ≡ true)
  unfolding new_vid vid_rules volume_rule layout_rule
  kept_rule = (rule 2, rule 9)

  all_rules : all_of (vid_rules g.leb_size h) ≡ true
  unfolding vid_rules new_vid
  all_rules =
      rw (
        le-leb (new_flag g c) 1 flag_most,
        rule 1,
        kept_rule.0,
        rule 3,
        rule 4,
        rule 5,
        le-leb d (g.leb_size - c.header.data_pad) m.size_fits,
        static_rule_lem,
        dynamic_rule_lem,
        kept_rule.1,
      )

  vid_is_good : judge_vid g.leb_size h ≡ good h
  unfolding judge_vid new_vid
  vid_is_good = rw all_rules

  -- ---- the widths

  crc_small : new_crc g c < 256 ^ 4
  unfolding new_crc
  crc_small =
      by_test (is_static c) (λ q. rw q m.widths.data_crc)
      (λ q. by_test (eqb d 0) (λ r. rw (q, r) (lit< tt))
      (λ r. rw (q, r) (crc_of_lt (take d c.body) (bytes_take d c.body m.bytes))))

  data_within : d ≤ g.leb_size
  data_within = let s = m.size_fits in omega arith

  vid_widths : VidFits h
  unfolding new_vid
  vid_widths = record {
    version = lit< tt;
    vol_type = m.widths.vol_type;
    copy_flag = omega (arith, flag_most);
    compat = m.widths.compat;
    volume = m.widths.volume;
    lnum = m.widths.lnum;
    data_size = omega (arith, data_within, P.leb_fills, P.peb_most);
    used_lebs = m.widths.used_lebs;
    data_pad = m.widths.data_pad;
    data_crc = crc_small;
    sequence = below;
  }

  -- ---- with the EC header

  abbrev medium : ℕ → Views → Medium
  medium n vs = record { geometry = g; count = n; views = vs }

  module _ (n : ℕ) (vs : Views) (o : ℕ) (counts : old_counter (medium n vs) o + 1 ≤ 0x7FFFFFFF)
      (image : image_seq_of n vs < 256 ^ 4) where
    abbrev e : EcHeader
    e = new_ec (medium n vs) o

    ec_is_good : judge_ec e ≡ good e
    unfolding judge_ec ec_rules new_ec
    ec_is_good = rw (le-leb (old_counter (medium n vs) o + 1) 0x7FFFFFFF counts)

    ec_widths : EcFits e
    unfolding new_ec
    ec_widths = record {
      version = lit< tt;
      counter = omega arith;
      vid_start = omega (arith, P.data_after_vid, P.leb_fills, P.peb_most);
      data_start = omega (arith, P.leb_fills, P.peb_most);
      image_seq = image;
    }

    ec_stands : ec_refusal g (image_seq_of n vs) (ec_good e) ≡ none
    unfolding new_ec
    ec_stands = ec_unrefused g e refl refl

    pub good_headers : Good g (image_seq_of n vs) c h e
    unfolding new_vid
    good_headers = record {
      vid_good_holds = vid_is_good;
      vid_fits = vid_widths;
      ec_good_holds = ec_is_good;
      ec_fits = ec_widths;
      ec_stands = ec_stands;
      same_type = refl;
      same_pad = refl;
      same_used = refl;
      data_fits = data_within;
      no_data = λ e. ⊎_elim (λ q. absurd (omega arith)) (λ q. q.1) flag_is;
      summed = summed;
      old_sound = m.is_sound;
      old_right = m.is_right;
      new_right = new_right;
      content = content;
    }
