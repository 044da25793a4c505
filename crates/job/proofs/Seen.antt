-- What the reader sees of a PEB's headers: written ones, torn ones, and a copy. Assumes nothing.
use mathlib.Core.Path.{◌≡◌, refl, sym, ◌∙◌, ap, subst}
use mathlib.Core.Logic.{◌⊎◌, inl, inr, ⊎_elim}
use mathlib.Core.Bool.{Bool, true, false, not, ◌||◌, cond, and-false}
use mathlib.Core.Option.{some}
use mathlib.Core.List.{List, [], append-nil}
use Prim.Native.Nat.{ℕ, ◌-◌}
use native.Mathlib.Omega.{arith}
use lib.ListN.{take, replicate, length-replicate}
use lib.Seq.{take_at}
use Rattle.base.specs.Lists.{part, put, eqs}
use Rattle.base.proofs.Answers.{by_test, clash, or_true_cases, none_some}
use Rattle.base.proofs.Lists.{eqs_true}
use Rattle.base.proofs.Stores.{put_behind, drop_replicate, take_replicate}
use Rattle.field.specs.Be.{to_be_on}
use Rattle.geometry.specs.Placed.{Placed}
use Rattle.geometry.specs.declared.Geometry.{Geometry}
use Rattle.header.specs.Fields.{crc_matches, Verdict, good, bad, newer, read_header}
use Rattle.header.specs.Ec.{ec_magic, ec_fields, judge_ec, read_ec, ec_head, ec_bytes, EcFits}
use Rattle.header.specs.Vid.{vid_magic, vid_fields, judge_vid, read_vid, vid_head, vid_bytes, VidFits}
use Rattle.header.specs.declared.EcHeader.{EcHeader}
use Rattle.header.specs.declared.VidHeader.{VidHeader}
use Rattle.header.proofs.Writes.{ec_64}
use Rattle.header.proofs.RoundTrip.{ec_judged, vid_judged}
use Rattle.report.specs.View.{all_ff, Copy, EcView, ec_good, ec_blank, ec_lost, VidView, vid_good, vid_blank, vid_bad, ec_of, copy_of, vid_of, vid_part, view_of, good_ec, good_vid}
use Rattle.job.specs.Torn.{unlike}

-- a written header is not all 0xFF
ec_shows : (h : EcHeader) → all_ff (ec_bytes h) ≡ false
unfolding all_ff ec_bytes ec_head to_be_on
ec_shows h = refl

vid_shows : (h : VidHeader) → all_ff (vid_bytes h) ≡ false
unfolding all_ff vid_bytes vid_head to_be_on
vid_shows h = refl

ec_reads : (h : EcHeader) → EcFits h → read_ec (ec_bytes h) ≡ judge_ec h
ec_reads h f = rw append-nil at (ec_judged h [] f)

vid_reads : (size : ℕ) (h : VidHeader) → VidFits h → read_vid size (vid_bytes h) ≡ judge_vid size h
vid_reads size h f = rw append-nil at (vid_judged h [] size f)

-- a header whose CRC does not match is bad
torn_read : {A : Type 0} (magic : List ℕ) (judge : List ℕ → Verdict A) (s : List ℕ) → crc_matches s ≡ false
    → read_header magic judge s ≡ bad
torn_read {A} magic judge s e = rw (e, and-false (eqs (part 0 4 s) magic))

module _ (g : Geometry) (P : List ℕ) where
  -- ---- the EC header

  pub ec_written_lem : (h : EcHeader) → EcFits h → judge_ec h ≡ good h → take 64 P ≡ ec_bytes h → (view_of g P).ec ≡ ec_good h
  unfolding view_of
  ec_written_lem h f j e = rw (e, ec_shows h, ec_reads h f, j)

  pub ec_torn : all_ff (take 64 P) || not (crc_matches (take 64 P)) ≡ true
      → ((view_of g P).ec ≡ ec_blank) ⊎ ((view_of g P).ec ≡ ec_lost)
  unfolding view_of read_ec
  ec_torn e =
      by_test (all_ff (take 64 P)) (λ b. inl (rw b))
      (λ b. by_test (crc_matches (take 64 P)) (λ q. clash refl (rw (b, q) at e))
      (λ q. inr (rw (b, torn_read ec_magic (λ l. judge_ec (ec_fields l)) (take 64 P) q))))

  -- ---- the VID header

  pub vid_written_lem : (h : VidHeader) → VidFits h → judge_vid g.leb_size h ≡ good h → vid_part g P ≡ vid_bytes h
      → (view_of g P).vid ≡ vid_good (copy_of g P h)
  unfolding view_of
  vid_written_lem h f j e = rw (e, vid_shows h, vid_reads g.leb_size h f, j)

  pub vid_torn : all_ff (vid_part g P) || not (crc_matches (vid_part g P)) ≡ true
      → ((view_of g P).vid ≡ vid_blank) ⊎ ((view_of g P).vid ≡ vid_bad)
  unfolding view_of read_vid
  vid_torn e =
      by_test (all_ff (vid_part g P)) (λ b. inl (rw b))
      (λ b. by_test (crc_matches (vid_part g P)) (λ q. clash refl (rw (b, q) at e))
      (λ q. inr (rw (b, torn_read vid_magic (λ l. judge_vid g.leb_size (vid_fields l)) (vid_part g P) q))))

  pub vid_erased : vid_part g P ≡ replicate 64 0xFF → (view_of g P).vid ≡ vid_blank
  unfolding view_of all_ff
  vid_erased e = rw e

  -- ---- a copy

  pub record Read (c : Copy) : Type 0 where
    pub shows : all_ff (vid_part g P) ≡ false
    pub reads : read_vid g.leb_size (vid_part g P) ≡ good c.header
    pub is : c ≡ copy_of g P c.header

  pub copy_read : (c : Copy) → good_vid (view_of g P).vid ≡ some c → Read c
  unfolding view_of copy_of
  copy_read c e = go (all_ff (vid_part g P)) refl (read_vid g.leb_size (vid_part g P)) refl e
    where
      go : (b : Bool) → all_ff (vid_part g P) ≡ b → (v : Verdict VidHeader) → read_vid g.leb_size (vid_part g P) ≡ v
          → good_vid (cond b vid_blank (vid_of g P v)) ≡ some c → Read c
      go true q v r e = none_some e
      go false q (good h) r e =
          let z : copy_of g P h ≡ c = cc in
          subst Read z (record { shows = q; reads = r; is = refl })
      go false q bad r e = none_some e
      go false q newer r e = none_some e

-- a copy's header in another PEB
pub same_header : (g : Geometry) (P Q : List ℕ) (c : Copy) → Read g P c → vid_part g Q ≡ vid_part g P
    → (view_of g Q).vid ≡ vid_good (copy_of g Q c.header)
unfolding view_of
same_header g P Q c r e = rw (e, r.shows, r.reads)

-- a good EC header
pub ec_seen_lem : (g : Geometry) (P : List ℕ) (h : EcHeader) → good_ec (view_of g P).ec ≡ some h
    → read_ec (take 64 P) ≡ good h
unfolding view_of
ec_seen_lem g P h e = go (all_ff (take 64 P)) (read_ec (take 64 P)) refl e
  where
    go : (b : Bool) (v : Verdict EcHeader) → read_ec (take 64 P) ≡ v → good_ec (cond b ec_blank (ec_of v)) ≡ some h
        → read_ec (take 64 P) ≡ good h
    go true v r e = none_some e
    go false (good x) r e = let z : x ≡ h = cc in rw z at r
    go false bad r e = none_some e
    go false newer r e = none_some e

-- a PEB that was erased, with its EC header stored again
module _ (g : Geometry) (P : Placed g) (Y : List ℕ) (h : EcHeader) (is : Y ≡ put 0 (ec_bytes h) (replicate g.peb_size 0xFF)) where
  pub renewed_ec : take 64 Y ≡ ec_bytes h
  renewed_ec = ap (take 64) is ∙ take_at (ec_bytes h) _ 64 (ec_64 h)

  pub renewed_vid : vid_part g Y ≡ replicate 64 0xFF
  renewed_vid =
      let e = ec_64 h in
      ap (vid_part g) is
      ∙ ap (take 64)
      (put_behind 0 (ec_bytes h) (replicate g.peb_size 0xFF)
      (rw length-replicate (omega (arith, P.vid_after_ec, P.data_after_vid, P.leb_fills))) g.vid_start
      (omega (arith, P.vid_after_ec))
      ∙ drop_replicate 0xFF g.vid_start g.peb_size)
      ∙ take_replicate 0xFF 64 (g.peb_size - g.vid_start) (omega (arith, P.data_after_vid, P.leb_fills))

-- ---- what the views of a PEB can become where a power-cut premise holds: O are its bytes before, Y those of a stopped image

module _ (g : Geometry) (O Y : List ℕ) where
  -- the EC header is the one that there was, or the new one, or none
  pub ec_after : (e : EcHeader) → EcFits e → judge_ec e ≡ good e → (S : EcView → Type 0) → S (view_of g O).ec
      → S (ec_good e) → S ec_blank → S ec_lost
      → unlike (eqs (take 64 Y) (take 64 O) || eqs (take 64 Y) (ec_bytes e)) (take 64 Y) ≡ true → S (view_of g Y).ec
  unfolding view_of
  ec_after e f j S old new blank lost c =
      ⊎_elim
      (λ w. ⊎_elim (λ q. rw (eqs_true (take 64 Y) (take 64 O) q) old)
      (λ q. subst S (sym (ec_written_lem g Y e f j (eqs_true (take 64 Y) (ec_bytes e) q))) new)
      (or_true_cases (eqs (take 64 Y) (take 64 O)) (eqs (take 64 Y) (ec_bytes e)) w))
      (λ w. ⊎_elim (λ q. subst S (sym q) blank) (λ q. subst S (sym q) lost) (ec_torn g Y w))
      (or_true_cases (eqs (take 64 Y) (take 64 O) || eqs (take 64 Y) (ec_bytes e))
      (all_ff (take 64 Y) || not (crc_matches (take 64 Y))) c)

  -- the VID header is the one that there was, or none
  pub vid_after : (c : Copy) → Read g O c → (S : VidView → Type 0) → S (vid_good (copy_of g Y c.header)) → S vid_blank
      → S vid_bad
      → unlike (eqs (vid_part g Y) (vid_part g O)) (vid_part g Y) ≡ true → S (view_of g Y).vid
  vid_after c r S old blank none u =
      ⊎_elim (λ q. subst S (sym (same_header g O Y c r (eqs_true (vid_part g Y) (vid_part g O) q))) old)
      (λ w. ⊎_elim (λ q. subst S (sym q) blank) (λ q. subst S (sym q) none) (vid_torn g Y w))
      (or_true_cases (eqs (vid_part g Y) (vid_part g O)) (all_ff (vid_part g Y) || not (crc_matches (vid_part g Y))) u)
