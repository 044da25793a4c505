-- The map's words after the first pass, and the copies that they name. Assumes nothing.
use mathlib.Core.Path.{◌≡◌, refl, sym, ap, ◌∙◌}
use mathlib.Core.Bool.{Bool, true, ◌&&◌, true≢false, false≢true}
use mathlib.Core.Option.{Option, some}
use mathlib.Core.List.{List}
use Prim.Native.Nat.{ℕ, ◌<◌}
use native.Mathlib.Omega.{arith}
use native.Mathlib.Nat.{mul-le-mul_right}
use borrow.Author.Tests.{eqb-true, eqb-false, eq-eqb}
use lib.Dec.{eqb}
use lib.ListN.{get_or}
use Rattle.base.proofs.Answers.{by_test, not_so, and_left, and_right, by_option, none_some}
use Rattle.words.specs.Words.{no_word, volume_word, lnum_word}
use Rattle.geometry.specs.declared.Geometry.{Geometry}
use Rattle.report.specs.View.{Copy, VidView, vid_good, vid_newer, vid_blank, vid_bad, copy_of, views_of, good_vid, copies, is_mappable}
use Rattle.report.specs.Choice.{repeats}
use Rattle.report.specs.Scratch.{key_words}
use Rattle.copies.specs.InPlace.{copy_at}
use Rattle.copies.proofs.Copies.{copy_is}
use Rattle.choice.specs.Keyed.{Holds, Keyed, Within, sequence_at, same_leb, repeats_at}

-- ---- the words of one PEB

-- no user or layout volume is the word that stands for nothing
pub mappable_word : (v : ℕ) → is_mappable v ≡ true → v ≡ no_word → ⊥
mappable_word v m e = false≢true (rw e at m)

-- words that are there name a copy of a user or layout LEB
record Named (o : Option Copy) (v l : ℕ) : Type 0 where
  pub copy : Copy
  pub is : o ≡ some copy
  pub mappable : is_mappable copy.header.volume ≡ true
  pub volume : copy.header.volume ≡ v
  pub leb : copy.header.lnum ≡ l

named : (i : ℕ) (x : VidView) → (get_or (key_words i x) 0 0 ≡ no_word → ⊥)
    → Named (good_vid x) (get_or (key_words i x) 0 0) (get_or (key_words i x) 1 0)
named i vid_newer n = absurd (n refl)
named i vid_blank n = absurd (n refl)
named i vid_bad n = absurd (n refl)
named i (vid_good c) n =
    by_test (is_mappable c.header.volume)
    (λ e. record { copy = c; is = refl; mappable = e; volume = rw e; leb = rw e })
    (λ e. absurd (n (rw e)))

-- and such a copy has its words there
words_of : (i : ℕ) (x : VidView) (c : Copy) → good_vid x ≡ some c → is_mappable c.header.volume ≡ true
    → (get_or (key_words i x) 0 0 ≡ c.header.volume) × (get_or (key_words i x) 1 0 ≡ c.header.lnum)
words_of i vid_newer c e m = none_some e
words_of i vid_blank c e m = none_some e
words_of i vid_bad c e m = none_some e
words_of i (vid_good d) c e m = let q : d ≡ c = cc in rw (q, m) (refl, refl)

-- ---- the words in the map

-- a PEB that has a copy of a user or layout LEB, with the volume and LEB of its words
pub record Held (g : Geometry) (image map : List ℕ) (i : ℕ) : Type 0 where
  pub is : copies (views_of g image) i ≡ some (copy_at g image i)
  pub mappable : is_mappable (copy_at g image i).header.volume ≡ true
  pub volume : (copy_at g image i).header.volume ≡ volume_word map i
  pub leb : (copy_at g image i).header.lnum ≡ lnum_word map i

module _ {g : Geometry} {image : List ℕ} {n : ℕ} {map : List ℕ} (d : Keyed g image n map) (i : ℕ) (h : i < n) where
  pub within : Within g image map i
  within = record {
    placed = d.placed;
    bytes = omega (arith, d.whole, mul-le-mul_right g.peb_size h);
    words = omega (arith, d.long);
  }

  pub held : Holds map i → Held g image map i
  held n =
      let w = named i (views_of g image i).vid
      (λ (e : get_or (key_words i (views_of g image i).vid) 0 0 ≡ no_word). n (d.volumes i h ∙ e)) in
      let e : w.copy ≡ copy_at g image i = copy_is g image i w.copy w.is in
      record {
        is = w.is ∙ ap some e;
        mappable = rw e at w.mappable;
        volume = rw e at w.volume ∙ sym (d.volumes i h);
        leb = rw e at w.leb ∙ sym (d.lnums i h);
      }

  -- the words of a copy of a user or layout LEB
  pub has_words : (c : Copy) → copies (views_of g image) i ≡ some c → is_mappable c.header.volume ≡ true
      → (volume_word map i ≡ c.header.volume) × (lnum_word map i ≡ c.header.lnum)
  has_words c e m = let w = words_of i (views_of g image i).vid c e m in (d.volumes i h ∙ w.0, d.lnums i h ∙ w.1)

-- ---- repeats

pub same_true : (map : List ℕ) (i j : ℕ) → same_leb map i j ≡ true
    → (volume_word map i ≡ volume_word map j) × (lnum_word map i ≡ lnum_word map j)
same_true map i j e =
    let v = eqb (volume_word map i) (volume_word map j) in
    let l = eqb (lnum_word map i) (lnum_word map j) in (
      eqb-true (volume_word map i) (volume_word map j) (and_left v l e),
      eqb-true (lnum_word map i) (lnum_word map j) (and_right v l e),
    )

pub true_same : (map : List ℕ) (i j : ℕ) → volume_word map i ≡ volume_word map j → lnum_word map i ≡ lnum_word map j
    → same_leb map i j ≡ true
true_same map i j p q = rw (eq-eqb (volume_word map i) (volume_word map j) p) (eq-eqb (lnum_word map i) (lnum_word map j) q)

module _ {g : Geometry} {image : List ℕ} {n : ℕ} {map : List ℕ} (d : Keyed g image n map) (i j : ℕ) (h : i < n)
    (k : j < n) where
  abbrev cs : ℕ → Option Copy
  cs = copies (views_of g image)

  pub repeat_words : repeats (cs i) (cs j) ≡ true → (Holds map i) × (same_leb map i j ≡ true)
  repeat_words e =
      by_option (cs i) (λ p. absurd (false≢true (rw p at e)))
      (λ c p. by_option (cs j) (λ q. absurd (false≢true (rw (p, q) at e)))
      (λ x q. let t = eqb c.header.sequence x.header.sequence in
      let l = eqb c.header.lnum x.header.lnum in
      let v = eqb c.header.volume x.header.volume in
      let m = is_mappable c.header.volume in
      let f : m && (v && (l && t)) ≡ true = rw (p, q) at e in
      let r = and_right m (v && (l && t)) f in
      let mc = and_left m (v && (l && t)) f in
      let ev = eqb-true c.header.volume x.header.volume (and_left v (l && t) r) in
      let el = eqb-true c.header.lnum x.header.lnum (and_left l t (and_right v (l && t) r)) in
      let a = has_words d i h c p mc in
      let b = has_words d j k x q (rw ev at mc) in (
        λ (z : volume_word map i ≡ no_word). mappable_word c.header.volume mc (sym a.0 ∙ z),
        true_same map i j (a.0 ∙ ev ∙ sym b.0) (a.1 ∙ el ∙ sym b.1),
      )))

  pub repeat_sequence : Holds map i → same_leb map i j ≡ true
      → repeats (cs i) (cs j) ≡ eqb (sequence_at g image i) (sequence_at g image j)
  unfolding copy_of
  repeat_sequence z s =
      let e = same_true map i j s in
      let a = held d i h z in
      let b = held d j k (λ (y : volume_word map j ≡ no_word). z (e.0 ∙ y)) in
      rw (
        a.is,
        b.is,
        a.mappable,
        eq-eqb (copy_at g image i).header.volume (copy_at g image j).header.volume
            (a.volume ∙ e.0 ∙ sym b.volume),
        eq-eqb (copy_at g image i).header.lnum (copy_at g image j).header.lnum (a.leb ∙ e.1 ∙ sym b.leb),
      )

  -- what is told from words and sequences is what the definition says of the copies
  repeats_at_lem : repeats_at g image map i j ≡ repeats (cs i) (cs j)
  repeats_at_lem =
      by_test (eqb (volume_word map i) no_word)
      (λ p. rw p (sym (not_so (repeats (cs i) (cs j)) (λ e. (repeat_words e).0 (eqb-true (volume_word map i) no_word p)))))
      (λ p. by_test (same_leb map i j)
      (λ q. rw (p, q) (sym (repeat_sequence (eqb-false (volume_word map i) no_word p) q)))
      (λ q. rw (p, q) (sym (not_so (repeats (cs i) (cs j)) (λ e. true≢false (sym (repeat_words e).1 ∙ q))))))

  pub repeats_told : {t b : Bool} → t ≡ repeats_at g image map i j → t ≡ b → repeats (cs i) (cs j) ≡ b
  repeats_told e q = sym repeats_at_lem ∙ sym e ∙ q
