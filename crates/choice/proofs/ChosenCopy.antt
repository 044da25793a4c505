-- The copy that is chosen: the first sound one from the highest sequence down, or the lowest. Assumes nothing.
use mathlib.Core.Path.{◌≡◌, refl, sym, ap, ◌∙◌}
use mathlib.Core.Logic.{◌≢◌, ◌⊎◌, inl, inr, ⊎_elim}
use mathlib.Core.Bool.{true, false}
use mathlib.Core.Option.{Option, none, some}
use mathlib.Core.List.{List}
use Prim.Native.Nat.{ℕ, ◌-◌, ◌≤◌, ◌<◌}
use native.Mathlib.Omega.{arith}
use borrow.Author.Tests.{lt-ltb, ltb-true, ltb-false, leb-true, leb-false, eqb-false}
use lib.Dec.{leb}
use Rattle.std.specs.declared.option.Option as rust
use Rattle.std.specs.Prelude.{Some, None, IfSome, MatchOption}
use Rattle.base.proofs.Answers.{by_test, not_so, clash}
use Rattle.base.proofs.Below.{lt_or_le, eq_or_ne, none_intro, any_intro, first_only}
use Rattle.geometry.specs.declared.Geometry.{Geometry}
use Rattle.words.specs.Words.{no_word, volume_word, lnum_word}
use Rattle.report.specs.View.{Copy, copy_of, views_of, copies}
use Rattle.report.specs.Choice.{sound, of_key, beats, unbeaten, pick, chosen}
use Rattle.report.proofs.Facts.{none9_at}
use Rattle.report.proofs.Choice.{beats_irreflexive, beats_trans, of_key_hit, of_key_some}
use Rattle.copies.specs.InPlace.{copy_at}
use Rattle.copies.proofs.Copies.{copy_is}
use Rattle.choice.specs.Keyed.{Holds, Choosing, sequence_at, same_leb, lower_than, higher_of, Highest}
use Rattle.choice.proofs.Words.{Held, held, has_words, same_true, true_same, repeat_sequence}
use Rattle.choice.specs.Chain.{bucket_at}
use Rattle.choice.proofs.Chains.{Along, same_bucket, walk_on, walk_end}

-- ---- a copy that beats all others is picked

-- the first beats the second: no sound one is higher, and the first is sound or lower
beats_by : (c d : Copy) → (c.header.sequence < d.header.sequence → sound d ≡ false)
    → (d.header.sequence ≡ c.header.sequence → ⊥)
    → (sound c ≡ true) ⊎ (c.header.sequence ≤ d.header.sequence) → beats (some c) d ≡ true
beats_by c d up ne low =
    let x = c.header.sequence in
    let y = d.header.sequence in
    by_test (sound d)
    (λ q. ⊎_elim (λ (l : x < y). clash (up l) q)
    (λ (l : y ≤ x). by_test (sound c)
    (λ p. rw (q, p) (lt-ltb y x (omega (arith, ne))))
    (λ p. ⊎_elim (λ s. clash p s) (λ h. absurd (ne (omega (arith, h)))) low))
    (lt_or_le x y))
    (λ q. by_test (sound c) (λ p. rw (q, p))
    (λ p. rw (q, p) (⊎_elim (λ s. clash p s) (λ h. lt-ltb x y (omega (arith, h, ne))) low)))

module _ (n : ℕ) (f : ℕ → Option Copy) (i : ℕ) (c : Copy) (h : i < n) (e : f i ≡ some c)
    (best : (j : ℕ) → j < n → j ≢ i → (d : Copy) → f j ≡ some d → beats (some c) d ≡ true) where
  unbeaten_by : (j : ℕ) → j < n → (x : Option Copy) → f j ≡ x → (j ≡ i) ⊎ (j ≢ i) → beats x c ≡ false
  unbeaten_by j k x q (inl p) = let z : x ≡ some c = sym q ∙ ap f p ∙ e in rw z (beats_irreflexive c)
  unbeaten_by j k none q (inr p) = refl
  unbeaten_by j k (some d) q (inr p) =
      not_so (beats (some d) c) (λ r. clash (beats_irreflexive c) (beats_trans c d c (best j k p d q) r))

  beaten : (j : ℕ) → j < n → j ≢ i → (x : Option Copy) → f j ≡ x → unbeaten n f x ≡ none
  beaten j k p none q = refl
  beaten j k p (some d) q = rw (any_intro n (λ (m : ℕ). beats (f m) d) i h (rw e (best j k p d q)))

  pub pick_best : pick n f ≡ some (i, c)
  unfolding pick
  pick_best =
      first_only n (λ (j : ℕ). unbeaten n f (f j)) i c h
      (rw (e, none_intro n (λ (j : ℕ). beats (f j) c) (λ j k. unbeaten_by j k (f j) refl (eq_or_ne j i))))
      (λ j k p. beaten j k p (f j) refl)

-- ---- the highest sequence up to a bound

module _ (g : Geometry) (image : List ℕ) (k : ℕ) where
  lower_most : (r : rust.Option ℕ) → lower_than g image k r ≡ true
      → IfSome r (λ b. sequence_at g image b ≤ sequence_at g image k)
  lower_most None e = tt
  lower_most (Some b) e = let z = ltb-true (sequence_at g image b) (sequence_at g image k) e in omega arith

  not_lower : (r : rust.Option ℕ) → lower_than g image k r ≡ false
      → MatchOption r ⊥ (λ b. sequence_at g image k ≤ sequence_at g image b)
  not_lower None e = cc
  not_lower (Some b) e = ltb-false (sequence_at g image b) (sequence_at g image k) e

  between : {x : ℕ} (r : rust.Option ℕ) → MatchOption r ⊥ (λ b. x ≤ sequence_at g image b)
      → IfSome r (λ b. sequence_at g image b ≤ sequence_at g image k) → x ≤ sequence_at g image k
  between None p q = absurd p
  between (Some b) p q = omega arith

module _ {g : Geometry} {image : List ℕ} {n : ℕ} {map : List ℕ} {i most : ℕ} where
  pub highest_none : Highest g image n map i most n None
  highest_none = record { below = tt; is = tt; leads = λ j h k. absurd (omega arith) }

  module _ (c : Holds map i) {at k : ℕ} {best : rust.Option ℕ} (o : Along map i n at k)
      (b : Highest g image n map i most at best) where
    abbrev Leads : rust.Option ℕ → ℕ → Type 0
    Leads r j =
        same_leb map i j ≡ true → sequence_at g image j ≤ most
        → MatchOption r ⊥ (λ b. sequence_at g image j ≤ sequence_at g image b)

    apart_leads : (r : rust.Option ℕ) (x : ℕ) → x < n → (Holds map i → bucket_at map x ≡ bucket_at map i → ⊥)
        → Leads r x
    apart_leads r x h f s l = absurd (f c (same_bucket map i x c s))

    -- the chain ends
    pub highest_all : at ≤ k → Highest g image n map i most 0 best
    highest_all h =
        record { below = b.below; is = b.is; leads = λ j _ l. walk_end o (Leads best) b.leads (apart_leads best) h j l }

    module _ (h : k < at) where
      stays : Leads best k → Highest g image n map i most k best
      stays l = record { below = b.below; is = b.is; leads = walk_on o (Leads best) b.leads (apart_leads best) l }

      takes : same_leb map i k ≡ true → sequence_at g image k ≤ most
          → IfSome best (λ b. sequence_at g image b ≤ sequence_at g image k) → Highest g image n map i most k (Some k)
      takes s l up =
          let r = o.range in
          record {
            below = omega arith;
            is = (s, l);
            leads =
                walk_on o (Leads (Some k)) (λ j p r t m. between g image k best (b.leads j p r t m) up)
                (apart_leads (Some k)) (λ _ _. omega arith);
          }

      -- one PEB of the chain more
      pub highest_more : Highest g image n map i most k (higher_of g image map i most best k)
      highest_more =
          let sk = sequence_at g image k in
          by_test (same_leb map i k)
          (λ p. by_test (leb sk most)
          (λ q. by_test (lower_than g image k best)
          (λ u. rw (p, q, u) (takes p (leb-true sk most q) (lower_most g image k best u)))
          (λ u. rw (p, q, u) (stays (λ _ _. not_lower g image k best u))))
          (λ q. rw (p, q) (stays (λ _ m. absurd (let z = leb-false sk most q in omega arith)))))
          (λ p. rw p (stays (λ s _. clash p s)))

-- ---- the copies of one LEB

-- a copy of PEB i's LEB, above which no copy is sound
pub record NoneAbove (g : Geometry) (image : List ℕ) (n : ℕ) (map : List ℕ) (i at : ℕ) : Type 0 where
  pub below : at < n
  pub same : same_leb map i at ≡ true
  pub above : (k : ℕ) → k < n → same_leb map i k ≡ true → sequence_at g image at < sequence_at g image k
      → sound (copy_at g image k) ≡ false

module _ {g : Geometry} {image : List ℕ} {n : ℕ} {map : List ℕ} {i : ℕ} (v : Choosing g image n map i) where
  abbrev of_leb : ℕ → Option Copy
  of_leb j = of_key (volume_word map i) (lnum_word map i) (copies (views_of g image) j)

  same_held : (j : ℕ) → j < n → same_leb map i j ≡ true → Held g image map j
  same_held j k s = held v.keyed j k (λ (y : volume_word map j ≡ no_word). v.holds ((same_true map i j s).0 ∙ y))

  pub has_copy : (j : ℕ) → j < n → same_leb map i j ≡ true → copies (views_of g image) j ≡ some (copy_at g image j)
  has_copy j k s = (same_held j k s).is

  hit : (j : ℕ) → j < n → same_leb map i j ≡ true → of_leb j ≡ some (copy_at g image j)
  hit j k s =
      let a = same_held j k s in
      let e = same_true map i j s in
      rw a.is (of_key_hit (volume_word map i) (lnum_word map i) (copy_at g image j) (a.volume ∙ sym e.0)
      (a.leb ∙ sym e.1))

  is_same : (j : ℕ) → j < n → (c : Copy) → of_leb j ≡ some c → (same_leb map i j ≡ true) × (c ≡ copy_at g image j)
  is_same j k c e =
      let o = of_key_some (volume_word map i) (lnum_word map i) (copies (views_of g image) j) c e in
      let a = held v.keyed i v.below v.holds in
      let w = has_words v.keyed j k c o.0 (rw (a.volume, ← o.1) at a.mappable) in
      (true_same map i j (sym o.1 ∙ sym w.0) (sym o.2 ∙ sym w.1), copy_is g image j c o.0)

  -- no two copies share a sequence
  apart : (j k : ℕ) → j < n → k < j → same_leb map i j ≡ true → same_leb map i k ≡ true
      → sequence_at g image j ≡ sequence_at g image k → ⊥
  apart j k p q s t =
      let a = same_true map i j s in
      let b = same_true map i k t in
      eqb-false (sequence_at g image j) (sequence_at g image k)
      (sym (repeat_sequence v.keyed j k p (omega arith) (λ (y : volume_word map j ≡ no_word). v.holds (a.0 ∙ y))
      (true_same map j k (sym a.0 ∙ b.0) (sym a.1 ∙ b.1)))
      ∙ none9_at n (copies (views_of g image)) v.no_repeat j k p q)

  distinct : (j k : ℕ) → j < n → k < n → j ≢ k → same_leb map i j ≡ true → same_leb map i k ≡ true
      → sequence_at g image j ≡ sequence_at g image k → ⊥
  distinct j k p q ne s t e =
      ⊎_elim (λ (l : k < j). apart j k p l s t e) (λ (l : j ≤ k). apart k j q (omega (arith, ne)) t s (sym e))
      (lt_or_le k j)

  -- the copy is chosen if it is sound or the lowest
  pub chosen_here : {at : ℕ} → NoneAbove g image n map i at → (sound (copy_at g image at) ≡ true)
      ⊎ ((k : ℕ) → k < n → same_leb map i k ≡ true → sequence_at g image at ≤ sequence_at g image k)
      → chosen n (copies (views_of g image)) (volume_word map i) (lnum_word map i) ≡ some (at, copy_at g image at)
  unfolding chosen copy_of
  chosen_here {at} w low =
      pick_best n of_leb at (copy_at g image at) w.below (hit at w.below w.same)
      (λ j k ne c e. let m = is_same j k c e in
      rw m.1
      (beats_by (copy_at g image at) (copy_at g image j) (w.above j k m.0)
      (distinct j at k w.below ne m.0 w.same)
      (⊎_elim (λ s. inl s) (λ l. inr (l j k m.0)) low)))

  module _ {most : ℕ} (fits : (j : ℕ) → j < n → sequence_at g image j ≤ most) where
    -- a first copy is met
    pub one_met : Highest g image n map i most 0 None → ⊥
    one_met t = t.leads i (omega arith) v.below (true_same map i i refl refl) (fits i v.below)

    -- and it is the highest
    pub highest_met : {at : ℕ} → Highest g image n map i most 0 (Some at) → NoneAbove g image n map i at
    highest_met t = record {
      below = t.below;
      same = t.is.0;
      above = λ k l s o. absurd (let x = t.leads k (omega arith) l s (fits k l) in omega arith);
    }

  -- and then the next lower one
  pub next_met : {at next s : ℕ} → NoneAbove g image n map i at → s ≡ sequence_at g image at → (s ≡ 0 → ⊥)
      → sound (copy_at g image at) ≡ false
      → Highest g image n map i (s - 1) 0 (Some next) → NoneAbove g image n map i next
  next_met {at} {next} {s} w e p u t =
      record {
        below = t.below;
        same = t.is.0;
        above =
            λ k o m x. ⊎_elim (λ (y : k ≡ at). rw y u) (λ (ne : k ≢ at). w.above k o m (over k o m x ne))
            (eq_or_ne k at);
      }
    where
      over : (k : ℕ) → k < n → same_leb map i k ≡ true → sequence_at g image next < sequence_at g image k → k ≢ at
          → sequence_at g image at < sequence_at g image k
      over k o m x ne =
          ⊎_elim (λ (y : s - 1 < sequence_at g image k). omega (arith, distinct k at o w.below ne m w.same, p))
          (λ (y : sequence_at g image k ≤ s - 1). absurd (let z = t.leads k (omega arith) o m y in omega arith))
          (lt_or_le (s - 1) (sequence_at g image k))

  -- a copy with no next lower one is the lowest
  pub lowest : (at : ℕ) {s : ℕ} → s ≡ sequence_at g image at → (s ≡ 0 → ⊥) → Highest g image n map i (s - 1) 0 None
      → (k : ℕ) → k < n → same_leb map i k ≡ true → sequence_at g image at ≤ sequence_at g image k
  lowest at {s} e p t k l m =
      ⊎_elim (λ (y : s - 1 < sequence_at g image k). omega (arith, p))
      (λ (y : sequence_at g image k ≤ s - 1). absurd (t.leads k (omega arith) l m y))
      (lt_or_le (s - 1) (sequence_at g image k))
