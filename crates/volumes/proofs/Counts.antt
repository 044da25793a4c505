-- How many entries a volume has in the map, and that fewer than u numbers below u pass a test exactly if one does not.
-- Assumes nothing.
use mathlib.Core.Path.{◌≡◌, refl, sym, ap, ◌∙◌}
use mathlib.Core.Logic.{⊎_elim, ◌≢◌}
use mathlib.Core.Bool.{or-true, or-false, Bool, true, false, not, cond}
use mathlib.Core.Option.{Option, none, some}
use mathlib.Core.List.{List, [], ◌∷◌, ◌++◌}
use Prim.Native.Nat.{ℕ, zero, suc, ◌+◌, ◌≤◌, ◌<◌}
use native.Mathlib.Omega.{arith}
use borrow.Author.Tests.{eq-eqb, ne_eqb, lt-ltb, le-ltb}
use lib.Dec.{eqb, ltb}
use lib.ListN.{length, get_or}
use Rattle.std.specs.List.{filter, range_with_len}
use Rattle.base.specs.Below.{any_below, count_below, concat_below}
use Rattle.base.proofs.Below.{lt_or_le, below_suc}
use Rattle.header.specs.Vid.{layout_volume}
use Rattle.base.proofs.Answers.{by_test}
use Rattle.report.specs.Volumes.{Places, record_for, reserved_of, Entry, entry_at, map_up_to}

-- ---- numbers that pass a test

pub count_cong : (n : ℕ) (p q : ℕ → Bool) → ((i : ℕ) → i < n → p i ≡ q i) → count_below n p ≡ count_below n q
count_cong zero p q h = refl
count_cong (suc n) p q h = rw (count_cong n p q (λ i k. h i (omega arith)), h n (omega arith))

one_most : (b : Bool) → cond b 1 0 ≤ 1
one_most true = omega arith
one_most false = omega arith

count_most : (n : ℕ) (p : ℕ → Bool) → count_below n p ≤ n
count_most zero p = omega arith
count_most (suc n) p = omega (arith, count_most n p, one_most (p n))

-- past u none passes
pub count_upto : (u n : ℕ) (p : ℕ → Bool) → u ≤ n → ((i : ℕ) → u ≤ i → i < n → p i ≡ false)
    → count_below n p ≡ count_below u p
count_upto u zero p h z = let e : u ≡ 0 = omega arith in rw e
count_upto u (suc n) p h z =
    ⊎_elim
    (λ (k : u < suc n). rw (z n (omega arith) (omega arith))
    (omega (arith, count_upto u n p (omega arith) (λ i a b. z i a (omega arith)))))
    (λ (k : u ≡ suc n). rw k)
    (below_suc (suc n) u (omega arith))

one_less : (c u : ℕ) → ltb (c + 1) (suc u) ≡ ltb c u
one_less c u =
    ⊎_elim (λ (h : c < u). lt-ltb (c + 1) (suc u) (omega arith) ∙ sym (lt-ltb c u h))
    (λ (h : u ≤ c). le-ltb (c + 1) (suc u) (omega arith) ∙ sym (le-ltb c u h))
    (lt_or_le c u)

pub fewer : (u : ℕ) (p : ℕ → Bool) → ltb (count_below u p) u ≡ any_below u (λ i. not (p i))
fewer zero p = le-ltb 0 0 (omega arith)
fewer (suc u) p =
    by_test (p u) (λ e. rw (e, or-false) (one_less (count_below u p) u ∙ fewer u p))
    (λ e. rw (e, or-true) (lt-ltb (count_below u p + 0) (suc u) (omega (arith, count_most u p))))

count_front : (n : ℕ) (p : ℕ → Bool) → count_below (suc n) p ≡ cond (p 0) 1 0 + count_below n (λ i. p (suc i))
count_front zero p = omega arith
count_front (suc n) p = omega (arith, count_front n p)

-- the same in a list of numbers from a on
pub filter_below : (n a : ℕ) (p q : ℕ → Bool) → ((i : ℕ) → q i ≡ p (a + i))
    → length (filter p (range_with_len a n)) ≡ count_below n q
filter_below zero a p q e = refl
filter_below (suc n) a p q e =
    let h = filter_below n (a + 1) p (λ i. q (suc i)) (λ i. e (suc i) ∙ ap p (omega arith)) in
    let z : q 0 ≡ p a = e 0 ∙ ap p (omega arith) in
    let f : count_below (suc n) q ≡ cond (p a) 1 0 + count_below n (λ i. q (suc i)) = rw (← z) (count_front n q) in
    by_test (p a) (λ b. rw b (omega (arith, h, rw b at f))) (λ b. rw b (omega (arith, h, rw b at f)))

-- ---- entries of one volume

unfoldable count_of : ℕ → List Entry → ℕ
count_of v [] = 0
count_of v (e ∷ es) = cond (eqb e.volume v) 1 0 + count_of v es

count_list : (v : ℕ) (d : Entry) (es : List Entry)
    → count_below (length es) (λ k. eqb (get_or es k d).volume v) ≡ count_of v es
unfolding count_of
count_list v d [] = refl
count_list v d (e ∷ es) = count_front (length es) (λ k. eqb (get_or (e ∷ es) k d).volume v) ∙ rw (count_list v d es)

count_append : (v : ℕ) (a b : List Entry) → count_of v (a ++ b) ≡ count_of v a + count_of v b
unfolding count_of
count_append v [] b = omega arith
count_append v (e ∷ a) b = omega (arith, count_append v a b)

count_none : (v n : ℕ) (f : ℕ → List Entry) → ((i : ℕ) → i < n → count_of v (f i) ≡ 0) → count_of v (concat_below n f) ≡ 0
unfolding count_of
count_none v zero f z = refl
count_none v (suc n) f z =
    count_append v (concat_below n f) (f n)
    ∙ omega (arith, count_none v n f (λ i k. z i (omega arith)), z n (omega arith))

count_only : (v n : ℕ) (f : ℕ → List Entry) → v < n → ((i : ℕ) → i ≢ v → count_of v (f i) ≡ 0)
    → count_of v (concat_below n f) ≡ count_of v (f v)
count_only v zero f h z = absurd (omega arith)
count_only v (suc n) f h z =
    count_append v (concat_below n f) (f n)
    ∙ ⊎_elim (λ (k : v < n). omega (arith, count_only v n f k z, z n (λ q. absurd (omega (arith, q)))))
    (λ (k : v ≡ n). rw (← k) (omega (arith, count_none v v f (λ i l. z i (λ q. absurd (omega (arith, q)))))))
    (below_suc n v h)

-- is there one?
abbrev pub has : Option ℕ → Bool
has none = false
has (some p) = true

one_entry : (v l : ℕ) (o : Option ℕ) → count_of v (entry_at v l o) ≡ cond (has o) 1 0
unfolding count_of
one_entry v l none = refl
one_entry v l (some p) = rw (eq-eqb v v refl)

no_entry : (v w l : ℕ) (o : Option ℕ) → w ≢ v → count_of v (entry_at w l o) ≡ 0
unfolding count_of
no_entry v w l none n = refl
no_entry v w l (some p) n = rw (ne_eqb w v n)

module _ (ps : Places) (v : ℕ) where
  abbrev entries_of : ℕ → ℕ → List Entry
  entries_of w r = concat_below r (λ l. entry_at w l (ps w l))

  of_this : (r : ℕ) → count_of v (entries_of v r) ≡ count_below r (λ l. has (ps v l))
  unfolding count_of
  of_this zero = refl
  of_this (suc r) = count_append v (entries_of v r) (entry_at v r (ps v r)) ∙ rw (of_this r, one_entry v r (ps v r))

  of_other : (w r : ℕ) → w ≢ v → count_of v (entries_of w r) ≡ 0
  of_other w r n = count_none v r (λ l. entry_at w l (ps w l)) (λ l _. no_entry v w l (ps w l) n)

  -- a user volume has as many entries as LEBs below reserved that have a place
  pub count_map : (k m : ℕ) (t : List ℕ) (d : Entry) → v < k → k ≤ layout_volume → let es = map_up_to k m t ps in
      count_below (length es) (λ i. eqb (get_or es i d).volume v)
      ≡ count_below (reserved_of (record_for t v)) (λ l. has (ps v l))
  unfolding map_up_to
  count_map k m t d h q =
      let f : ℕ → List Entry = λ w. entries_of w (reserved_of (record_for t w)) in
      let a = count_only v k f h (λ w n. of_other w (reserved_of (record_for t w)) n) in
      let b = of_other layout_volume m (λ z. absurd (omega (arith, z))) in
      let c = count_append v (concat_below k f) (entries_of layout_volume m) in
      count_list v d (concat_below k f ++ entries_of layout_volume m) ∙ c
      ∙ omega (arith, a, b, of_this (reserved_of (record_for t v)))
