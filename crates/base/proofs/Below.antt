-- Laws of the tests, sums and first hits below n. Assumes nothing.
use mathlib.Core.Path.{◌≡◌, refl, sym, ◌∙◌, ap, subst}
use mathlib.Core.Logic.{◌≢◌, ◌⊎◌, inl, inr, ⊎_elim}
use mathlib.Core.Bool.{Bool, true, false}
use mathlib.Core.Option.{Option, none, some}
use Prim.Native.Nat.{ℕ, zero, suc, ◌+◌, ◌≤◌, ◌<◌}
use native.Mathlib.Numerals.{add-one}
use native.Mathlib.Omega.{arith}
use borrow.Author.Tests.{ltb-true, ltb-false, eqb-true, eqb-false, eq-eqb, ne_eqb, lt-ltb, le-ltb}
use lib.Dec.{ltb, eqb}
use Rattle.base.specs.Below.{all_below, any_below, sum_below, unless_zero, first_nonzero, numbered, first_below}
use Rattle.base.proofs.Answers.{clash, by_test, by_option, not_so, and_left, and_right, and_intro, or_left}
use Rattle.base.proofs.Answers.{or_right, or_intro, or_true_cases, none_some, or_else_none, or_else_some}

-- ---- numbers in order

pub lt_or_le : (a b : ℕ) → (a < b) ⊎ (b ≤ a)
lt_or_le a b = by_test (ltb a b) (λ q. inl (ltb-true a b q)) (λ q. inr (ltb-false a b q))

pub eq_or_ne : (i j : ℕ) → (i ≡ j) ⊎ (i ≢ j)
eq_or_ne i j = by_test (eqb i j) (λ q. inl (eqb-true i j q)) (λ q. inr (eqb-false i j q))

-- a number below suc n is below n or is n
pub below_suc : (n i : ℕ) → i < suc n → (i < n) ⊎ (i ≡ n)
below_suc n i h = ⊎_elim inl (λ (k : n ≤ i). inr (omega arith)) (lt_or_le i n)

-- tests against 0
pub above_zero : (a : ℕ) → (a ≡ 0 → ⊥) → ltb 0 a ≡ true
above_zero a n = lt-ltb 0 a (omega arith)

pub not_above : (a : ℕ) → a ≡ 0 → ltb 0 a ≡ false
not_above a e = le-ltb 0 a (omega arith)

-- a fact of every number below suc n, or n + 1: of those below n, and of n
pub step_below : (P : ℕ → Type 0) (n : ℕ) → ((i : ℕ) → i < n → P i) → P n → (i : ℕ) → i < suc n → P i
step_below P n h z i k = ⊎_elim (λ l. h i l) (λ q. subst P (sym q) z) (below_suc n i k)

pub one_more : (P : ℕ → Type 0) (n : ℕ) → ((i : ℕ) → i < n → P i) → P n → (i : ℕ) → i < n + 1 → P i
one_more P n h z i k = step_below P n h z i (omega arith)

pub all_at : (n : ℕ) (p : ℕ → Bool) → all_below n p ≡ true → (i : ℕ) → i < n → p i ≡ true
all_at zero p e i h = absurd (omega arith)
all_at (suc n) p e i h =
    step_below (λ i. p i ≡ true) n (all_at n p (and_left (all_below n p) (p n) e)) (and_right (all_below n p) (p n) e) i h

pub all_intro : (n : ℕ) (p : ℕ → Bool) → ((i : ℕ) → i < n → p i ≡ true) → all_below n p ≡ true
all_intro zero p h = refl
all_intro (suc n) p h = and_intro (all_below n p) (p n) (all_intro n p (λ i k. h i (omega arith))) (h n (omega arith))

pub all_cong : (n : ℕ) (p q : ℕ → Bool) → ((i : ℕ) → i < n → p i ≡ q i) → all_below n p ≡ all_below n q
all_cong zero p q h = refl
all_cong (suc n) p q h = rw (all_cong n p q (λ i k. h i (omega arith)), h n (omega arith))

-- a test that fails at one number; and one number more
pub all_fails : (n : ℕ) (p : ℕ → Bool) (i : ℕ) → i < n → p i ≡ false → all_below n p ≡ false
all_fails n p i h e = not_so (all_below n p) (λ q. clash e (all_at n p q i h))

pub all_more : (p : ℕ → Bool) (i : ℕ) → all_below i p ≡ true → p i ≡ true → all_below (i + 1) p ≡ true
all_more p i e h = rw (add-one, e, h)

pub none_at : (n : ℕ) (p : ℕ → Bool) → any_below n p ≡ false → (i : ℕ) → i < n → p i ≡ false
none_at zero p e i h = absurd (omega arith)
none_at (suc n) p e i h =
    step_below (λ i. p i ≡ false) n (none_at n p (or_left (any_below n p) (p n) e)) (or_right (any_below n p) (p n) e) i h

pub none_intro : (n : ℕ) (p : ℕ → Bool) → ((i : ℕ) → i < n → p i ≡ false) → any_below n p ≡ false
none_intro zero p h = refl
none_intro (suc n) p h = or_intro (any_below n p) (p n) (none_intro n p (λ i k. h i (omega arith))) (h n (omega arith))

pub any_intro : (n : ℕ) (p : ℕ → Bool) (i : ℕ) → i < n → p i ≡ true → any_below n p ≡ true
any_intro n p i h e = by_test (any_below n p) (λ q. q) (λ q. clash (none_at n p q i h) e)

pub any_hit : (n : ℕ) (p : ℕ → Bool) → any_below n p ≡ true → (i : ℕ) × (i < n) × (p i ≡ true)
any_hit zero p e = clash refl e
any_hit (suc n) p e =
    ⊎_elim
    (λ q. let r = any_hit n p q in (r.0, omega (arith, r.1), r.2))
    (λ q. (n, omega arith, q))
    (or_true_cases (any_below n p) (p n) e)

-- one number more
pub any_more : (p : ℕ → Bool) (i : ℕ) → any_below i p ≡ false → p i ≡ false → any_below (i + 1) p ≡ false
any_more p i e h = rw (add-one, e, h)

pub any_cong : (n : ℕ) (p q : ℕ → Bool) → ((i : ℕ) → i < n → p i ≡ q i) → any_below n p ≡ any_below n q
any_cong zero p q h = refl
any_cong (suc n) p q h = rw (any_cong n p q (λ i k. h i (omega arith)), h n (omega arith))

-- ---- the first that is not zero

pub zero_next : (x y : ℕ) → x ≡ 0 → unless_zero x y ≡ y
zero_next x y e = rw (eq-eqb x 0 e)

pub nonzero_stays : (x y : ℕ) → x ≢ 0 → unless_zero x y ≡ x
nonzero_stays x y ne = rw (ne_eqb x 0 ne)

module _ (f : ℕ → ℕ) where
  -- it is one of them
  pub nonzero_hit : (n : ℕ) → first_nonzero n f ≢ 0 → (i : ℕ) × (i < n) × (f i ≡ first_nonzero n f)
  nonzero_hit zero ne = absurd (ne refl)
  nonzero_hit (suc n) ne =
      by_test (eqb (first_nonzero n f) 0) (λ q. rw q (n, omega arith, refl))
      (λ q. rw q (let r = nonzero_hit n (eqb-false _ 0 q) in (r.0, omega (arith, r.1), r.2)))

  -- where there is none, all are zero
  pub zero_at : (n : ℕ) → first_nonzero n f ≡ 0 → (i : ℕ) → i < n → f i ≡ 0
  zero_at zero e i h = absurd (omega arith)
  zero_at (suc n) e i h =
      by_test (eqb (first_nonzero n f) 0)
      (λ q. step_below (λ i. f i ≡ 0) n (zero_at n (eqb-true _ 0 q)) (rw q at e) i h)
      (λ q. absurd (eqb-false _ 0 q (rw q at e)))

  -- what is found stays found
  pub nonzero_keeps : (n k : ℕ) → first_nonzero k f ≢ 0 → k ≤ n → first_nonzero n f ≡ first_nonzero k f
  nonzero_keeps zero k ne h = let z : k ≡ 0 = omega arith in rw z
  nonzero_keeps (suc n) k ne h =
      ⊎_elim
      (λ (l : k < suc n). rw (nonzero_keeps n k ne (omega arith)) (nonzero_stays _ (f n) ne))
      (λ (q : k ≡ suc n). rw q)
      (below_suc (suc n) k (omega arith))

  -- what holds of zero and of all of them holds of it
  pub nonzero_all : (P : ℕ → Type 0) (n : ℕ) → P 0 → ((i : ℕ) → i < n → P (f i)) → P (first_nonzero n f)
  nonzero_all P zero z all = z
  nonzero_all P (suc n) z all =
      by_test (eqb (first_nonzero n f) 0) (λ q. rw q (all n (omega arith)))
      (λ q. rw q (nonzero_all P n z (λ i k. all i (omega arith))))

  -- it is the one at the lowest number where it is not zero
  pub nonzero_first : (n i : ℕ) → i < n → f i ≢ 0 → ((j : ℕ) → j < i → f j ≡ 0) → first_nonzero n f ≡ f i
  nonzero_first n i h ne below =
      let e : first_nonzero (suc i) f ≡ f i = zero_next _ (f i) (nonzero_all (λ x. x ≡ 0) i refl below) in
      nonzero_keeps n (suc i) (λ z. ne (sym e ∙ z)) h ∙ e

  -- where all are one number, it is that
  pub nonzero_same : (n s : ℕ) → 0 < n → ((i : ℕ) → i < n → f i ≡ s) → first_nonzero n f ≡ s
  nonzero_same n s h all =
      ⊎_elim (λ (z : first_nonzero n f ≡ 0). z ∙ sym (zero_at n z 0 h) ∙ all 0 h)
      (λ (ne : first_nonzero n f ≢ 0). let r = nonzero_hit n ne in sym r.2 ∙ all r.0 r.1)
      (eq_or_ne (first_nonzero n f) 0)

module _ {A : Type 0} where
  un_numbered : (n : ℕ) (o : Option A) → numbered n o ≡ none → o ≡ none
  un_numbered n none q = refl
  un_numbered n (some a) q = cc

  pub first_none_at : (n : ℕ) (f : ℕ → Option A) → first_below n f ≡ none → (i : ℕ) → i < n → f i ≡ none
  first_none_at zero f e i h = absurd (omega arith)
  first_none_at (suc n) f e i h =
      let b : (first_below n f ≡ none) × (numbered n (f n) ≡ none) = or_else_none (first_below n f) (numbered n (f n)) e in
      step_below (λ i. f i ≡ none) n (first_none_at n f b.0) (un_numbered n (f n) b.1) i h

  pub first_none : (n : ℕ) (f : ℕ → Option A) → ((i : ℕ) → i < n → f i ≡ none) → first_below n f ≡ none
  first_none zero f h = refl
  first_none (suc n) f h = rw (first_none n f (λ i k. h i (omega arith)), h n (omega arith))

  pub first_cong : (n : ℕ) (f g : ℕ → Option A) → ((i : ℕ) → i < n → f i ≡ g i) → first_below n f ≡ first_below n g
  first_cong zero f g h = refl
  first_cong (suc n) f g h = rw (first_cong n f g (λ i k. h i (omega arith)), h n (omega arith))

  -- the only answer is the first
  pub first_only : (n : ℕ) (f : ℕ → Option A) (i : ℕ) (a : A) → i < n → f i ≡ some a
      → ((j : ℕ) → j < n → j ≢ i → f j ≡ none) → first_below n f ≡ some (i, a)
  first_only zero f i a h e u = absurd (omega arith)
  first_only (suc n) f i a h e u =
      ⊎_elim
      (λ k. rw (first_only n f i a k e (λ j l. u j (omega arith))))
      (λ q. rw (first_none n f (λ j l. u j (omega arith) (omega arith)), ← q, e))
      (below_suc n i h)

  numbered_some : (n : ℕ) (o : Option A) (i : ℕ) (a : A) → numbered n o ≡ some (i, a) → (n ≡ i) × (o ≡ some a)
  numbered_some n none i a e = (cc, cc)
  numbered_some n (some b) i a e =
      let p : ◌≡◌ {A = ℕ × A} (n, b) (i, a) = cc in
      (ap (λ x. x.0) p, ap (λ x. some x.1) p)

  pub first_hit : (n : ℕ) (f : ℕ → Option A) (i : ℕ) (a : A) → first_below n f ≡ some (i, a) → (i < n) × (f i ≡ some a)
  first_hit zero f i a e = absurd (let z : ◌≡◌ {A = ℕ} 0 1 = cc in omega arith)
  first_hit (suc n) f i a e =
      ⊎_elim
      (λ p. let h = first_hit n f i a p in (omega (arith, h.0), h.1))
      (λ p. let q = numbered_some n (f n) i a p in (omega (arith, q.0), rw (← q.0) q.1))
      (or_else_some (first_below n f) (numbered n (f n)) (i, a) e)

  -- what is found stays found
  pub first_keeps : (f : ℕ → Option A) (n k : ℕ) (x : ℕ × A) → first_below k f ≡ some x → k ≤ n → first_below n f ≡ some x
  first_keeps f zero k x e h = let z : k ≡ 0 = omega arith in rw z at e
  first_keeps f (suc n) k x e h =
      ⊎_elim
      (λ (l : k < suc n). rw (first_keeps f n k x e (omega arith)))
      (λ (q : k ≡ suc n). rw q at e)
      (below_suc (suc n) k (omega arith))

  pub first_is : (f : ℕ → Option A) (n i : ℕ) (a : A) → i < n → first_below i f ≡ none → f i ≡ some a
      → first_below n f ≡ some (i, a)
  first_is f n i a h e q = first_keeps f n (suc i) (i, a) (rw (e, q)) h

  pub first_lowest : (n : ℕ) (f : ℕ → Option A) (i : ℕ) (a : A) → i < n → f i ≡ some a → ((j : ℕ) → j < i → f j ≡ none)
      → first_below n f ≡ some (i, a)
  first_lowest n f i a h e l = first_is f n i a h (first_none i f l) e

  -- where there is an answer, there is a first
  pub first_some : (n : ℕ) (f : ℕ → Option A) (i : ℕ) (a : A) → i < n → f i ≡ some a
      → (x : ℕ × A) × (first_below n f ≡ some x)
  first_some n f i a h e =
      by_option (first_below n f) (λ q. none_some (sym (first_none_at n f q i h) ∙ e)) (λ x q. (x, q))

  -- nothing stands before the first
  pub first_before : (n : ℕ) (f : ℕ → Option A) (x : ℕ × A) → first_below n f ≡ some x → (j : ℕ) → j < x.0 → f j ≡ none
  first_before n f x e j h =
      by_option (first_below (suc j) f) (λ q. first_none_at (suc j) f q j (omega arith))
      (λ y q.
      let k = first_hit n f x.0 x.1 e in
      let z : some y ≡ some x = sym (first_keeps f n (suc j) y q (omega (arith, k.0))) ∙ e in
      let w : y ≡ x = cc in
      absurd (omega (arith, (first_hit (suc j) f y.0 y.1 q).0, ap (λ (u : ℕ × A). u.0) w)))

-- ---- sums

pub sum_grows : (f : ℕ → ℕ) (j k : ℕ) → j ≤ k → sum_below j f ≤ sum_below k f
sum_grows f j zero h = let z : j ≡ 0 = omega arith in rw z (omega arith)
sum_grows f j (suc k) h =
    ⊎_elim
    (λ (l : j < suc k). omega (arith, sum_grows f j k (omega arith)))
    (λ (e : suc k ≤ j). let z : j ≡ suc k = omega arith in rw z (omega arith))
    (lt_or_le j (suc k))

-- term by term
pub sum_le : (n : ℕ) (f g : ℕ → ℕ) → ((i : ℕ) → i < n → f i ≤ g i) → sum_below n f ≤ sum_below n g
sum_le zero f g h = omega arith
sum_le (suc n) f g h = omega (arith, sum_le n f g (λ i k. h i (omega arith)), h n (omega arith))

-- all terms 0
pub sum_zero : (n : ℕ) (f : ℕ → ℕ) → ((i : ℕ) → i < n → f i ≡ 0) → sum_below n f ≡ 0
sum_zero zero f h = refl
sum_zero (suc n) f h = omega (arith, sum_zero n f (λ i k. h i (omega arith)), h n (omega arith))
