-- The mean "lies between the lowest and the highest good counter", and is 0 where there is none. Assumes nothing.
use mathlib.Core.Path.{◌≡◌, refl}
use mathlib.Core.Logic.{◌⊎◌, inl, inr, ⊎_elim}
use mathlib.Core.Bool.{cond}
use mathlib.Core.Option.{Option, none, some}
use Prim.Native.Nat.{ℕ, zero, suc, ◌+◌, ◌*◌, ◌≤◌, ◌<◌}
use native.Mathlib.Nat.{mul-add, mul_comm, le-div_iff_mul-le, div-le_of_le-mul, div-zero}
use native.Mathlib.Omega.{arith}
use Rattle.base.specs.Below.{count_below, sum_below}
use Rattle.base.proofs.Below.{below_suc, lt_or_le}
use Rattle.header.specs.declared.EcHeader.{EcHeader}
use Rattle.report.specs.View.{Medium, ecs}
use Rattle.report.specs.Report.{counter_or, has_counter, mean_of}
use Rattle.report.proofs.First.{First, first}

le_or : (a b : ℕ) → (a ≤ b) ⊎ (b ≤ a)
le_or a b = ⊎_elim (λ (h : a < b). inl (omega arith)) (λ (h : b ≤ a). inr h) (lt_or_le a b)

module _ (f : ℕ → Option EcHeader) where
  -- the sum of the good counters below n, and their number
  abbrev sum : ℕ → ℕ
  sum n = sum_below n (λ i. counter_or 0 (f i))

  abbrev number : ℕ → ℕ
  number n = count_below n (λ i. has_counter (f i))

  -- every good counter below n is so
  abbrev Each : (ℕ → Type 0) → ℕ → Type 0
  Each P n = (i : ℕ) → i < n → (h : EcHeader) → f i ≡ some h → P h.counter

  number_none : (n : ℕ) → ((i : ℕ) → i < n → f i ≡ none) → number n ≡ 0
  number_none zero h = refl
  number_none (suc n) h = rw (number_none n (λ i k. h i (omega arith)), h n (omega arith))

  number_some : (n i : ℕ) (h : EcHeader) → i < n → f i ≡ some h → 0 < number n
  number_some zero i h k e = absurd (omega arith)
  number_some (suc n) i h k e =
      ⊎_elim (λ (l : i < n). let p = number_some n i h l e in omega arith) (λ (q : i ≡ n). rw (← q, e) (omega arith))
      (below_suc n i k)

  at_least : (m n : ℕ) → Each (λ c. m ≤ c) n → m * number n ≤ sum n
  at_least m zero h = omega arith
  at_least m (suc n) h = go (f n) refl (at_least m n (λ i k. h i (omega arith)))
    where
      go : (x : Option EcHeader) → f n ≡ x → m * number n ≤ sum n
          → m * (number n + cond (has_counter x) 1 0) ≤ sum n + counter_or 0 x
      go none e l = rw mul-add (omega arith)
      go (some x) e l = rw mul-add (omega (arith, h n (omega arith) x e))

  at_most : (m n : ℕ) → Each (λ c. c ≤ m) n → sum n ≤ m * number n
  at_most m zero h = omega arith
  at_most m (suc n) h = go (f n) refl (at_most m n (λ i k. h i (omega arith)))
    where
      go : (x : Option EcHeader) → f n ≡ x → sum n ≤ m * number n
          → sum n + counter_or 0 x ≤ m * (number n + cond (has_counter x) 1 0)
      go none e l = rw mul-add (omega arith)
      go (some x) e l = rw mul-add (omega (arith, h n (omega arith) x e))

module _ (m : Medium) where
  -- the good EC headers
  abbrev good : ℕ → Option EcHeader
  good = ecs m.views

  pub mean_none : ((i : ℕ) → i < m.count → good i ≡ none) → mean_of m ≡ 0
  unfolding mean_of
  mean_none h = rw (number_none good m.count h) (div-zero _)

  -- the lowest good counter, and the highest
  pub mean_between : (i : ℕ) (h : EcHeader) → i < m.count → good i ≡ some h
      → (a : First good (λ x y. x.counter ≤ y.counter) m.count) ×
      (b : First good (λ x y. y.counter ≤ x.counter) m.count)
      × (a.value.counter ≤ mean_of m) × (mean_of m ≤ b.value.counter)
  unfolding mean_of
  mean_between i h k e =
      let a = first good (λ x y. x.counter ≤ y.counter) (λ x y. le_or x.counter y.counter)
      (λ x y z p q. omega arith) m.count i h k e in
      let b = first good (λ x y. y.counter ≤ x.counter) (λ x y. le_or y.counter x.counter)
      (λ x y z p q. omega arith) m.count i h k e in
      let p = number_some good m.count i h k e in (
        a,
        b,
        (le-div_iff_mul-le p).1 (at_least good a.value.counter m.count a.leads),
        div-le_of_le-mul _ (rw mul_comm (at_most good b.value.counter m.count b.leads)),
      )
