-- Tests, sums and first hits over the numbers below n. Each peels the last number. Assumes nothing.
use Rattle.std.specs.Prelude.{ℕ, zero, suc, ◌+◌, max, Bool, true, false, ◌&&◌, ◌||◌, cond, List, [], ◌++◌, eqb}
use Rattle.std.proofs.Math.Option.{Option, none, some}
use Rattle.base.specs.Answers.{or_else}

abbrev pub all_below : ℕ → (ℕ → Bool) → Bool
all_below zero p = true
all_below (suc n) p = all_below n p && p n

abbrev pub any_below : ℕ → (ℕ → Bool) → Bool
any_below zero p = false
any_below (suc n) p = any_below n p || p n

-- how many numbers below n pass the test
abbrev pub count_below : ℕ → (ℕ → Bool) → ℕ
count_below zero p = 0
count_below (suc n) p = count_below n p + cond (p n) 1 0

abbrev pub sum_below : ℕ → (ℕ → ℕ) → ℕ
sum_below zero f = 0
sum_below (suc n) f = sum_below n f + f n

abbrev pub max_below : ℕ → (ℕ → ℕ) → ℕ
max_below zero f = 0
max_below (suc n) f = max (max_below n f) (f n)

-- x, or y if x is zero
abbrev pub unless_zero : ℕ → ℕ → ℕ
unless_zero x y = cond (eqb x 0) y x

-- f at the lowest number below n where it is not zero; zero if there is no such number
abbrev pub first_nonzero : ℕ → (ℕ → ℕ) → ℕ
first_nonzero zero f = 0
first_nonzero (suc n) f = unless_zero (first_nonzero n f) (f n)

module _ {A : Type 0} where
  -- an answer with its number
  abbrev pub numbered : ℕ → Option A → Option (ℕ × A)
  numbered n none = none
  numbered n (some a) = some (n, a)

  -- the answer at the lowest number below n that has one, with that number
  abbrev pub first_below : ℕ → (ℕ → Option A) → Option (ℕ × A)
  first_below zero f = none
  first_below (suc n) f = or_else (first_below n f) (numbered n (f n))

  abbrev pub concat_below : ℕ → (ℕ → List A) → List A
  concat_below zero f = []
  concat_below (suc n) f = concat_below n f ++ f n
