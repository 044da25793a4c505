-- The highest of the numbers below n. Assumes nothing.
use Prim.Native.Nat.{ℕ, zero, suc, ◌≤◌, ◌<◌, max}
use native.Mathlib.Omega.{arith}
use Rattle.base.specs.Below.{max_below}
use Rattle.base.proofs.Below.{step_below}

pub max_at : (n : ℕ) (f : ℕ → ℕ) (i : ℕ) → i < n → f i ≤ max_below n f
max_at zero f i h = absurd (omega arith)
max_at (suc n) f i h =
    step_below (λ i. f i ≤ max (max_below n f) (f n)) n (λ j k. let r = max_at n f j k in omega arith) (omega arith) i h

pub max_most : (n : ℕ) (f : ℕ → ℕ) (m : ℕ) → ((i : ℕ) → i < n → f i ≤ m) → max_below n f ≤ m
max_most zero f m h = omega arith
max_most (suc n) f m h = let a = max_most n f m (λ i k. h i (omega arith)) in let b = h n (omega arith) in omega arith
