-- Which LEB stands in which block, and that each stands in one. Assumes nothing.
use mathlib.Core.Path.{◌≡◌, refl, sym}
use mathlib.Core.Logic.{⊎_elim}
use mathlib.Core.Bool.{Bool, true, false, cond}
use mathlib.Core.Option.{none, some}
use Prim.Native.Nat.{ℕ, zero, suc, ◌+◌, ◌-◌, ◌≤◌, ◌<◌}
use native.Mathlib.Nat.{add-sub_cancel_left}
use native.Mathlib.Omega.{arith}
use borrow.Author.Tests.{lt-ltb, le-ltb, ltb-true, ltb-false}
use lib.Dec.{ltb}
use Rattle.base.specs.Below.{sum_below}
use Rattle.base.proofs.Answers.{by_test, none_some}
use Rattle.base.proofs.Below.{below_suc, sum_grows}
use Rattle.builder_rules.specs.Blocks.{key_below, block_no}

module _ (m : ℕ → ℕ) where
  -- LEB l of volume v stands in its block
  pub key_at : (n v l : ℕ) → v < n → l < m v → key_below n m (block_no m v l) ≡ some (v, l)
  key_at zero v l h k = absurd (omega arith)
  key_at (suc n) v l h k =
      ⊎_elim
      (λ (q : v < n).
      rw (lt-ltb (sum_below v m + l) (sum_below n m) (omega (arith, sum_grows m (suc v) n q))) (key_at n v l q k))
      (λ (e : v ≡ n).
      let a = le-ltb (sum_below v m + l) (sum_below n m) (rw e (omega arith)) in
      let b = lt-ltb (sum_below v m + l) (sum_below n m + m n) (rw (← e) (omega arith)) in
      rw (a, b, ← e, add-sub_cancel_left))
      (below_suc n v h)

  -- the block of a LEB
  pub record Here (n k v l : ℕ) : Type 0 where
    pub volume : v < n
    pub lnum : l < m v
    pub block : k ≡ block_no m v l

  pub key_here : (n k : ℕ) (x : ℕ × ℕ) → key_below n m k ≡ some x → Here n k x.0 x.1
  key_here zero k x e = none_some e
  key_here (suc n) k x e =
      go (λ q. key_here n k x q) (ltb k (sum_below n m)) (ltb k (sum_below n m + m n)) refl refl e
    where
      go : (key_below n m k ≡ some x → Here n k x.0 x.1) → (a b : Bool) → ltb k (sum_below n m) ≡ a
          → ltb k (sum_below n m + m n) ≡ b
          → cond a (key_below n m k) (cond b (some (n, k - sum_below n m)) none) ≡ some x → Here (suc n) k x.0 x.1
      go ih true b p q e =
          let r = ih e in
          record { volume = omega (arith, r.volume); lnum = r.lnum; block = r.block }
      go ih false true p q e =
          let z : ◌≡◌ {A = ℕ × ℕ} (n, k - sum_below n m) x = cc in
          let a = ltb-false k (sum_below n m) p in
          let b = ltb-true k (sum_below n m + m n) q in
          rw (← z) (record { volume = omega arith; lnum = omega arith; block = omega arith })
      go ih false false p q e = none_some e

  -- up to the last LEB there is one in each, and past it there is none
  pub key_within : (n k : ℕ) → key_below n m k ≡ none → sum_below n m ≤ k
  key_within zero k e = omega arith
  key_within (suc n) k e =
      by_test (ltb k (sum_below n m))
      (λ p. absurd (omega (arith, ltb-true k (sum_below n m) p, key_within n k (rw p at e))))
      (λ p.
      by_test (ltb k (sum_below n m + m n)) (λ q. none_some (sym (rw (p, q) at e)))
      (λ q. ltb-false k (sum_below n m + m n) q))

  pub key_past : (n k : ℕ) → sum_below n m ≤ k → key_below n m k ≡ none
  key_past zero k h = refl
  key_past (suc n) k h = rw (le-ltb k (sum_below n m) (omega arith), le-ltb k (sum_below n m + m n) (omega arith))
