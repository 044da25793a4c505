-- Of the values at the numbers below n, one that a total order puts first. Assumes nothing.
use mathlib.Core.Path.{◌≡◌, refl, sym, ◌∙◌}
use mathlib.Core.Logic.{◌⊎◌, inl, inr, ⊎_elim}
use mathlib.Core.Option.{Option, none, some}
use Prim.Native.Nat.{ℕ, zero, suc, ◌<◌}
use native.Mathlib.Omega.{arith}
use Rattle.base.proofs.Answers.{none_some}
use Rattle.base.proofs.Below.{step_below}

module _ {A : Type 0} (f : ℕ → Option A) (before : A → A → Type 0) where
  pub record First (n : ℕ) : Type 0 where
    pub at : ℕ
    pub below : at < n
    pub value : A
    pub is : f at ≡ some value
    pub leads : (i : ℕ) → i < n → (x : A) → f i ≡ some x → before value x

  abbrev Nothing : ℕ → Type 0
  Nothing n = (i : ℕ) → i < n → f i ≡ none

  module _ (total : (a b : A) → before a b ⊎ before b a) (trans : (a b c : A) → before a b → before b c → before a c) where
    module _ (n : ℕ) where
      -- with one number more the first stays, or is the new one
      stays : (b : First n) → ((x : A) → f n ≡ some x → before b.value x) → First (suc n)
      stays b h = record {
        at = b.at;
        below = omega arith;
        value = b.value;
        is = b.is;
        leads = step_below (λ i. (x : A) → f i ≡ some x → before b.value x) n b.leads h;
      }

      newer : (a : A) → f n ≡ some a → ((i : ℕ) → i < n → (x : A) → f i ≡ some x → before a x) → First (suc n)
      newer a e h = record {
        at = n;
        below = omega arith;
        value = a;
        is = e;
        leads = step_below (λ i. (x : A) → f i ≡ some x → before a x) n h
            (λ x q. let r : a ≡ x = cc in rw r (⊎_elim (λ p. p) (λ p. p) (total x x)));
      }

      step : (o : Option A) → f n ≡ o → Nothing n ⊎ First n → Nothing (suc n) ⊎ First (suc n)
      step none e (inl a) = inl (step_below (λ i. f i ≡ none) n a e)
      step none e (inr b) = inr (stays b (λ x q. none_some (sym e ∙ q)))
      step (some a) e (inl h) = inr (newer a e (λ i k x q. none_some (sym (h i k) ∙ q)))
      step (some a) e (inr b) =
          inr
          (⊎_elim
          (λ (p : before b.value a). stays b (λ x q. let r : a ≡ x = cc in rw r at p))
          (λ (p : before a b.value). newer a e (λ i k x q. trans a b.value x p (b.leads i k x q)))
          (total b.value a))

    all_or_first : (n : ℕ) → Nothing n ⊎ First n
    all_or_first zero = inl (λ i k. absurd (omega arith))
    all_or_first (suc n) = step n (f n) refl (all_or_first n)

    pub first : (n i : ℕ) (a : A) → i < n → f i ≡ some a → First n
    first n i a k e = ⊎_elim (λ (h : Nothing n). none_some (sym (h i k) ∙ e)) (λ b. b) (all_or_first n)
