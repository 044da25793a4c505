-- What `any` and `find` answer over a range of numbers. Assumes nothing.
use mathlib.Core.Path.{◌≡◌, sym}
use mathlib.Core.Logic.{⊎_elim}
use mathlib.Core.Bool.{Bool, true, false}
use Prim.Native.Nat.{ℕ, ◌≤◌, ◌<◌}
use native.Mathlib.Nat.{zero-add}
use native.Mathlib.Omega.{arith}
use lib.ListN.{length, get_or}
use Rattle.std.specs.declared.option.Option as rust
use Rattle.std.specs.Prelude.{Some, None, MatchOption, MatchBool}
use Rattle.std.specs.List.{range_with_len, HoldsAt, AllWithin}
use Rattle.std.proofs.lemmas.List.FromFn.{length-range_with_len, get_or-range_with_len}
use Rattle.base.specs.Below.{any_below}
use Rattle.base.proofs.Below.{lt_or_le, none_intro, any_intro}
use Rattle.volumes.specs.Sorted.{FirstBelow}

at_range : (n i : ℕ) → i < n → get_or (range_with_len 0 n) i 0 ≡ i
at_range n i h = rw (get_or-range_with_len 0 n i 0 h) (zero-add i)

pub any_is : (n : ℕ) (p : ℕ → Bool) (b : Bool)
    → MatchBool b ((k : ℕ) × (k < length (range_with_len 0 n)) × HoldsAt (λ i. p i ≡ true) (range_with_len 0 n) k)
    (AllWithin (λ i. p i ≡ false) (range_with_len 0 n) 0 (length (range_with_len 0 n))) → b ≡ any_below n p
any_is n p true h =
    let l : h.0 < n = rw length-range_with_len at h.1 in
    sym (any_intro n p h.0 l (rw (at_range n h.0 l) at (h.2 0)))
any_is n p false h =
    sym (none_intro n p (λ i l. rw (at_range n i l) at (h i 0 (omega arith) (rw length-range_with_len l))))

-- where none below a passes, the first from a on is the first
pub first_from : (a n : ℕ) (p : ℕ → Bool) → ((j : ℕ) → j < a → p j ≡ false) → (r : rust.Option ℕ)
    → MatchOption r ((k : ℕ) → a ≤ k → k < n → p k ≡ false)
    (λ i. (a ≤ i) × (i < n) × (p i ≡ true) × ((k : ℕ) → a ≤ k → k < i → p k ≡ false)) → FirstBelow n p r
first_from a n p z None h = λ j l. ⊎_elim (z j) (λ q. h j q l) (lt_or_le j a)
first_from a n p z (Some i) h = (h.1, h.2, λ j l. ⊎_elim (z j) (λ q. h.3 j q l) (lt_or_le j a))
