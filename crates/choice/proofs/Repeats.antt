-- Refusal 9 by a search that stops at the first repeat. Assumes nothing.
use mathlib.Core.Path.{◌≡◌}
use mathlib.Core.Bool.{true, false}
use mathlib.Core.Option.{Option, none, some}
use Prim.Native.Nat.{ℕ, ◌<◌}
use Rattle.std.specs.Prelude.{Some, None}
use Rattle.base.specs.Below.{any_below}
use Rattle.base.proofs.Below.{none_intro, any_intro, first_lowest}
use Rattle.report.specs.View.{Copy}
use Rattle.report.specs.Scan.{when}
use Rattle.report.specs.Choice.{repeats, refusal9}
use Rattle.report.proofs.Facts.{no_9}
use Rattle.choice.specs.Keyed.{repeat_at}

-- PEB i repeats no lower one
abbrev pub Fresh : (ℕ → Option Copy) → ℕ → Type 0
Fresh cs i = (j : ℕ) → j < i → repeats (cs i) (cs j) ≡ false

module _ (n : ℕ) (cs : ℕ → Option Copy) where
  pub no_repeat : ((i : ℕ) → i < n → Fresh cs i) → repeat_at None ≡ refusal9 n cs
  no_repeat h = rw (no_9 n cs (λ i j k l. h i k j l))

  pub a_repeat : {i j : ℕ} → i < n → j < i → ((k : ℕ) → k < i → Fresh cs k) → repeats (cs i) (cs j) ≡ true
      → repeat_at (Some i) ≡ refusal9 n cs
  unfolding refusal9
  a_repeat {i} {j} h l f e =
      let found : ℕ → Option ℕ = λ i. when (any_below i (λ (j : ℕ). repeats (cs i) (cs j))) 9 in
      let w : found i ≡ some 9 = rw (any_intro i (λ (j : ℕ). repeats (cs i) (cs j)) j l e) in
      let none_before : (k : ℕ) → k < i → found k ≡ none =
      λ k q. rw (none_intro k (λ (j : ℕ). repeats (cs k) (cs j)) (f k q)) in
      rw (first_lowest n found i 9 h w none_before)
