-- Rows that are there, word by word. Assumes nothing.
use mathlib.Core.Path.{◌≡◌, sym, ap, ◌∙◌}
use mathlib.Core.List.{List, ◌++◌}
use Prim.Native.Nat.{ℕ, zero, suc, ◌+◌, ◌*◌, ◌≤◌, ◌<◌}
use native.Mathlib.Omega.{arith}
use lib.ListN.{length, drop, get_or}
use lib.Seq.{ext_get_or, get_or-take, get_or-drop}
use Rattle.base.specs.Below.{concat_below}
use Rattle.base.specs.Lists.{part, put}
use Rattle.base.proofs.Lists.{length_part, put_part}
use Rattle.base.proofs.Rows.{rows_step}

module _ (w : ℕ) (f : ℕ → List ℕ) (d : List ℕ) (s : (i : ℕ) → length (f i) ≡ w) where
  row_there : (i : ℕ) → i * w + w ≤ length d → ((j : ℕ) → j < w → get_or d (i * w + j) 0 ≡ get_or (f i) j 0)
      → put (i * w) (f i) d ≡ d
  row_there i h e =
      let l = length_part (i * w) w d h in
      let q : part (i * w) w d ≡ f i =
      ext_get_or 0 (part (i * w) w d) (f i) (l ∙ sym (s i))
      (λ j k. get_or-take w (drop (i * w) d) j 0 (omega arith) ∙ get_or-drop (i * w) d j 0 ∙ e j (omega arith)) in
      let z : w ≡ length (f i) = sym (s i) in
      rw (← q) (put_part (i * w) w d h)

  -- the words are the rows
  pub rows_there : (n : ℕ) → n * w ≤ length d → ((i j : ℕ) → i < n → j < w → get_or d (i * w + j) 0 ≡ get_or (f i) j 0)
      → concat_below n f ++ drop (n * w) d ≡ d
  rows_there zero h e = let z : zero * w ≡ 0 = omega arith in rw z
  rows_there (suc n) h e =
      let l : n * w + w ≤ length d = omega arith in
      sym (rows_step n w f d s) ∙ ap (put (n * w) (f n)) (rows_there n (omega arith) (λ i j k. e i j (omega arith)))
      ∙ row_there n l (λ j. e n j (omega arith))
