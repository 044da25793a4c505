-- The data of a move: what lies behind its end is 0xFF. Assumes nothing.
use mathlib.Core.Path.{◌≡◌, refl, sym, ◌∙◌, ap, ap₂}
use mathlib.Core.Bool.{true, ◌&&◌, cond, and-true, and-false, and_assoc}
use mathlib.Core.List.{List, [], ◌∷◌, ◌++◌}
use Prim.Native.Nat.{ℕ, zero, suc, ◌+◌, ◌-◌, ◌*◌, ◌/◌, ◌%◌, ◌≤◌, ◌<◌}
use native.Mathlib.Nat.{sub-zero, div-add-mod', mod-lt, mul-le-mul_right}
use native.Mathlib.Omega.{arith}
use lib.Dec.{eqb}
use borrow.Author.Tests.{eqb-true}
use lib.ListN.{length, take, drop, replicate}
use lib.Seq.{take-add, length-take-le}
use Rattle.base.proofs.Answers.{by_test, either_way, and_left, and_right}
use Rattle.base.proofs.Lists.{drop_take}
use Rattle.base.proofs.Stores.{drop_replicate, take_replicate}
use Rattle.geometry.specs.Geometry.{round_up}
use Rattle.geometry.proofs.Laws.{round_least}
use Rattle.report.specs.View.{all_ff}
use Rattle.mover_rules.specs.Headers.{data_end}

pub all_ff_lem : (l : List ℕ) → all_ff l ≡ true → l ≡ replicate (length l) 0xFF
unfolding all_ff
all_ff_lem [] e = refl
all_ff_lem (b ∷ l) e = ap₂ ◌∷◌ (eqb-true b 0xFF (and_left (eqb b 0xFF) (all_ff l) e))
    (all_ff_lem l (and_right (eqb b 0xFF) (all_ff l) e))

pub end_within : (l : List ℕ) → data_end l ≤ length l
unfolding data_end
end_within [] = omega arith
end_within (b ∷ l) =
    by_test (all_ff (b ∷ l)) (λ q. rw q (omega arith)) (λ q. let h = end_within l in rw q (omega arith))

-- from any place past the end on there is 0xFF
pub end_rest : (l : List ℕ) (s : ℕ) → data_end l ≤ s → drop s l ≡ replicate (length l - s) 0xFF
unfolding data_end
end_rest [] zero h = refl
end_rest [] (suc s) h = let e : 0 - suc s ≡ 0 = omega arith in rw e
end_rest (b ∷ l) zero h = by_test (all_ff (b ∷ l)) (λ q. rw sub-zero (all_ff_lem (b ∷ l) q))
    (λ q. absurd (omega (arith, rw q at h)))
end_rest (b ∷ l) (suc s) h =
    by_test (all_ff (b ∷ l)) (λ q. ap (drop (suc s)) (all_ff_lem (b ∷ l) q) ∙ drop_replicate 0xFF (suc s) (length (b ∷ l)))
    (λ q. let e : suc (length l) - suc s ≡ length l - s = omega arith in rw e (end_rest l s (omega (arith, rw q at h))))

-- one byte more: an end that is found by a loop
all_ff_snoc : (l : List ℕ) (b : ℕ) → all_ff (l ++ (b ∷ [])) ≡ all_ff l && eqb b 0xFF
unfolding all_ff
all_ff_snoc [] b = and-true (eqb b 0xFF)
all_ff_snoc (x ∷ l) b = rw (all_ff_snoc l b) (sym (and_assoc (eqb x 0xFF) (all_ff l) (eqb b 0xFF)))

pub end_snoc : (l : List ℕ) (b : ℕ) → data_end (l ++ (b ∷ [])) ≡ cond (eqb b 0xFF) (data_end l) (suc (length l))
unfolding data_end all_ff
end_snoc [] b = either_way (λ c. cond {A = ℕ} (c && true) 0 1 ≡ cond c 0 1) (eqb b 0xFF) refl refl
end_snoc (x ∷ l) b =
    rw (all_ff_snoc l b, end_snoc l b)
    (by_test (eqb b 0xFF) (λ c. rw (c, and-true (all_ff l))) (λ c. rw (c, and-false (all_ff l), and-false (eqb x 0xFF))))

-- the first s bytes of b, with 0xFF behind, have the same first m bytes as b, if the end of those is within s
pub same_content : (m s big : ℕ) (a b : List ℕ) → data_end (take m b) ≤ s → s ≤ m → m ≤ length b → m ≤ big
    → take s a ≡ take s b → drop s a ≡ replicate (big - s) 0xFF → take m a ≡ take m b
same_content m s big a b h k l q e f =
    let z : m ≡ s + (m - s) = omega arith in
    ap (λ i. take i a) z ∙ take-add s (m - s) a
    ∙ ap₂ ◌++◌ e (ap (take (m - s)) f ∙ take_replicate 0xFF (m - s) (big - s) (omega arith) ∙ sym rest)
    ∙ sym (ap (λ i. take i b) z ∙ take-add s (m - s) b)
  where
    rest : take (m - s) (drop s b) ≡ replicate (m - s) 0xFF
    rest = sym (drop_take s m b) ∙ end_rest (take m b) s h ∙ rw (length-take-le m b l)

-- rounded up, a number within a multiple stays within it
pub round_within : (u x m : ℕ) → 0 < u → m % u ≡ 0 → x ≤ m → round_up u x ≤ m
round_within u x m h e l =
    let k : m ≡ m / u * u = omega (arith, div-add-mod' m u) in
    rw (← k) at (round_least u x (m / u) h (rw (← k) l))

-- the units that are not past the last one start within the data, and cover it
pub unit_starts : (j d u : ℕ) → 0 < u → j < (d + (u - 1)) / u → j * u < d
unit_starts j d u h k = omega (arith, div-add-mod' (d + (u - 1)) u, mul-le-mul_right u k)

pub units_cover : (d u : ℕ) → 0 < u → d ≤ (d + (u - 1)) / u * u
units_cover d u h = omega (arith, div-add-mod' (d + (u - 1)) u, mod-lt (d + (u - 1)) h)
