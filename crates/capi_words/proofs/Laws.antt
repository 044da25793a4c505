-- Laws of words that fit. Assumes nothing.
use mathlib.Core.Path.{◌≡◌, refl}
use mathlib.Core.Bool.{true, false, ◌&&◌}
use mathlib.Core.List.{List, [], ◌∷◌, ◌++◌}
use Prim.Native.Nat.{ℕ, suc, ◌+◌, ◌≤◌, ◌<◌}
use native.Mathlib.Omega.{arith}
use borrow.Author.Tests.{le-leb, leb-true, eq-eqb, ne_eqb}
use lib.Dec.{leb}
use lib.ListN.{length, take, drop, get_or, length-drop}
use lib.Seq.{drop-cons}
use Rattle.std.specs.List.{list_all, zip}
use Rattle.base.proofs.Answers.{and_left, and_right, not_so, clash}
use Rattle.base.specs.Lists.{part}
use Rattle.capi_words.specs.Lent.{fits, BelowFrom, Within}
use Rattle.capi_words.specs.Structs.{report_most, refusal_most, attached_fits}

-- ---- words and limits, side by side

pub fits_zip : (ws ms : List ℕ) → length ms ≤ length ws → fits ws ms ≡ list_all (λ p. leb p.0 p.1) (zip ws ms)
unfolding fits
fits_zip [] [] h = refl
fits_zip [] (m ∷ ms) h = absurd (omega arith)
fits_zip (w ∷ ws) [] h = refl
fits_zip (w ∷ ws) (m ∷ ms) h = rw (fits_zip ws ms (omega arith))

-- fewer words than limits
pub fits_length : (ws ms : List ℕ) → fits ws ms ≡ true → length ms ≤ length ws
unfolding fits
fits_length ws [] e = omega arith
fits_length [] (m ∷ ms) e = clash refl e
fits_length (w ∷ ws) (m ∷ ms) e = omega (arith, fits_length ws ms (and_right (leb w m) (fits ws ms) e))

pub fits_short : (ws ms : List ℕ) → length ws < length ms → fits ws ms ≡ false
fits_short ws ms h = not_so (fits ws ms) (λ e. omega (arith, fits_length ws ms e))

-- ---- each word of those that fit

fits_from : (ws ms : List ℕ) (k : ℕ) → fits (drop k ws) ms ≡ true → BelowFrom k ws ms
unfolding fits
fits_from ws [] k e = tt
fits_from ws (m ∷ ms) k e =
    let h : k < length ws = omega (arith, fits_length (drop k ws) (m ∷ ms) e, length-drop k ws) in
    let q : leb (get_or ws k 0) m && fits (drop (suc k) ws) ms ≡ true = rw (drop-cons ws k 0 h) at e in (
      leb-true _ _ (and_left (leb (get_or ws k 0) m) (fits (drop (suc k) ws) ms) q),
      fits_from ws ms (suc k) (and_right (leb (get_or ws k 0) m) (fits (drop (suc k) ws) ms) q),
    )

pub within : (ws ms : List ℕ) → fits ws ms ≡ true → Within ws ms
within ws ms e = (fits_length ws ms e, fits_from ws ms 0 e)

below_fits : (ws ms : List ℕ) (k : ℕ) → k + length ms ≤ length ws → BelowFrom k ws ms → fits (drop k ws) ms ≡ true
unfolding fits
below_fits ws [] k h b = refl
below_fits ws (m ∷ ms) k h b =
    let l : k < length ws = omega arith in
    rw (drop-cons ws k 0 l, le-leb _ _ b.0) (below_fits ws ms (suc k) (omega arith) b.1)

pub within_fits : (ws ms : List ℕ) → Within ws ms → fits ws ms ≡ true
within_fits ws ms w = below_fits ws ms 0 (omega (arith, w.0)) w.1

-- ---- the words of a struct that is held in another

fits_later : (ws a b : List ℕ) → fits ws (a ++ b) ≡ true → fits (drop (length a) ws) b ≡ true
unfolding fits
fits_later ws [] b e = e
fits_later [] (m ∷ a) b e = clash refl e
fits_later (w ∷ ws) (m ∷ a) b e = fits_later ws a b (and_right (leb w m) (fits ws (a ++ b)) e)

fits_first : (ws a b : List ℕ) → fits ws (a ++ b) ≡ true → fits (take (length a) ws) a ≡ true
unfolding fits
fits_first ws [] b e = refl
fits_first [] (m ∷ a) b e = clash refl e
fits_first (w ∷ ws) (m ∷ a) b e =
    rw (and_left (leb w m) (fits ws (a ++ b)) e) (fits_first ws a b (and_right (leb w m) (fits ws (a ++ b)) e))

pub part_within : (ws a b d : List ℕ) → Within ws (a ++ (b ++ d)) → Within (part (length a) (length b) ws) b
part_within ws a b d w =
    within (part (length a) (length b) ws) b
    (fits_first (drop (length a) ws) b d (fits_later ws a (b ++ d) (within_fits ws (a ++ (b ++ d)) w)))

-- ---- the words of an answer: the first tells which of the two it is

pub report_within : (ws : List ℕ) → get_or ws 0 0 ≡ 0 → attached_fits ws ≡ true → Within ws report_most
unfolding attached_fits
report_within ws h e = within ws report_most (rw (eq-eqb _ _ h) at e)

pub refusal_within : (ws : List ℕ) → (get_or ws 0 0 ≡ 0 → ⊥) → attached_fits ws ≡ true → Within ws refusal_most
unfolding attached_fits
refusal_within ws h e = within ws refusal_most (rw (ne_eqb _ _ h) at e)

pub ruleset answer_within = (report_within, refusal_within)
