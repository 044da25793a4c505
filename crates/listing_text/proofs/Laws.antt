-- Texts written one after the other, and numbers in decimal. Assumes nothing.
use mathlib.Core.Path.{◌≡◌, refl, sym, ap, ap₂, ◌∙◌, subst}
use mathlib.Core.Bool.{Bool, true, false, cond}
use mathlib.Core.List.{List, [], ◌∷◌, ◌++◌}
use Prim.Native.Nat.{ℕ, zero, suc, ◌+◌, ◌-◌, ◌*◌, ◌/◌, ◌%◌, ◌^◌, ◌≤◌, ◌<◌}
use native.Mathlib.Nat.{pow-suc, pow-le-pow_right}
use native.Mathlib.Numerals.{add-one}
use native.Mathlib.Omega.{arith}
use borrow.Author.Tests.{lt-ltb, le-ltb, ltb-true, ltb-false}
use lib.Dec.{ltb}
use lib.ListN.{length, take, length-append, length-take}
use Rattle.std.specs.Prelude.{min}
use Rattle.std.proofs.lemmas.List.{take_min}
use Rattle.base.specs.Below.{concat_below}
use Rattle.base.specs.Lists.{put}
use Rattle.report.specs.Attach.{over}
use Rattle.io.specs.Digits.{hex_digit_ascii, last_digits, IsDigitCount}
use Rattle.listing_text.specs.Text.{digits_up_to, decimal}
use Rattle.listing_text.specs.Written.{clipped, Written}

-- ---- texts in a buffer

pub clip_past : (at : ℕ) (t s : List ℕ) → length s ≤ at → s ≡ clipped at t s
clip_past at t [] h = refl
clip_past zero t (y ∷ s) h = absurd (omega arith)
clip_past (suc at) t (y ∷ s) h = ap (λ (l : List ℕ). y ∷ l) (clip_past at t s (omega arith))

pub clip_fits : (at : ℕ) (t s : List ℕ) → at + length t ≤ length s → put at t s ≡ clipped at t s
clip_fits zero [] [] h = refl
clip_fits zero (x ∷ t) [] h = absurd (omega arith)
clip_fits (suc at) t [] h = absurd (omega arith)
clip_fits zero [] (y ∷ s) h = refl
clip_fits zero (x ∷ t) (y ∷ s) h = let e : 0 + suc (length t) ≡ suc (0 + length t) = omega arith in rw e
    (ap (λ (l : List ℕ). x ∷ l) (clip_fits zero t s (omega arith)))
clip_fits (suc at) t (y ∷ s) h = let e : suc at + length t ≡ suc (at + length t) = omega arith in rw e
    (ap (λ (l : List ℕ). y ∷ l) (clip_fits at t s (omega arith)))

-- no more is stored than goes in
pub clip_room : (at : ℕ) (t s : List ℕ) → clipped at (take (length s - at) t) s ≡ clipped at t s
clip_room at t [] = refl
clip_room zero [] (y ∷ s) = let e : suc (length s) - 0 ≡ suc (length s) = omega arith in rw e refl
clip_room zero (x ∷ t) (y ∷ s) =
    let e : suc (length s) - 0 ≡ suc (length s - 0) = omega arith in rw e
    (ap (λ (l : List ℕ). x ∷ l) (clip_room zero t s))
clip_room (suc at) t (y ∷ s) = let e : suc (length s) - suc at ≡ length s - at = omega arith in rw e
    (ap (λ (l : List ℕ). y ∷ l) (clip_room at t s))

clip_join : (at : ℕ) (a b s : List ℕ) → clipped (at + length a) b (clipped at a s) ≡ clipped at (a ++ b) s
clip_join at a b [] = refl
clip_join zero [] b (y ∷ s) = refl
clip_join zero (x ∷ a) b (y ∷ s) = let e : 0 + suc (length a) ≡ suc (0 + length a) = omega arith in rw e
    (ap (λ (l : List ℕ). x ∷ l) (clip_join zero a b s))
clip_join (suc at) a b (y ∷ s) = let e : suc at + length a ≡ suc (at + length a) = omega arith in rw e
    (ap (λ (l : List ℕ). y ∷ l) (clip_join at a b s))

pub clip_over : (t s : List ℕ) → length t ≤ length s → clipped 0 t s ≡ over t s
clip_over [] [] h = refl
clip_over (x ∷ t) [] h = absurd (omega arith)
clip_over [] (y ∷ s) h = refl
clip_over (x ∷ t) (y ∷ s) h = ap (λ (l : List ℕ). x ∷ l) (clip_over t s (omega arith))

-- as much of t as goes in was stored, or nothing
pub stored_part : {at : ℕ} {t s s' : List ℕ} → at < length s
    → s' ≡ put at (take (min (length s - at) (length t)) t) s → Written s at t (at + length t) s'
stored_part {at} {t} {s} {s'} h e = record {
  after = refl;
  bytes = rw take_min at e ∙ clip_fits at (take (length s - at) t) s (rw length-take (omega arith)) ∙ clip_room at t s;
}

pub stored_nothing : {at : ℕ} {t s : List ℕ} → length s ≤ at → Written s at t (at + length t) s
stored_nothing {at} {t} {s} h = record { after = refl; bytes = clip_past at t s h }

-- nothing was written
pub written_none : (at : ℕ) (s : List ℕ) → Written s at [] at s
written_none at s = record { after = omega arith; bytes = none at s }
  where
    none : (at : ℕ) (s : List ℕ) → s ≡ clipped at [] s
    none at [] = refl
    none zero (y ∷ s) = refl
    none (suc at) (y ∷ s) = ap (λ (l : List ℕ). y ∷ l) (none at s)

-- b after a
pub both_written : {at r e : ℕ} {a b s s₁ s₂ : List ℕ} → Written s at a r s₁ → Written s₁ r b e s₂
    → Written s at (a ++ b) e s₂
both_written {at} {r} {e} {a} {b} {s} {s₁} {s₂} p q = record {
  after = rw length-append (omega (arith, p.after, q.after));
  bytes = q.bytes ∙ ap₂ (λ (k : ℕ) (l : List ℕ). clipped k b l) p.after p.bytes ∙ clip_join at a b s;
}

-- one line more
pub next_written : (f : ℕ → List ℕ) (i : ℕ) {at r e : ℕ} {s s₁ s₂ : List ℕ} → Written s at (concat_below i f) r s₁
    → Written s₁ r (f i) e s₂ → Written s at (concat_below (i + 1) f) e s₂
next_written f i {at} {r} {e} {s} {s₁} {s₂} p q = subst (λ (k : ℕ). Written s at (concat_below k f) e s₂)
    (sym (add-one i)) (both_written p q)

-- a buffer keeps its length
pub written_length : {at r : ℕ} {t s s' : List ℕ} → Written s at t r s' → length s' ≡ length s
written_length {at} {r} {t} {s} {s'} w = ap length w.bytes ∙ same at t s
  where
    same : (at : ℕ) (t s : List ℕ) → length (clipped at t s) ≡ length s
    same at t [] = refl
    same zero [] (y ∷ s) = refl
    same zero (x ∷ t) (y ∷ s) = ap suc (same zero t s)
    same (suc at) t (y ∷ s) = ap suc (same at t s)

-- ---- numbers in decimal

small_digit : (d : ℕ) → d < 10 → hex_digit_ascii d ≡ 48 + d
small_digit d h = rw (lt-ltb d 10 h)

power : (r : ℕ) → (10 ^ suc r ≡ 10 ^ r * 10) × (1 ≤ 10 ^ r)
power zero = (refl, omega arith)
power (suc r) = let p = power r in (pow-suc 10 (suc r), omega (arith, p.0, p.1))

-- the fewest digits that hold a number are its digits
pub fewest_digits : (k n r : ℕ) → r ≤ k → IsDigitCount 10 1 n r → last_digits 10 r n ≡ digits_up_to k n
fewest_digits k n zero h f = absurd (omega (arith, f.0))
fewest_digits zero n (suc r) h f = absurd (omega arith)
fewest_digits (suc k) n (suc zero) h f =
    let b : n < 10 = f.1 in
    let m : n % 10 ≡ n = omega arith in
    rw (lt-ltb n 10 b, m) (ap (λ (x : ℕ). x ∷ []) (small_digit n b))
fewest_digits (suc k) n (suc (suc r)) h f =
    let p = power r in
    let q = power (suc r) in
    let one : suc (suc r) - 1 ≡ suc r = omega arith in
    let low : 10 ^ suc r ≤ n = rw one at (f.2 (omega arith)) in
    let less : suc r - 1 ≡ r = omega arith in
    rw (le-ltb n 10 (omega (arith, p.0, p.1)))
    (ap₂ ◌++◌
    (fewest_digits k (n / 10) (suc r) (omega arith)
    (omega arith, omega (arith, p.0, q.0, f.1), λ _. rw less (omega (arith, p.0))))
    (ap (λ (x : ℕ). x ∷ []) (small_digit (n % 10) (omega arith))))

-- a number below 2^64 has at most 20 digits
pub twenty_digits : (n r : ℕ) → n ≤ 0xFFFFFFFFFFFFFFFF → IsDigitCount 10 1 n r → r ≤ 20
twenty_digits n r h f = go (ltb 20 r) refl
  where
    go : (b : Bool) → ltb 20 r ≡ b → r ≤ 20
    go false e = ltb-false 20 r e
    go true e =
        let l : 20 < r = ltb-true 20 r e in
        absurd (omega (
          arith,
          pow-le-pow_right {n = 10} (omega arith) {i = 20} {j = r - 1} (omega arith),
          f.2
              (omega arith),
        ))

pub few_digits : (k n : ℕ) → length (digits_up_to k n) ≤ k
few_digits zero n = omega arith
few_digits (suc k) n = go (ltb n 10) (few_digits k (n / 10))
  where
    go : (b : Bool) → length (digits_up_to k (n / 10)) ≤ k
        → length (cond b ((48 + n) ∷ []) (digits_up_to k (n / 10) ++ ((48 + n % 10) ∷ []))) ≤ suc k
    go true h = omega arith
    go false h = rw length-append (omega (arith, h))

pub decimal_short : (n : ℕ) → length (decimal n) ≤ 20
unfolding decimal
decimal_short n = few_digits 20 n

-- digits as the kit gives them
pub number_written : {at r n e : ℕ} {s s' : List ℕ} (d : List ℕ) → r ≤ 20 → IsDigitCount 10 1 n r → take r d ≡ last_digits 10 r n
    → Written s at (take r d) e s' → Written s at (decimal n) e s'
unfolding decimal
number_written {at} {r} {n} {e} {s} {s'} d h f q w = subst (λ (t : List ℕ). Written s at t e s')
    (q ∙ fewest_digits 20 n r h f) w
