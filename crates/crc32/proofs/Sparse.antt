-- A sparse multiple of the polynomial: a few numbers of shifts whose sum takes every state to 0; and the same with
-- every number times a power
-- of two. Assumes nothing.
use mathlib.Core.Path.{◌≡◌, refl, sym, ap, ap₂, ◌∙◌}
use Prim.Native.Nat.{ℕ, zero, suc, ◌+◌, ◌*◌, ◌-◌, ◌/◌, ◌%◌, ◌^◌, ◌≤◌, ◌<◌}
use mathlib.Core.List.{List, [], ◌∷◌}
use native.Mathlib.Nat.{mod-lt, zero-mul, one-mul, pow-suc}
use native.Mathlib.Omega.{arith}
use lib.Bits.{bit_xor, xor_shifted, xor_self}
use lib.Pow.{pow_pos, pow-add, split, shr_lt}
use Rattle.crc32.specs.Crc.{tap, crc_bit, crc_bits}
use Rattle.crc32.specs.Fold.{exponents}
use Rattle.crc32.proofs.Xor.{xor_assoc, xor_swap}
use Rattle.crc32.proofs.Laws.{crc_bits_xor, crc_bits_add, crc_bits_shift}

-- the sum of z after e times g shifts, for each e of a list
unfoldable pub sum_of : ℕ → List ℕ → ℕ → ℕ
sum_of g [] z = 0
sum_of g (e ∷ es) z = bit_xor (crc_bits (e * g) z) (sum_of g es z)

-- ---- sums of shifts are linear, and shifts may come before them or after

pub crc_bits_zero : (n : ℕ) → crc_bits n 0 ≡ 0
crc_bits_zero n =
    let e : 0 ≡ 0 * 2 ^ n = omega arith in
    ap (crc_bits n) e ∙ crc_bits_shift n 0

commute : (m n z : ℕ) → crc_bits m (crc_bits n z) ≡ crc_bits n (crc_bits m z)
commute m n z =
    let e : n + m ≡ m + n = omega arith in
    sym (crc_bits_add n m z) ∙ ap (λ (k : ℕ). crc_bits k z) e ∙ crc_bits_add m n z

sum_of_zero : (g : ℕ) (es : List ℕ) → sum_of g es 0 ≡ 0
unfolding sum_of
sum_of_zero g [] = refl
sum_of_zero g (e ∷ es) = rw (crc_bits_zero (e * g), sum_of_zero g es)

sum_of_xor : (g : ℕ) (es : List ℕ) (y z : ℕ) → sum_of g es (bit_xor y z) ≡ bit_xor (sum_of g es y) (sum_of g es z)
unfolding sum_of
sum_of_xor g [] y z = refl
sum_of_xor g (e ∷ es) y z =
    rw (crc_bits_xor (e * g) y z, sum_of_xor g es y z)
    (xor_swap (crc_bits (e * g) y) (crc_bits (e * g) z) (sum_of g es y) (sum_of g es z))

sum_of_bits : (g : ℕ) (es : List ℕ) (n z : ℕ) → sum_of g es (crc_bits n z) ≡ crc_bits n (sum_of g es z)
unfolding sum_of
sum_of_bits g [] n z = sym (crc_bits_zero n)
sum_of_bits g (e ∷ es) n z =
    ap₂ bit_xor (commute (e * g) n z) (sum_of_bits g es n z) ∙ sym (crc_bits_xor n (crc_bits (e * g) z) (sum_of g es z))

-- ---- squares: the mixed terms cancel

cancel : (a b d : ℕ) → bit_xor (bit_xor a b) (bit_xor b d) ≡ bit_xor a d
cancel a b d =
    xor_assoc a b (bit_xor b d) ∙ ap (bit_xor a) (sym (xor_assoc b b d) ∙ ap (λ (x : ℕ). bit_xor x d) (xor_self b))

squared : (g : ℕ) (es : List ℕ) (z : ℕ) → sum_of (g + g) es z ≡ sum_of g es (sum_of g es z)
unfolding sum_of
squared g [] z = refl
squared g (e ∷ es) z =
    let x = crc_bits (e * g) z in
    let y = sum_of g es z in
    let h : e * (g + g) ≡ e * g + e * g = omega arith in
    ap₂ bit_xor (ap (λ (n : ℕ). crc_bits n z) h ∙ crc_bits_add (e * g) (e * g) z) (squared g es z)
    ∙ sym (cancel (crc_bits (e * g) x) (crc_bits (e * g) y) (sum_of g es y))
    ∙ ap₂ bit_xor (sym (crc_bits_xor (e * g) x y))
    (ap (λ (u : ℕ). bit_xor u (sum_of g es y)) (sym (sum_of_bits g es (e * g) z)) ∙ sym (sum_of_xor g es x y))

-- ---- a sum that takes one state to 0 takes all of them to 0

module _ (es : List ℕ) (test : sum_of 1 es (2 ^ 31) ≡ 0) where
  one_bit : (n : ℕ) → n < 32 → sum_of 1 es (2 ^ n) ≡ 0
  one_bit n h =
      let e : n + (31 - n) ≡ 31 = omega arith in
      ap (sum_of 1 es) (sym (crc_bits_shift (31 - n) (2 ^ n)) ∙ ap (crc_bits (31 - n))
      (sym (pow-add 2 n (31 - n)) ∙ ap (λ (k : ℕ). 2 ^ k) e))
      ∙ sum_of_bits 1 es (31 - n) (2 ^ 31)
      ∙ ap (crc_bits (31 - n)) test
      ∙ crc_bits_zero (31 - n)

  digit : (d n : ℕ) → d < 2 → n < 32 → sum_of 1 es (d * 2 ^ n) ≡ 0
  digit zero n h k = rw zero-mul (sum_of_zero 1 es)
  digit (suc zero) n h k = rw one-mul (one_bit n k)
  digit (suc (suc d)) n h k = absurd (omega arith)

  bits : (n z : ℕ) → n ≤ 32 → z < 2 ^ n → sum_of 1 es z ≡ 0
  bits zero z h k =
      let e : z ≡ 0 = omega arith in
      ap (sum_of 1 es) e ∙ sum_of_zero 1 es
  bits (suc n) z h k =
      let e : 1 + n ≡ suc n = omega arith in
      ap (sum_of 1 es) (sym (xor_shifted (z / 2 ^ n) n (z % 2 ^ n) (mod-lt z (pow_pos n)) ∙ split z n))
      ∙ sum_of_xor 1 es (z / 2 ^ n * 2 ^ n) (z % 2 ^ n)
      ∙ ap₂ bit_xor (digit (z / 2 ^ n) n (shr_lt 1 n (rw e k)) (omega arith))
      (bits n (z % 2 ^ n) (omega arith) (mod-lt z (pow_pos n)))

  vanishes : (k z : ℕ) → z < 2 ^ 32 → sum_of (2 ^ k) es z ≡ 0
  vanishes zero z h = bits 32 z (omega arith) h
  vanishes (suc k) z h =
      let e : 2 ^ suc k ≡ 2 ^ k + 2 ^ k = rw pow-suc (omega arith) in
      ap (λ (g : ℕ). sum_of g es z) e ∙ squared (2 ^ k) es z ∙ ap (sum_of (2 ^ k) es) (vanishes k z h)
      ∙ sum_of_zero (2 ^ k) es

-- ---- the multiple of IEEE 802.3's polynomial, every exponent times 32

pub sparse : (z : ℕ) → z < 2 ^ 32 → sum_of 32 (137 ∷ exponents) z ≡ 0
unfolding sum_of tap crc_bit crc_bits
sparse = vanishes (137 ∷ exponents) refl 5
