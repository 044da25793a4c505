-- Laws of the shift register: it is linear, and any number of bits may be shifted at once. Assumes nothing.
use mathlib.Core.Path.{◌≡◌, refl, sym, ap, ap₂, ◌∙◌}
use Prim.Native.Nat.{ℕ, zero, suc, ◌+◌, ◌*◌, ◌/◌, ◌%◌, ◌^◌, ◌<◌}
use mathlib.Core.List.{List, [], ◌∷◌, ◌++◌}
use native.Mathlib.Nat.{mod-lt, zero-add, suc-add}
use native.Mathlib.Numerals.{add-one}
use native.Mathlib.Omega.{arith}
use lib.Dec.{lit<}
use lib.Bits.{bit_xor, differ, xor_comm, xor_zero_r, xor_lt, xor_shifted, shifted_half, shifted_even}
use lib.Pow.{pow_pos, split}
use lib.ListN.{length, drop, get_or}
use lib.Seq.{drop-cons}
use Rattle.base.specs.Lists.{Bytes}
use Rattle.crc32.specs.Crc.{tap, crc_bit, crc_bits, crc_byte, crc_from, crc_of}
use Rattle.crc32.specs.Table.{le_of}
use Rattle.crc32.proofs.Xor.{xor_half, xor_odd, xor_assoc, xor_swap}

-- ---- shifts

tap_xor : (a b : ℕ) → a < 2 → b < 2 → tap (differ a b) ≡ bit_xor (tap a) (tap b)
unfolding tap
tap_xor zero b h k = refl
tap_xor (suc zero) zero h k = refl
tap_xor (suc zero) (suc zero) h k = refl
tap_xor (suc zero) (suc (suc b)) h k = absurd (omega arith)
tap_xor (suc (suc a)) b h k = absurd (omega arith)

crc_bit_xor : (a b : ℕ) → crc_bit (bit_xor a b) ≡ bit_xor (crc_bit a) (crc_bit b)
unfolding crc_bit
crc_bit_xor a b =
    ap₂ bit_xor (xor_half a b) (ap tap (xor_odd a b) ∙ tap_xor (a % 2) (b % 2) (omega arith) (omega arith))
    ∙ xor_swap (a / 2) (b / 2) (tap (a % 2)) (tap (b % 2))

pub crc_bits_xor : (n a b : ℕ) → crc_bits n (bit_xor a b) ≡ bit_xor (crc_bits n a) (crc_bits n b)
unfolding crc_bits
crc_bits_xor zero a b = refl
crc_bits_xor (suc n) a b = ap (crc_bits n) (crc_bit_xor a b) ∙ crc_bits_xor n (crc_bit a) (crc_bit b)

pub crc_bits_add : (k m z : ℕ) → crc_bits (k + m) z ≡ crc_bits m (crc_bits k z)
unfolding crc_bits
crc_bits_add zero m z = rw zero-add
crc_bits_add (suc k) m z = rw suc-add (crc_bits_add k m (crc_bit z))

-- n zeros below: they are shifted out
pub crc_bits_shift : (n q : ℕ) → crc_bits n (q * 2 ^ n) ≡ q
unfolding crc_bits crc_bit tap
crc_bits_shift zero q = omega arith
crc_bits_shift (suc n) q = rw (shifted_half, shifted_even, xor_zero_r) (crc_bits_shift n q)

-- the lowest n bits are shifted through the register, the others move down
pub crc_bits_split : (n z : ℕ) → crc_bits n z ≡ bit_xor (z / 2 ^ n) (crc_bits n (z % 2 ^ n))
crc_bits_split n z =
    ap (crc_bits n) (sym (xor_shifted (z / 2 ^ n) n (z % 2 ^ n) (mod-lt z (pow_pos n)) ∙ split z n))
    ∙ crc_bits_xor n (z / 2 ^ n * 2 ^ n) (z % 2 ^ n)
    ∙ ap (λ (x : ℕ). bit_xor x (crc_bits n (z % 2 ^ n))) (crc_bits_shift n (z / 2 ^ n))

-- ---- runs of bytes

pub crc_from_step : (s : List ℕ) (i c : ℕ) → i < length s
    → crc_from (crc_byte c (get_or s i 0)) (drop (i + 1) s) ≡ crc_from c (drop i s)
unfolding crc_from
crc_from_step s i c h = rw (add-one, drop-cons s i 0)

pub crc_from_append : (c : ℕ) (a b : List ℕ) → crc_from c (a ++ b) ≡ crc_from (crc_from c a) b
unfolding crc_from
crc_from_append c [] b = refl
crc_from_append c (x ∷ a) b = crc_from_append (crc_byte c x) a b

-- a run of bytes is one number, shifted through at once
pub crc_from_word : (c : ℕ) (bs : List ℕ) → Bytes bs → crc_from c bs ≡ crc_bits (8 * length bs) (bit_xor c (le_of bs))
unfolding crc_from crc_byte crc_bits le_of
crc_from_word c [] h = sym (xor_zero_r c)
crc_from_word c (b ∷ bs) h =
    let hb : b < 2 ^ 8 = h 0 in
    let e : 8 * suc (length bs) ≡ 8 + 8 * length bs = omega arith in
    crc_from_word (crc_bits 8 (bit_xor c b)) bs (λ k. h (suc k))
    ∙ sym (rw (
      e,
      crc_bits_add 8 (8 * length bs),
      ← xor_shifted (le_of bs) 8 b,
      xor_comm
          (le_of bs * 256) b,
      ← xor_assoc,
      crc_bits_xor 8 (bit_xor c b) (le_of bs * 256),
      crc_bits_shift 8,
    ))

-- ---- the state stays below 2 ^ 32

tap_lt : (b : ℕ) → tap b < 2 ^ 32
unfolding tap
tap_lt zero = lit< tt
tap_lt (suc b) = lit< tt

pub crc_bits_lt : (n c : ℕ) → c < 2 ^ 32 → crc_bits n c < 2 ^ 32
unfolding crc_bits crc_bit
crc_bits_lt zero c h = h
crc_bits_lt (suc n) c h = crc_bits_lt n (crc_bit c) (xor_lt 32 (c / 2) (tap (c % 2)) (omega arith) (tap_lt (c % 2)))

crc_from_lt : (c : ℕ) (l : List ℕ) → c < 2 ^ 32 → Bytes l → crc_from c l < 2 ^ 32
unfolding crc_from crc_byte
crc_from_lt c [] h b = h
crc_from_lt c (x ∷ l) h b =
    let bx : x < 256 = b 0 in
    crc_from_lt (crc_byte c x) l (crc_bits_lt 8 (bit_xor c x) (xor_lt 32 c x h (omega arith))) (λ k. b (suc k))

pub crc_of_lt : (l : List ℕ) → Bytes l → crc_of l < 2 ^ 32
crc_of_lt l b = crc_from_lt 0xFFFFFFFF l (lit< tt) b
