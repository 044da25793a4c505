-- The table's rule, half bytes by the table, and words in a list of bytes. Assumes nothing.
use mathlib.Core.Path.{◌≡◌, refl, sym, ap, ◌∙◌}
use Prim.Native.Nat.{ℕ, zero, suc, ◌+◌, ◌*◌, ◌/◌, ◌%◌, ◌^◌, ◌≤◌, ◌<◌}
use mathlib.Core.List.{List}
use native.Mathlib.Numerals.{add-one}
use native.Mathlib.Omega.{arith}
use lib.Dec.{T}
use lib.Bits.{bit_xor, xor_comm}
use lib.ListN.{length, drop, get_or, take-append-drop}
use lib.Seq.{drop-cons, drop-drop}
use Rattle.base.specs.Lists.{eqs, part, table, Bytes}
use Rattle.base.proofs.Lists.{same, table_at, row_at, times, bytes_part, length_part}
use Rattle.crc32.specs.Crc.{crc_bits, crc_byte, crc_from}
use Rattle.crc32.specs.Table.{le_of, crc_rows}
use Rattle.crc32.proofs.Xor.{xor_assoc}
use Rattle.crc32.proofs.Laws.{crc_bits_xor, crc_bits_add, crc_bits_split, crc_from_append, crc_from_word}

-- ---- the table

times_bits : (j x : ℕ) → times (crc_bits 4) j x ≡ crc_bits (4 * j) x
unfolding crc_bits
times_bits zero x = refl
times_bits (suc j) x =
    let e : 4 * suc j ≡ 4 + 4 * j = omega arith in
    times_bits j (crc_bits 4 x) ∙ rw (e, crc_bits_add 4)

pub table_rule : (j k : ℕ) → j < 24 → k < 16 → get_or crc_rows (j * 16 + k) 0 ≡ crc_bits (4 * (j + 1)) k
unfolding crc_rows
table_rule j k h g =
    let e : 4 * (j + 1) ≡ 4 + 4 * j = omega arith in
    row_at (crc_bits 4) 24 (table (crc_bits 4) 0 16) j k h g
    ∙ ap (times (crc_bits 4) j) (table_at (crc_bits 4) 0 16 k g)
    ∙ times_bits j (crc_bits 4 k)
    ∙ rw (e, crc_bits_add 4 (4 * j) k)

-- a list that a test finds equal
pub table_is : (l : List ℕ) → T (eqs l crc_rows) → l ≡ crc_rows
table_is l t = same l crc_rows t

-- the lowest n bits by themselves, the others by fewer shifts
low_bits : (n m z : ℕ) → crc_bits (n + m) z ≡ bit_xor (crc_bits (n + m) (z % 2 ^ n)) (crc_bits m (z / 2 ^ n))
low_bits n m z =
    rw (
      crc_bits_add n m z,
      crc_bits_split n z,
      crc_bits_xor m (z / 2 ^ n) (crc_bits n (z % 2 ^ n)),
      crc_bits_add n m
          (z % 2 ^ n),
    )
    (xor_comm (crc_bits m (z / 2 ^ n)) (crc_bits m (crc_bits n (z % 2 ^ n))))

-- one half byte more
pub nibble_more : (c n z : ℕ) → bit_xor (bit_xor c (crc_bits (4 * (n + 1)) (z % 16))) (crc_bits (4 * n) (z / 16)) ≡ bit_xor c
    (crc_bits (4 * (n + 1)) z)
nibble_more c n z =
    let e : 4 * (n + 1) ≡ 4 + 4 * n = omega arith in
    xor_assoc c (crc_bits (4 * (n + 1)) (z % 16)) (crc_bits (4 * n) (z / 16))
    ∙ ap (bit_xor c) (rw e (sym (low_bits 4 (4 * n) z)))

-- a byte is two half bytes
pub two_halves : (c b p q : ℕ) → p ≡ crc_bits 4 (bit_xor c b) → q ≡ crc_bits 4 p → q ≡ crc_byte c b
unfolding crc_byte
two_halves c b p q e f = rw (f, e) (sym (crc_bits_add 4 4 (bit_xor c b)))

-- a word that comes n words later is shifted n words less
pub three_words : (a b c : ℕ) → bit_xor (bit_xor (crc_bits 32 c) (crc_bits 64 b)) (crc_bits 96 a) ≡ crc_bits 32
    (bit_xor (crc_bits 32 (bit_xor (crc_bits 32 a) b)) c)
three_words a b c =
    rw (
      crc_bits_xor 32 (crc_bits 32 a) b,
      ← crc_bits_add 32 32 a,
      crc_bits_xor 32
          (bit_xor (crc_bits 64 a) (crc_bits 32 b)) c,
      crc_bits_xor 32 (crc_bits 64 a)
          (crc_bits 32 b),
      ← crc_bits_add 64 32 a,
      ← crc_bits_add 32 32 b,
    )
    (xor_comm (bit_xor (crc_bits 32 c) (crc_bits 64 b)) (crc_bits 96 a) ∙ ap (bit_xor (crc_bits 96 a))
    (xor_comm (crc_bits 32 c) (crc_bits 64 b))
    ∙ sym (xor_assoc (crc_bits 96 a) (crc_bits 64 b) (crc_bits 32 c)))

-- ---- words in a list

le_of_part : (n i j : ℕ) (s : List ℕ) → j ≡ i + 1 → i < length s
    → le_of (part i (suc n) s) ≡ le_of (part j n s) * 256 + get_or s i 0
unfolding le_of
le_of_part n i j s e h = rw (e, drop-cons s i 0, add-one)

-- the four bytes of a word
pub four_at : (i : ℕ) (s : List ℕ) → i + 4 ≤ length s →
    le_of (part i 4 s) ≡ get_or s i 0 + 2 ^ 8 * get_or s (i + 1) 0 + 2 ^ 16 * get_or s (i + 2) 0 + 2 ^ 24 * get_or s (i + 3) 0
unfolding le_of
four_at i s h =
    omega (
      arith,
      le_of_part 3 i (i + 1) s refl (omega arith),
      le_of_part 2 (i + 1) (i + 2) s (omega arith) (omega arith),
      le_of_part 1 (i + 2) (i + 3) s (omega arith) (omega arith),
      le_of_part 0 (i + 3) (i + 4) s (omega arith) (omega arith),
    )

pub four_lt : (i : ℕ) (s : List ℕ) → Bytes s → i + 4 ≤ length s → le_of (part i 4 s) < 2 ^ 32
four_lt i s b h = omega (arith, four_at i s h, b i, b (i + 1), b (i + 2), b (i + 3))

-- n bytes of a list at once
pub crc_from_part : (n c i : ℕ) (s : List ℕ) → Bytes s → i + n ≤ length s →
    crc_from (crc_bits (8 * n) (bit_xor c (le_of (part i n s)))) (drop (i + n) s) ≡ crc_from c (drop i s)
crc_from_part n c i s b h =
    sym (ap (crc_from c) (sym (take-append-drop n (drop i s))) ∙ crc_from_append c (part i n s) (drop n (drop i s))
    ∙ rw (crc_from_word c (part i n s) (bytes_part i n s b), length_part i n s h, drop-drop n i s))

-- three words of it, one after the other
module _ (c i : ℕ) (s : List ℕ) where
  abbrev shifted : ℕ → ℕ → ℕ
  shifted c i = crc_bits 32 (bit_xor c (le_of (part i 4 s)))

  pub crc_from_three : Bytes s → i + 12 ≤ length s
      → crc_from (shifted (shifted (shifted c i) (i + 4)) (i + 8)) (drop (i + 12) s) ≡ crc_from c (drop i s)
  crc_from_three b h =
      let e : i + 4 + 4 ≡ i + 8 = omega arith in
      let f : i + 8 + 4 ≡ i + 12 = omega arith in
      rw f at (crc_from_part 4 (shifted (shifted c i) (i + 4)) (i + 8) s b (omega arith))
      ∙ rw e at (crc_from_part 4 (shifted c i) (i + 4) s b (omega arith))
      ∙ crc_from_part 4 c i s b (omega arith)
