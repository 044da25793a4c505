-- Numbers in words of 32 bits, and what words that were folded add to those after them. Assumes nothing.
use mathlib.Core.Path.{◌≡◌, refl, sym, ap, ap₂, ◌∙◌}
use Prim.Native.Nat.{ℕ, zero, suc, ◌+◌, ◌*◌, ◌-◌, ◌/◌, ◌%◌, ◌^◌, ◌≤◌, ◌<◌}
use mathlib.Core.List.{List, [], ◌∷◌, ◌++◌}
use native.Mathlib.Nat.{mod-lt, mod-eq_of_lt, zero-add, add-zero, mul-one, mul_assoc}
use native.Mathlib.Omega.{arith}
use lib.Dec.{lit<}
use lib.Bits.{bit_xor, xor_zero_l, xor_zero_r, xor_shr, xor_mod, xor_block}
use lib.Pow.{high, low, pow-add, pow_pos}
use lib.ListN.{length, take, drop, get_or, set, replicate, length-drop}
use lib.Seq.{drop_at, drop-drop, drop-append-le, drop-set-add, get_or-drop, get_or-take}
use lib.Seq.{take-suc-set, take-set-le, take-nil}
use Rattle.base.specs.Lists.{part}
use Rattle.crc32.specs.Fold.{words_of, exponents, pending, zeros}
use Rattle.crc32.proofs.Xor.{xor_swap}

-- ---- numbers in words

words_high : (l : List ℕ) → words_of l / 2 ^ 32 ≡ words_of (drop 1 l)
unfolding words_of
words_high [] = refl
words_high (w ∷ ws) = high (words_of ws) 32 (mod-lt w (pow_pos 32))

words_low : (l : List ℕ) → words_of l % 2 ^ 32 ≡ get_or l 0 0 % 2 ^ 32
unfolding words_of
words_low [] = refl
words_low (w ∷ ws) = low (words_of ws) 32 (mod-lt w (pow_pos 32))

-- one word more, above the others
words_more : (l : List ℕ) (w : ℕ) → words_of (l ++ w ∷ []) ≡ bit_xor (words_of l) (w % 2 ^ 32 * 2 ^ (32 * length l))
unfolding words_of
words_more [] w = zero-add (w % 2 ^ 32) ∙ sym (xor_zero_l (w % 2 ^ 32 * 1) ∙ mul-one (w % 2 ^ 32))
words_more (x ∷ l) w =
    let n = w % 2 ^ 32 * 2 ^ (32 * length l) in
    let f : 32 * suc (length l) ≡ 32 * length l + 32 = omega arith in
    let e : w % 2 ^ 32 * 2 ^ (32 * suc (length l)) ≡ n * 2 ^ 32 + 0 =
    rw (f, pow-add 2 (32 * length l) 32, add-zero) (sym (mul_assoc (w % 2 ^ 32) (2 ^ (32 * length l)) (2 ^ 32))) in
    ap (λ (u : ℕ). u * 2 ^ 32 + x % 2 ^ 32) (words_more l w)
    ∙ sym
    (ap (bit_xor (words_of (x ∷ l))) e ∙ xor_block 32 (words_of l) n (x % 2 ^ 32) 0 (mod-lt x (pow_pos 32)) (lit< tt)
    ∙ rw (xor_zero_r (x % 2 ^ 32)))

-- zeros above add nothing
words_zeros : (l : List ℕ) (n : ℕ) → words_of (l ++ replicate n 0) ≡ words_of l
unfolding words_of
words_zeros [] zero = refl
words_zeros [] (suc n) = rw (words_zeros [] n)
words_zeros (x ∷ l) n = rw (words_zeros l n)

words_none : (n k : ℕ) → words_of (drop k (replicate n 0)) ≡ 0
unfolding words_of
words_none zero zero = refl
words_none zero (suc k) = refl
words_none (suc n) zero = rw (words_none n zero)
words_none (suc n) (suc k) = words_none n k

-- ---- what is pending, for any exponents

-- they are below n
abbrev pub Below : ℕ → List ℕ → Type 0
Below n [] = Unit {0}
Below n (e ∷ es) = (e < n) × Below n es

pub pending_high : (es h : List ℕ) → pending es h / 2 ^ 32 ≡ pending es (drop 1 h)
unfolding pending
pending_high [] h = refl
pending_high (e ∷ es) h =
    let f : 1 + e ≡ e + 1 = omega arith in
    rw (
      xor_shr (words_of (drop e h)) (pending es h) 32,
      words_high
          (drop e h),
      drop-drop 1 e h,
      drop-drop e 1 h,
      f,
      pending_high es h,
    )

-- what is pending for the next word
abbrev pub lowest : ℕ → List ℕ → List ℕ → ℕ
lowest j [] b = 0
lowest j (e ∷ es) b = bit_xor (get_or b (j + e) 0 % 2 ^ 32) (lowest j es b)

pending_low : (j : ℕ) (es b : List ℕ) → pending es (drop j b) % 2 ^ 32 ≡ lowest j es b
unfolding pending
pending_low j [] b = refl
pending_low j (e ∷ es) b =
    rw (
      xor_mod (words_of (drop e (drop j b))) (pending es (drop j b)) 32,
      words_low
          (drop e (drop j b)),
      drop-drop e j b,
      get_or-drop (j + e) b 0 0,
      add-zero,
      pending_low j es b,
    )

pub pending_word : (j : ℕ) (b : List ℕ) → pending exponents (drop j b) % 2 ^ 32
    ≡ bit_xor (get_or b (j + 84) 0 % 2 ^ 32)
    (bit_xor (get_or b (j + 80) 0 % 2 ^ 32)
    (bit_xor (get_or b (j + 70) 0 % 2 ^ 32)
    (bit_xor (get_or b (j + 29) 0 % 2 ^ 32) (bit_xor (get_or b (j + 8) 0 % 2 ^ 32) (get_or b j 0 % 2 ^ 32)))))
pending_word j b = pending_low j exponents b ∙ rw (add-zero, xor_zero_r)

lowest_take : (n j k : ℕ) (es b : List ℕ) → Below k es → j + k ≤ n → lowest j es (take n b) ≡ lowest j es b
lowest_take n j k [] b l h = refl
lowest_take n j k (e ∷ es) b l h = rw (get_or-take n b (j + e) 0 (omega (arith, l.0)), lowest_take n j k es b l.1 h)

pub low_take : (n j k : ℕ) (es b : List ℕ) → Below k es → j + k ≤ n
    → pending es (drop j (take n b)) % 2 ^ 32 ≡ pending es (drop j b) % 2 ^ 32
low_take n j k es b l h = pending_low j es (take n b) ∙ lowest_take n j k es b l h ∙ sym (pending_low j es b)

-- a later word makes no difference
pub low_set : (i k w : ℕ) (b : List ℕ) → i + 85 ≤ k
    → pending exponents (drop i (set b k w)) % 2 ^ 32 ≡ pending exponents (drop i b) % 2 ^ 32
low_set i k w b h =
    sym (low_take k i 85 exponents (set b k w) (omega arith) h)
    ∙ ap (λ (l : List ℕ). pending exponents (drop i l) % 2 ^ 32) (take-set-le k b k w (omega arith))
    ∙ low_take k i 85 exponents b (omega arith) h

-- what a word adds to the words after it, once it is the last of n
unfoldable pub folded : ℕ → List ℕ → ℕ → ℕ
folded n [] w = 0
folded n (e ∷ es) w = bit_xor (w % 2 ^ 32 * 2 ^ (32 * (n - (1 + e)))) (folded n es w)

module _ (h : List ℕ) (w : ℕ) where
  next_at : (e : ℕ) → e < length h →
      words_of (drop e (drop 1 (h ++ w ∷ []))) ≡ bit_xor (words_of (drop e h) / 2 ^ 32)
      (w % 2 ^ 32 * 2 ^ (32 * (length h - (1 + e))))
  next_at e l =
      let f : e + 1 ≡ 1 + e = omega arith in
      rw (
        drop-drop e 1 (h ++ w ∷ []),
        drop-append-le (1 + e) h (w ∷ []) (omega arith),
        words_more
            (drop (1 + e) h) w,
        length-drop (1 + e) h,
        words_high (drop e h),
        drop-drop 1 e h,
        f,
      )

  pub pending_next : (es : List ℕ) → Below (length h) es
      → pending es (drop 1 (h ++ w ∷ [])) ≡ bit_xor (pending es h / 2 ^ 32) (folded (length h) es w)
  unfolding pending folded
  pending_next [] l = refl
  pending_next (e ∷ es) l =
      let x = w % 2 ^ 32 * 2 ^ (32 * (length h - (1 + e))) in
      ap₂ bit_xor (next_at e l.0) (pending_next es l.1)
      ∙ xor_swap (words_of (drop e h) / 2 ^ 32) x (pending es h / 2 ^ 32) (folded (length h) es w)
      ∙ ap (λ (u : ℕ). bit_xor u (bit_xor x (folded (length h) es w)))
      (sym (xor_shr (words_of (drop e h)) (pending es h) 32))

pending_none : (es : List ℕ) (n : ℕ) → pending es (replicate n 0) ≡ 0
unfolding pending
pending_none [] n = refl
pending_none (e ∷ es) n = rw (words_none n e, pending_none es n)

-- 138 words later nothing is pending
pub pending_end : (z : List ℕ) → drop 137 z ≡ zeros 85 → pending exponents (drop 138 z) ≡ 0
unfolding zeros
pending_end z e = rw (← drop-drop 1 137 z, e) (pending_none exponents 84)

pending_zeros : (es h : List ℕ) (n : ℕ) → Below (length h) es → pending es (h ++ replicate n 0) ≡ pending es h
unfolding pending
pending_zeros [] h n l = refl
pending_zeros (e ∷ es) h n l =
    rw (drop-append-le e h (replicate n 0) (omega (arith, l.0)), words_zeros (drop e h) n, pending_zeros es h n l.1)

pub cleared : (l z : List ℕ) → length l ≡ 137 → z ≡ l ++ zeros 85
    → (drop 137 z ≡ zeros 85) × (pending exponents z ≡ pending exponents l)
unfolding zeros
cleared l z n e = (
  ap (drop 137) e ∙ drop_at l (replicate 85 0) 137 n,
  ap (pending exponents) e
      ∙ pending_zeros exponents l 85 (rw n (omega arith)),
)

pub pending_first : (n w : ℕ) → w < 2 ^ 32 → pending exponents (w ∷ replicate n 0) ≡ w
unfolding pending words_of
pending_first n w h =
    rw (
      words_none n 83,
      words_none n 79,
      words_none n 69,
      words_none n 28,
      words_none n 7,
      words_none n 0,
      mod-eq_of_lt
          h,
      zero-add w,
    )
    (xor_zero_r w)

-- ---- the last n words of a list, when the next is stored

drop_take : (n : ℕ) (l : List ℕ) → drop 1 (take (suc n) l) ≡ take n (drop 1 l)
drop_take n [] = sym (take-nil n)
drop_take n (x ∷ l) = refl

pub window : (j n : ℕ) (b : List ℕ) (w : ℕ) → j + n < length b
    → part (j + 1) n (set b (j + n) w) ≡ drop 1 (part j n b ++ w ∷ [])
window j n b w h =
    rw (
      ← take-suc-set (drop j b) n w (rw (length-drop j b) (omega arith)),
      ← drop-set-add j b n w,
      drop_take n
          (drop j (set b (j + n) w)),
      drop-drop 1 j (set b (j + n) w),
    )
