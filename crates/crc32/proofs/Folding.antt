-- A word of a message may be folded: left out, and added to what follows. Assumes nothing.
use mathlib.Core.Path.{◌≡◌, refl, sym, ap, ap₂, ◌∙◌}
use Prim.Native.Nat.{ℕ, ◌+◌, ◌*◌, ◌-◌, ◌/◌, ◌%◌, ◌^◌, ◌≤◌, ◌<◌}
use mathlib.Core.List.{List, [], ◌∷◌}
use native.Mathlib.Nat.{mod-lt, mod-eq_of_lt}
use native.Mathlib.Omega.{arith}
use lib.Bits.{bit_xor, xor_zero_l, xor_zero_r, xor_self, xor_comm, xor_lt}
use lib.Pow.{pow_pos}
use lib.ListN.{length, take, drop, set, length-drop, length-set}
use lib.Seq.{drop-drop}
use Rattle.base.specs.Lists.{part, Bytes}
use Rattle.base.proofs.Lists.{bytes_drop, length_part}
use Rattle.crc32.specs.Crc.{crc_bits, crc_from}
use Rattle.crc32.specs.Table.{le_of}
use Rattle.crc32.specs.Fold.{exponents, pending}
use Rattle.crc32.proofs.Xor.{xor_assoc}
use Rattle.crc32.proofs.Laws.{crc_bits_xor, crc_bits_add, crc_bits_shift, crc_bits_split, crc_bits_lt, crc_from_word}
use Rattle.crc32.proofs.LookUp.{four_lt, crc_from_part}
use Rattle.crc32.proofs.Sparse.{sum_of, crc_bits_zero, sparse}
use Rattle.crc32.proofs.Pending.{Below, folded, pending_high, low_take, low_set, pending_next, window}

-- ---- a folded word

equal : (a b : ℕ) → bit_xor a b ≡ 0 → a ≡ b
equal a b h =
    sym (xor_zero_r a) ∙ ap (bit_xor a) (sym (xor_self b)) ∙ sym (xor_assoc a b b) ∙ ap (λ (x : ℕ). bit_xor x b) h
    ∙ xor_zero_l b

-- k bits later, k shifts fewer
later : (k e m d w : ℕ) → m ≡ k + (d + e) → crc_bits m (w * 2 ^ k) ≡ crc_bits e (crc_bits d w)
later k e m d w h = rw (h, crc_bits_add k (d + e) (w * 2 ^ k), crc_bits_shift k w) (crc_bits_add d e w)

module _ (m d w : ℕ) (all : m ≡ d + 4352) where
  folded_sum : (es : List ℕ) → Below 137 es → crc_bits m (folded 137 es w) ≡ sum_of 32 es (crc_bits d (w % 2 ^ 32))
  unfolding folded sum_of
  folded_sum [] l = crc_bits_zero m
  folded_sum (e ∷ es) l =
      let k = 32 * (137 - (1 + e)) in
      let h : m ≡ k + (d + e * 32) = omega (arith, l.0) in
      crc_bits_xor m (w % 2 ^ 32 * 2 ^ k) (folded 137 es w)
      ∙ ap₂ bit_xor (later k (e * 32) m d (w % 2 ^ 32) h) (folded_sum es l.1)

  left_out : crc_bits m (crc_bits 32 (w % 2 ^ 32)) ≡ crc_bits m (folded 137 exponents w)
  unfolding sum_of
  left_out =
      let x = w % 2 ^ 32 in
      let n : 32 + m ≡ d + 4384 = omega arith in
      sym (crc_bits_add 32 m x) ∙ ap (λ (k : ℕ). crc_bits k x) n ∙ crc_bits_add d 4384 x
      ∙ equal _ _ (sparse (crc_bits d x) (crc_bits_lt d x (mod-lt w (pow_pos 32))))
      ∙ sym (folded_sum exponents (omega arith))

-- ---- in a list of bytes

-- what is added to the state is shifted through by itself
crc_from_xor : (a b : ℕ) (t : List ℕ) → Bytes t
    → crc_from (bit_xor a b) t ≡ bit_xor (crc_from a t) (crc_bits (8 * length t) b)
crc_from_xor a b t h =
    rw (
      crc_from_word (bit_xor a b) t h,
      crc_from_word a t h,
      xor_assoc a b (le_of t),
      xor_comm b (le_of t),
      ← xor_assoc a
          (le_of t) b,
    )
    (crc_bits_xor (8 * length t) (bit_xor a (le_of t)) b)

-- the lowest word of a number goes through the register, the others move down
through : (p x : ℕ) → crc_bits 32 (bit_xor p x) ≡ bit_xor (p / 2 ^ 32) (crc_bits 32 (bit_xor (p % 2 ^ 32) x))
through p x =
    rw (crc_bits_xor 32 p x, crc_bits_split 32 p, crc_bits_xor 32 (p % 2 ^ 32) x)
    (xor_assoc (p / 2 ^ 32) (crc_bits 32 (p % 2 ^ 32)) (crc_bits 32 x))

-- the number p is pending for the bytes from i on: w is their first word, with what is pending for it
module _ (p w i : ℕ) (s : List ℕ) (bs : Bytes s) (is : w ≡ bit_xor (p % 2 ^ 32) (le_of (part i 4 s))) where
  -- the word goes through the register, with the state
  word_step : (c : ℕ) → i + 4 ≤ length s
      → crc_from (bit_xor (p / 2 ^ 32) (crc_bits 32 (bit_xor c w))) (drop (i + 4) s) ≡ crc_from (bit_xor p c) (drop i s)
  word_step c h =
      let u = le_of (part i 4 s) in
      let q = p % 2 ^ 32 in
      let e : bit_xor c w ≡ bit_xor q (bit_xor c u) =
      ap (bit_xor c) is ∙ sym (xor_assoc c q u) ∙ ap (λ (x : ℕ). bit_xor x u) (xor_comm c q) ∙ xor_assoc q c u in
      rw (e, ← through p (bit_xor c u), ← xor_assoc p c u) (crc_from_part 4 (bit_xor p c) i s bs h)

  -- the word is folded
  fold_step : i + 556 ≤ length s
      → crc_from (bit_xor (p / 2 ^ 32) (folded 137 exponents w)) (drop (i + 4) s) ≡ crc_from p (drop i s)
  fold_step h =
      let t = drop (i + 4) s in
      let bt = bytes_drop (i + 4) s bs in
      let m = 8 * length t in
      let g : m ≡ m - 4352 + 4352 = rw (length-drop (i + 4) s) (omega arith) in
      let fits : w < 2 ^ 32 = rw is (xor_lt 32 (p % 2 ^ 32) (le_of (part i 4 s)) (mod-lt p (pow_pos 32))
      (four_lt i s bs (omega arith))) in
      crc_from_xor (p / 2 ^ 32) (folded 137 exponents w) t bt
      ∙ ap (bit_xor (crc_from (p / 2 ^ 32) t)) (sym (left_out m (m - 4352) w g))
      ∙ sym (crc_from_xor (p / 2 ^ 32) (crc_bits 32 (w % 2 ^ 32)) t bt)
      ∙ rw (mod-eq_of_lt fits, ← xor_zero_l w) (rw (xor_zero_r p) at (word_step 0 (omega arith)))

-- ---- a turn of each loop

-- w is word j of the bytes, with what is pending for it
abbrev Sum : List ℕ → List ℕ → ℕ → ℕ → Type 0
Sum b s j w = w ≡ bit_xor (pending exponents (drop j b) % 2 ^ 32) (le_of (part (4 * j) 4 s))

module _ (b s : List ℕ) (j w : ℕ) (bs : Bytes s) (is : Sum b s j w) where
  word_folded : (i k : ℕ) → i ≡ j + 1 → k ≡ j + 137 → k < length b → 4 * i + 552 ≤ length s →
      crc_from (pending exponents (part i 137 (set b k w))) (drop (4 * i) s) ≡ crc_from (pending exponents (part j 137 b))
      (drop (4 * j) s)
  word_folded i k ei ek below h =
      let l = part j 137 b in
      let n : length l ≡ 137 = length_part j 137 b (omega arith) in
      let e : 4 * (j + 1) ≡ 4 * j + 4 = omega arith in
      let f : w ≡ bit_xor (pending exponents l % 2 ^ 32) (le_of (part (4 * j) 4 s)) =
      is ∙ ap (λ (x : ℕ). bit_xor x (le_of (part (4 * j) 4 s)))
      (sym (low_take 137 0 85 exponents (drop j b) (omega arith) (omega arith))) in
      rw (ei, ek, window j 137 b w (omega arith), pending_next l w exponents (rw n (omega arith)), n, e)
      (fold_step (pending exponents l) w (4 * j) s bs f (omega arith))

  -- no word is folded any more
  pub reduce_turn : (c : ℕ) → j < 138 → 4 * (j + 1) ≤ length s →
      crc_from (bit_xor (pending exponents (drop (j + 1) (take 222 b))) (crc_bits 32 (bit_xor c w))) (drop (4 * (j + 1)) s)
      ≡ crc_from (bit_xor (pending exponents (drop j (take 222 b))) c) (drop (4 * j) s)
  reduce_turn c below h =
      let z = take 222 b in
      let e : 4 * (j + 1) ≡ 4 * j + 4 = omega arith in
      let f : w ≡ bit_xor (pending exponents (drop j z) % 2 ^ 32) (le_of (part (4 * j) 4 s)) =
      is ∙ ap (λ (x : ℕ). bit_xor x (le_of (part (4 * j) 4 s)))
      (sym (low_take 222 j 85 exponents b (omega arith) (omega arith))) in
      rw (← drop-drop 1 j z, ← pending_high exponents (drop j z), e)
      (word_step (pending exponents (drop j z)) w (4 * j) s bs f c (omega arith))

-- a later word is stored
still : (i k u w : ℕ) (b s : List ℕ) → i + 85 ≤ k → Sum b s i w → Sum (set b k u) s i w
still i k u w b s h e = e ∙ ap (λ (x : ℕ). bit_xor x (le_of (part (4 * i) 4 s))) (sym (low_set i k u b h))

pub fold_turn : (b s : List ℕ) (j u v w x : ℕ) → Bytes s → length b ≡ 649 → j + 4 ≤ 512 → 4 * (j + 4) + 552 ≤ length s →
    Sum b s j u → Sum b s (j + 1) v → Sum b s (j + 2) w → Sum b s (j + 3) x →
    crc_from (pending exponents
    (part (j + 4) 137 (set (set (set (set b (j + 137) u) (j + 138) v) (j + 139) w) (j + 140) x))) (drop (4 * (j + 4)) s)
    ≡ crc_from (pending exponents (part j 137 b)) (drop (4 * j) s)
fold_turn b s j u v w x bs long below h eu ev ew ex =
    let b₁ = set b (j + 137) u in
    let b₂ = set b₁ (j + 138) v in
    let b₃ = set b₂ (j + 139) w in
    let n₁ : length b₁ ≡ 649 = length-set b (j + 137) u ∙ long in
    let n₂ : length b₂ ≡ 649 = length-set b₁ (j + 138) v ∙ n₁ in
    let n₃ : length b₃ ≡ 649 = length-set b₂ (j + 139) w ∙ n₂ in
    let ev₁ = still (j + 1) (j + 137) u v b s (omega arith) ev in
    let ew₂ = still (j + 2) (j + 138) v w b₁ s (omega arith) (still (j + 2) (j + 137) u w b s (omega arith) ew) in
    let ex₃ =
    still (j + 3) (j + 139) w x b₂ s (omega arith)
    (still (j + 3) (j + 138) v x b₁ s (omega arith) (still (j + 3) (j + 137) u x b s (omega arith) ex)) in
    word_folded b₃ s (j + 3) x bs ex₃ (j + 4) (j + 140) (omega arith) (omega arith) (omega arith) (omega arith)
    ∙ word_folded b₂ s (j + 2) w bs ew₂ (j + 3) (j + 139) (omega arith) (omega arith) (omega arith) (omega arith)
    ∙ word_folded b₁ s (j + 1) v bs ev₁ (j + 2) (j + 138) (omega arith) (omega arith) (omega arith) (omega arith)
    ∙ word_folded b s j u bs eu (j + 1) (j + 137) refl refl (omega arith) (omega arith)
