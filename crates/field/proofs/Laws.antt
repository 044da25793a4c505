-- Laws of the big-endian fields. Assumes nothing.
use mathlib.Core.Path.{◌≡◌, refl, sym, ap, ◌∙◌, subst}
use Prim.Native.Nat.{ℕ, zero, suc, ◌+◌, ◌*◌, ◌/◌, ◌%◌, ◌^◌, ◌-◌, ◌≤◌, ◌<◌}
use mathlib.Core.List.{List, [], ◌∷◌, ◌++◌, append_assoc, append-nil}
use native.Mathlib.Nat.{pow-suc, pow-le-pow_right, one-le-pow, mod-one, mod-eq_of_lt, suc-add, not-suc-le-zero, add-suc}
use native.Mathlib.Nat.{add-sub_cancel_left, zero-add, add-zero, mul_comm, mul_assoc, one-mul}
use native.Mathlib.Numerals.{add-one, sub-one}
use native.Mathlib.Omega.{arith}
use mathlib.Core.Bool.{Bool, true, ◌&&◌}
use borrow.Author.Tests.{leb-true, le-leb}
use lib.Dec.{leb, lit<}
use lib.Arith.{mod-mul, digits_div, digits_mod}
use lib.ListN.{length, take, drop, get_or, set, length-set, take-append-drop}
use lib.Seq.{take-suc, take-length, drop-cons, take-set-le, get_or-set_same, drop-set-lt}
use Rattle.base.specs.Lists.{part, put, Bytes}
use Rattle.base.proofs.Answers.{and_left, and_right}
use Rattle.base.proofs.Lists.{part_put, bytes_part, bytes_take, bytes_drop, length_part, lent_length, EachByte, every}
use Rattle.base.proofs.Lists.{every_entry}
use Rattle.field.specs.declared.Field.{Field}
use Rattle.field.specs.Be.{be_from, be_of, to_be_on, to_be}
use Rattle.field.specs.Fields.{field, row}

be_from_snoc : (acc : ℕ) (l : List ℕ) (b : ℕ) → be_from acc (l ++ (b ∷ [])) ≡ be_from acc l * 256 + b
unfolding be_from
be_from_snoc acc [] b = refl
be_from_snoc acc (x ∷ l) b = be_from_snoc (acc * 256 + x) l b

pub be_of_next : (s : List ℕ) (i : ℕ) → i < length s
    → be_of (take (i + 1) s) ≡ be_of (take i s) * 256 + get_or s i 0
be_of_next s i h = rw (add-one, take-suc s i 0, be_from_snoc)

-- ---- storing

-- what is left of a store of the lowest i bytes of v, at the list s
pub left_to : ℕ → ℕ → ℕ → List ℕ → List ℕ
left_to at i v s = take at s ++ to_be_on i v (drop (at + i) s)

pub store_step : (at i v : ℕ) (s : List ℕ) → 0 < i → at + i ≤ length s
    → left_to at (i - 1) (v / 256) (set s (at + (i - 1)) (v % 256)) ≡ left_to at i v s
unfolding left_to to_be_on
store_step at zero v s h k = absurd (not-suc-le-zero h)
store_step at (suc j) v s h k =
    let z : at + j < length s = omega arith in
    let z' : at + j < length (set s (at + j) (v % 256)) = rw length-set z in
    let le : at ≤ at + j = omega arith in
    let lt : at + j < suc (at + j) = omega arith in
    rw (sub-one, take-set-le, drop-cons (set s (at + j) (v % 256)) (at + j) 0, get_or-set_same, drop-set-lt, add-suc)

to_be_on_append : (n v : ℕ) (a : List ℕ) → to_be_on n v a ≡ to_be_on n v [] ++ a
unfolding to_be_on
to_be_on_append zero v a = refl
to_be_on_append (suc n) v a =
    rw (to_be_on_append n (v / 256) (v % 256 ∷ a), to_be_on_append n (v / 256) (v % 256 ∷ []), append_assoc)

length_to_be_on : (n v : ℕ) (a : List ℕ) → length (to_be_on n v a) ≡ n + length a
unfolding to_be_on
length_to_be_on zero v a = sym (zero-add (length a))
length_to_be_on (suc n) v a = omega (arith, length_to_be_on n (v / 256) (v % 256 ∷ a))

pub length_to_be : (n v : ℕ) → length (to_be n v) ≡ n
length_to_be n v = omega (arith, length_to_be_on n v [])

pub store_all : (at n v : ℕ) (s : List ℕ) → left_to at n v s ≡ put at (to_be n v) s
unfolding left_to
store_all at n v s = simp (length_to_be, to_be_on_append n v (drop (at + n) s))

pub store_none : (at v : ℕ) (s : List ℕ) → left_to at 0 v s ≡ s
unfolding left_to to_be_on
store_none at v s = rw (add-zero, take-append-drop)

-- ---- round trips

be_from_to_be_on : (n v acc : ℕ) (t : List ℕ) → be_from acc (to_be_on n v t) ≡ be_from (acc * 256 ^ n + v % 256 ^ n) t
unfolding to_be_on be_from
be_from_to_be_on zero v acc t = ap (λ (k : ℕ). be_from k t) (omega (arith, mod-one v))
be_from_to_be_on (suc n) v acc t =
    be_from_to_be_on n (v / 256) acc (v % 256 ∷ t)
    ∙ ap (λ (k : ℕ). be_from k t)
    (rw (pow-suc, mod-mul v {m = 256 ^ n} {c = 256} (one-le-pow n 256 (lit< tt)) (lit< tt)) (omega arith))

-- a number that was stored is read back, as far as its bytes go
pub read_back : (n v : ℕ) → be_of (to_be n v) ≡ v % 256 ^ n
unfolding be_from
read_back n v = be_from_to_be_on n v 0 [] ∙ omega arith

pub read_back_fits : (n v : ℕ) → v < 256 ^ n → be_of (to_be n v) ≡ v
read_back_fits n v h = read_back n v ∙ mod-eq_of_lt h

to_be_on_be_from : (l : List ℕ) → Bytes l → (n acc : ℕ) (t : List ℕ)
    → to_be_on (length l + n) (be_from acc l) t ≡ to_be_on n acc (l ++ t)
unfolding be_from to_be_on
to_be_on_be_from [] b n acc t = rw zero-add
to_be_on_be_from (x ∷ l) b n acc t =
    let bx : x < 256 = b 0 in
    rw (suc-add, ← add-suc, to_be_on_be_from l (λ k. b (suc k)) (suc n) (acc * 256 + x) t, digits_div, digits_mod)

-- bytes that were read are stored back
pub store_back : (l : List ℕ) → Bytes l → to_be (length l) (be_of l) ≡ l
unfolding to_be_on
store_back l b = rw (add-zero, append-nil) at (to_be_on_be_from l b 0 0 [])

-- "reading gives back what was written", at any place and width
pub read_written : (at n v : ℕ) (s : List ℕ) → at + n ≤ length s → v < 256 ^ n
    → be_of (part at n (put at (to_be n v) s)) ≡ v
read_written at n v s h k =
    let e : length (to_be n v) ≡ n = length_to_be n v in
    let p = part_put at (to_be n v) s (omega (arith, e)) in
    ap be_of (subst (λ (m : ℕ). part at m (put at (to_be n v) s) ≡ to_be n v) e p) ∙ read_back_fits n v k

-- "writing gives back what was read", at any place and width
pub written_read : (at n : ℕ) (s : List ℕ) → at + n ≤ length s → Bytes s → to_be n (be_of (part at n s)) ≡ part at n s
written_read at n s h b = rw (length_part at n s h) at (store_back (part at n s) (bytes_part at n s b))

each_to_be_on : (n v : ℕ) (a : List ℕ) → EachByte a → EachByte (to_be_on n v a)
unfolding to_be_on
each_to_be_on zero v a p = p
each_to_be_on (suc n) v a p = each_to_be_on n (v / 256) (v % 256 ∷ a) (omega arith, p)

pub each_to_be : (n v : ℕ) → EachByte (to_be n v)
each_to_be n v = each_to_be_on n v [] tt

be_from_lt : (l : List ℕ) → Bytes l → (acc most : ℕ) → acc < most → be_from acc l < most * 256 ^ length l
unfolding be_from
be_from_lt [] b acc most h = omega arith
be_from_lt (x ∷ l) b acc most h =
    let bx : x < 256 = b 0 in
    let i : be_from (acc * 256 + x) l < most * 256 * 256 ^ length l = be_from_lt l (λ k. b (suc k)) (acc * 256 + x)
    (most * 256) (omega arith) in
    rw (pow-suc, mul_comm (256 ^ length l) 256, ← mul_assoc) i

-- a field of bytes is as large as its width allows
pub field_lt : (at n : ℕ) (s : List ℕ) → at + n ≤ length s → Bytes s → be_of (part at n s) < 256 ^ n
field_lt at n s h b =
    rw (length_part at n s h, one-mul) at (be_from_lt (part at n s) (bytes_part at n s b) 0 1 (lit< tt))

-- the bytes that are read, lent as `s[at..at + n]`
module _ (at n : ℕ) (s : List ℕ) (h : at + n ≤ length s) where
  abbrev lent : List ℕ
  lent = take (at + n - at) (drop at s)

  -- one byte more, of at most eight
  pub next_fits : (i : ℕ) → Bytes s → n ≤ 8 → i < length lent → be_of (take i lent) * 256 + get_or lent i 0 < 256 ^ 8
  next_fits i b w k =
      let e : length lent ≡ n = lent_length at n s h in
      let l = field_lt 0 (i + 1) lent (omega arith) (bytes_take (at + n - at) (drop at s) (bytes_drop at s b)) in
      let m : 256 ^ (i + 1) ≤ 256 ^ 8 = pow-le-pow_right {n = 256} (lit< tt) {i = i + 1} {j = 8} (omega arith) in
      rw (← be_of_next lent i k) (omega (arith, l, m))

  -- after the last of them
  pub all_read : (i : ℕ) → i ≡ length lent → be_of (take i lent) ≡ be_of (part at n s)
  all_read i e = rw (e, take-length, add-sub_cancel_left)

-- ---- tables of fields

-- the field ends within `size` bytes, and is `most` bytes wide at most
abbrev pub fit : ℕ → ℕ → Field → Bool
fit size most f = leb (f.at + f.width) size && leb f.width most

pub rows_fit : (size most : ℕ) (fields : List Field) → every (fit size most) fields ≡ true
    → (i : ℕ) → ((row fields i).at + (row fields i).width ≤ size) × ((row fields i).width ≤ most)
rows_fit size most fields e i =
    let f = row fields i in
    let z : fit size most (field 0 0) ≡ true = rw (le-leb 0 size (omega arith), le-leb 0 most (omega arith)) in
    let t : fit size most f ≡ true = every_entry (fit size most) (field 0 0) z fields e i in (
      leb-true _ _ (and_left (leb (f.at + f.width) size) (leb f.width most) t),
      leb-true _ _ (and_right (leb (f.at + f.width) size) (leb f.width most) t),
    )
