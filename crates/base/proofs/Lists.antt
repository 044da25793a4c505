-- Laws of lists of numbers: what a loop that reads, stores, compares or fills needs. Assumes nothing.
use mathlib.Core.Path.{◌≡◌, refl, sym, ap, ap₂, subst, ◌∙◌}
use mathlib.Core.Bool.{Bool, true, ◌&&◌}
use mathlib.Core.Logic.{⊎_elim}
use mathlib.Core.List.{List, [], ◌∷◌, ◌++◌, map, append_assoc, Memᴰ}
use Prim.Native.Nat.{ℕ, zero, suc, ◌+◌, ◌*◌, ◌-◌, ◌≤◌, ◌<◌}
use native.Mathlib.Nat.{add-suc, suc-add, add-zero, zero-add, sub-zero, zero-sub, suc-sub-suc, add-sub_cancel_left}
use native.Mathlib.Nat.{not-suc-le-zero, le_of_suc-le-suc}
use native.Mathlib.Numerals.{add-one}
use native.Mathlib.Omega.{arith}
use borrow.Author.Tests.{eq-eqb, eqb-true}
use lib.Dec.{T, eqb, lit<}
use lib.Pointwise.{pointwise}
use lib.ListN.{length, take, drop, get_or, set, replicate, length-take, length-drop, length-map, take-append-drop}
use lib.ListN.{get_or-append}
use lib.Seq.{take_all, take-nil, take-take, drop-drop, drop_at, take-append_seam, get_or-drop}
use lib.Seq.{get_or-append-add, drop-nil}
use Rattle.base.proofs.Answers.{by_test, and_left, and_right}
use Rattle.base.specs.Lists.{part, put, eqs, table, rows, Bytes}

-- ---- parts and stores

-- the part from i to the end
pub to_end_lem : (i : ℕ) (s : List ℕ) → take (length s - i) (drop i s) ≡ drop i s
to_end_lem i s = take_all (length s - i) (drop i s) (omega (arith, length-drop i s))

pub length_part : (at n : ℕ) (s : List ℕ) → at + n ≤ length s → length (part at n s) ≡ n
length_part at n s h = simp (length-take, length-drop) (omega arith)

pub part_put : (at : ℕ) (bs s : List ℕ) → at + length bs ≤ length s → part at (length bs) (put at bs s) ≡ bs
part_put at bs s h =
    let e : length (take at s) ≡ at = simp length-take (omega arith) in
    rw (drop_at, take-append_seam)

pub put_part : (at n : ℕ) (s : List ℕ) → at + n ≤ length s → put at (part at n s) s ≡ s
put_part at n s h = rw (length_part at n s h, ← drop-drop n at s, take-append-drop, take-append-drop)

pub drop_take : {A : Type 0} (s m : ℕ) (b : List A) → drop s (take m b) ≡ take (m - s) (drop s b)
drop_take zero m b = rw sub-zero
drop_take (suc s) zero b = rw zero-sub
drop_take (suc s) (suc m) [] = rw take-nil
drop_take (suc s) (suc m) (x ∷ b) = rw suc-sub-suc (drop_take s m b)

-- a part that lies in the front, and a part of a part
pub part_take : (at n m : ℕ) (s : List ℕ) → at + n ≤ m → part at n (take m s) ≡ part at n s
part_take at n m s h = rw drop_take (take-take n (m - at) (drop at s) (omega arith))

pub part_part : (i n at m : ℕ) (s : List ℕ) → i + n ≤ m → part i n (part at m s) ≡ part (at + i) n s
part_part i n at m s h = part_take i n m (drop at s) h ∙ rw (drop-drop i at s)

-- the front of two lists joined, and what is behind it
pub take_joined : {A : Type 0} (n : ℕ) (s t : List A) → take n (s ++ t) ≡ take n s ++ take (n - length s) t
take_joined n [] t = rw (sub-zero, take-nil)
take_joined zero (x ∷ s) t = rw zero-sub
take_joined (suc n) (x ∷ s) t = rw suc-sub-suc (ap (λ l. x ∷ l) (take_joined n s t))

pub drop_joined : {A : Type 0} (n : ℕ) (s t : List A) → drop n (s ++ t) ≡ drop n s ++ drop (n - length s) t
drop_joined n [] t = rw (sub-zero, drop-nil)
drop_joined zero (x ∷ s) t = rw zero-sub
drop_joined (suc n) (x ∷ s) t = rw suc-sub-suc (drop_joined n s t)

-- a part that is lent as `s[at..at + n]`
pub lent_part : (at n : ℕ) (s : List ℕ) → take (at + n - at) (drop at s) ≡ part at n s
lent_part at n s = rw add-sub_cancel_left

pub lent_length : (at n : ℕ) (s : List ℕ) → at + n ≤ length s → length (take (at + n - at) (drop at s)) ≡ n
lent_length at n s h = rw add-sub_cancel_left (length_part at n s h)

-- ---- members

module _ {A : Type 0} (d : A) where
  pub get_d_mem : (l : List A) (k : ℕ) → k < length l → Memᴰ (get_or l k d) l
  get_d_mem [] k h = absurd (not-suc-le-zero h)
  get_d_mem (x ∷ l) zero h = mathlib.Core.List.Memᴰ.head refl
  get_d_mem (x ∷ l) (suc k) h = mathlib.Core.List.Memᴰ.tail (get_d_mem l k (le_of_suc-le-suc h))

  pub mem_get_d : (l : List A) (x : A) → Memᴰ x l → (k : ℕ) × (k < length l) × (get_or l k d ≡ x)
  mem_get_d [] x m = absurd (mathlib.Core.List.Memᴰ.not-nil m)
  mem_get_d (y ∷ l) x m =
      ⊎_elim
      (λ (q : x ≡ y). (0, omega arith, sym q))
      (λ (q : Memᴰ x l). let r = mem_get_d l x q in (suc r.0, omega (arith, r.1), r.2))
      (mathlib.Core.List.Memᴰ.cases_cons m)

-- ---- bytes

pub bytes_drop : (n : ℕ) (l : List ℕ) → Bytes l → Bytes (drop n l)
bytes_drop n l b k = rw get_or-drop (b (n + k))

pub bytes_take : (n : ℕ) (l : List ℕ) → Bytes l → Bytes (take n l)
bytes_take zero l b k = lit< tt
bytes_take (suc n) [] b k = lit< tt
bytes_take (suc n) (x ∷ l) b zero = b 0
bytes_take (suc n) (x ∷ l) b (suc k) = bytes_take n l (λ j. b (suc j)) k

pub bytes_part : (at n : ℕ) (l : List ℕ) → Bytes l → Bytes (part at n l)
bytes_part at n l b = bytes_take n (drop at l) (bytes_drop at l b)

-- the same as a product, which is easier to show of a list that is put together
abbrev pub EachByte : List ℕ → Type 0
EachByte [] = Unit {0}
EachByte (x ∷ xs) = (x < 256) × EachByte xs

pub each_append : (a b : List ℕ) → EachByte a → EachByte b → EachByte (a ++ b)
each_append [] b p q = q
each_append (x ∷ a) b p q = (p.0, each_append a b p.1 q)

pub each_zero : (n : ℕ) → EachByte (replicate n 0)
each_zero zero = tt
each_zero (suc n) = (lit< tt, each_zero n)

pub bytes_each : (l : List ℕ) → EachByte l → Bytes l
bytes_each [] e k = lit< tt
bytes_each (x ∷ l) e zero = e.0
bytes_each (x ∷ l) e (suc k) = bytes_each l e.1 k

-- ---- comparison

pub eqs_refl : (a : List ℕ) → eqs a a ≡ true
unfolding eqs
eqs_refl [] = refl
eqs_refl (x ∷ a) = rw (eq-eqb x x refl) (eqs_refl a)

pub eqs_true : (a b : List ℕ) → eqs a b ≡ true → a ≡ b
unfolding eqs
eqs_true [] [] e = refl
eqs_true [] (y ∷ b) e = cc
eqs_true (x ∷ a) [] e = cc
eqs_true (x ∷ a) (y ∷ b) e =
    ap₂ (λ (z : ℕ) (l : List ℕ). z ∷ l) (eqb-true x y (and_left (eqb x y) (eqs a b) e))
    (eqs_true a b (and_right (eqb x y) (eqs a b) e))

-- what `==` of slices answers
pub eqs_pairs : (a b : List ℕ) → pointwise eqb a b ≡ eqs a b
unfolding eqs
eqs_pairs [] [] = refl
eqs_pairs [] (y ∷ b) = refl
eqs_pairs (x ∷ a) [] = refl
eqs_pairs (x ∷ a) (y ∷ b) = rw (eqs_pairs a b)

-- two lists, compared by a test that computes
pub same : (xs ys : List ℕ) → T (eqs xs ys) → xs ≡ ys
same xs ys t = by_test (eqs xs ys) (eqs_true xs ys) (λ e. absurd (subst T e t))

-- ---- tables by a rule

module _ {A : Type 0} where
  pub table_from_lem : (f : ℕ → A) (d : A) (i n k : ℕ) → k < n → get_or (table f i n) k d ≡ f (i + k)
  table_from_lem f d i zero k h = absurd (not-suc-le-zero h)
  table_from_lem f d i (suc n) zero h = ap f (sym (add-zero i))
  table_from_lem f d i (suc n) (suc k) h =
      table_from_lem f d (suc i) n k (le_of_suc-le-suc h) ∙ ap f (suc-add i k ∙ sym (add-suc i k))

  pub table_length : (f : ℕ → A) (i n : ℕ) → length (table f i n) ≡ n
  table_length f i zero = refl
  table_length f i (suc n) = ap suc (table_length f (suc i) n)

  pub table_at : (f : ℕ → A) (d : A) (n k : ℕ) → k < n → get_or (table f 0 n) k d ≡ f k
  table_at f d n k h = table_from_lem f d 0 n k h ∙ ap f (zero-add k)

  fill_suc : (f : ℕ → A) (k n : ℕ) (d : List A) → n < length d
      → set (table f k n ++ drop n d) n (f (k + n)) ≡ table f k (suc n) ++ drop (suc n) d
  fill_suc f k n [] l = absurd (not-suc-le-zero l)
  fill_suc f k zero (x ∷ d) l = rw add-zero
  fill_suc f k (suc n) (x ∷ d) l =
      rw (add-suc, ← suc-add) (ap (λ (t : List A). f k ∷ t) (fill_suc f (suc k) n d (le_of_suc-le-suc l)))

  -- a list filled by a rule: one store more
  pub fill_more : (f : ℕ → A) (n : ℕ) (d : List A) → n < length d
      → set (table f 0 n ++ drop n d) n (f n) ≡ table f 0 (n + 1) ++ drop (n + 1) d
  fill_more f n d l = rw add-one (rw zero-add at (fill_suc f 0 n d l))

-- f j times
abbrev pub times : (ℕ → ℕ) → ℕ → ℕ → ℕ
times f zero x = x
times f (suc j) x = times f j (f x)

map_at : (f : ℕ → ℕ) (l : List ℕ) (k : ℕ) → k < length l → get_or (map f l) k 0 ≡ f (get_or l k 0)
map_at f [] k h = absurd (not-suc-le-zero h)
map_at f (x ∷ l) zero h = refl
map_at f (x ∷ l) (suc k) h = map_at f l k (le_of_suc-le-suc h)

-- entry k of row j
pub row_at : (f : ℕ → ℕ) (n : ℕ) (l : List ℕ) (j k : ℕ) → j < n → k < length l
    → get_or (rows f n l) (j * length l + k) 0 ≡ times f j (get_or l k 0)
row_at f zero l j k h g = absurd (not-suc-le-zero h)
row_at f (suc n) l zero k h g =
    let e : 0 * length l + k ≡ k = omega arith in
    rw e (get_or-append l (rows f n (map f l)) 0 k g)
row_at f (suc n) l (suc j) k h g =
    let e : suc j * length l + k ≡ length l + (j * length (map f l) + k) = rw length-map (omega arith) in
    let g' : k < length (map f l) = rw length-map g in
    rw (e, get_or-append-add l (rows f n (map f l)), row_at f n (map f l) j k (le_of_suc-le-suc h) g', map_at f l k)

-- ---- a rule of a table: one test that computes over all entries holds at each

module _ {A : Type 0} where
  abbrev pub every : (A → Bool) → List A → Bool
  every p [] = true
  every p (x ∷ xs) = p x && every p xs

  pub every_entry : (p : A → Bool) (d : A) → p d ≡ true → (xs : List A) → every p xs ≡ true → (k : ℕ)
      → p (get_or xs k d) ≡ true
  every_entry p d z [] t k = z
  every_entry p d z (x ∷ xs) t zero = and_left (p x) (every p xs) t
  every_entry p d z (x ∷ xs) t (suc k) = every_entry p d z xs (and_right (p x) (every p xs) t) k

-- ---- words behind a place, where the lists behind an earlier one are equal

pub behind : (a b : ℕ) (l m : List ℕ) → a ≤ b → drop a l ≡ drop a m → drop b l ≡ drop b m
behind a b l m h e =
    let q : b ≡ a + (b - a) = omega arith in
    rw (q, ← (drop-drop (b - a) a l), ← (drop-drop (b - a) a m), e)

pub word_behind : (a j : ℕ) (l m : List ℕ) → a ≤ j → drop a l ≡ drop a m → get_or l j 0 ≡ get_or m j 0
word_behind a j l m h e =
    let q : j ≡ a + (j - a) = omega arith in
    rw (q, ← (get_or-drop a l (j - a) 0), ← (get_or-drop a m (j - a) 0), e)
