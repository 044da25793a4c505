-- Laws of lists joined of rows of one width. Assumes nothing.
use mathlib.Core.Path.{◌≡◌, refl, sym, ap, ◌∙◌, subst}
use mathlib.Core.Logic.{⊎_elim}
use mathlib.Core.List.{List, [], ◌++◌, append_assoc, append-nil}
use Prim.Native.Nat.{ℕ, zero, suc, ◌+◌, ◌*◌, ◌-◌, ◌≤◌, ◌<◌}
use native.Mathlib.Nat.{add-zero, add-suc, add-mul, suc-mul, zero-mul, mul-le-mul_right}
use native.Mathlib.Numerals.{add-one}
use native.Mathlib.Omega.{arith}
use lib.ListN.{length, take, drop, get_or, length-append, get_or-append}
use lib.Seq.{take_at, drop_at, take-add, drop-append-add, drop-drop, get_or-append-add}
use Rattle.base.specs.Below.{concat_below}
use Rattle.base.specs.Lists.{part, put}
use Rattle.base.proofs.Below.{below_suc}
use Rattle.base.proofs.Stores.{put_next}

pub rows_length : (n w : ℕ) (f : ℕ → List ℕ) → ((i : ℕ) → length (f i) ≡ w) → length (concat_below n f) ≡ n * w
rows_length zero w f h = omega arith
rows_length (suc n) w f h = rw length-append (omega (arith, rows_length n w f h, h n))

-- a row stored behind the rows so far
put_end : (k : ℕ) (a row d : List ℕ) → length a ≡ k → put k row (a ++ drop k d) ≡ (a ++ row) ++ drop (k + length row) d
put_end k a row d e =
    let t : take k (a ++ drop k d) ≡ a = take_at a (drop k d) k e in
    let r : drop (k + length row) (a ++ drop k d) ≡ drop (k + length row) d =
    subst (λ (m : ℕ). drop (m + length row) (a ++ drop k d) ≡ drop (k + length row) d) e
    (drop-append-add a (drop k d) (length row) ∙ drop-drop (length row) k d) in
    rw (t, r) (sym (append_assoc a row (drop (k + length row) d)))

-- one row of w words more
pub rows_step : (i w : ℕ) (f : ℕ → List ℕ) (d : List ℕ) → ((j : ℕ) → length (f j) ≡ w)
    → put (i * w) (f i) (concat_below i f ++ drop (i * w) d) ≡ concat_below (suc i) f ++ drop (suc i * w) d
rows_step i w f d h =
    let e : suc i * w ≡ i * w + length (f i) = omega (arith, h i) in
    rw e (put_end (i * w) (concat_below i f) (f i) d (rows_length i w f h))

-- words beyond the rows stay
pub rows_tail : (i n w : ℕ) (f : ℕ → List ℕ) (d : List ℕ) → ((j : ℕ) → length (f j) ≡ w) → i ≤ n
    → drop (n * w) (concat_below i f ++ drop (i * w) d) ≡ drop (n * w) d
rows_tail i n w f d h l =
    let q : i * w ≤ n * w = mul-le-mul_right w l in
    let e : n * w ≡ length (concat_below i f) + (n * w - i * w) = omega (arith, rows_length i w f h) in
    let r : i * w + (n * w - i * w) ≡ n * w = omega arith in
    rw e (drop-append-add (concat_below i f) (drop (i * w) d) (n * w - i * w)
    ∙ rw (drop-drop (n * w - i * w) (i * w) d, rows_length i w f h))

-- word j of row i
pub row_word : (n w : ℕ) (f : ℕ → List ℕ) (r : List ℕ) → ((i : ℕ) → length (f i) ≡ w) → (i j : ℕ) → i < n → j < w
    → get_or (concat_below n f ++ r) (i * w + j) 0 ≡ get_or (f i) j 0
row_word zero w f r h i j k l = absurd (omega arith)
row_word (suc n) w f r h i j k l =
    rw (append_assoc (concat_below n f) (f n) r)
    (⊎_elim
    (λ (q : i < n). row_word n w f (f n ++ r) h i j q l)
    (λ (q : i ≡ n).
    let e : length (concat_below n f) ≡ n * w = rows_length n w f h in
    rw (q, ← e) (get_or-append-add (concat_below n f) (f n ++ r) j 0 ∙ get_or-append (f n) r 0 j (omega (arith, h n))))
    (below_suc n i k))

pub row_first : (n w : ℕ) (f : ℕ → List ℕ) (r : List ℕ) → ((i : ℕ) → length (f i) ≡ w) → (i : ℕ) → i < n → 0 < w
    → get_or (concat_below n f ++ r) (i * w) 0 ≡ get_or (f i) 0 0
row_first n w f r h i k l = rw add-zero at (row_word n w f r h i 0 k l)

-- row i
row_of : (n w : ℕ) (f : ℕ → List ℕ) (r : List ℕ) → ((i : ℕ) → length (f i) ≡ w) → (i : ℕ) → i < n
    → part (i * w) w (concat_below n f ++ r) ≡ f i
row_of zero w f r h i k = absurd (omega arith)
row_of (suc n) w f r h i k =
    rw (append_assoc (concat_below n f) (f n) r)
    (⊎_elim
    (λ (q : i < n). row_of n w f (f n ++ r) h i q)
    (λ (q : i ≡ n).
    rw q (ap (take w) (drop_at (concat_below n f) (f n ++ r) (n * w) (rows_length n w f h)) ∙ take_at (f n) r w (h n)))
    (below_suc n i k))

pub row_part : (n w : ℕ) (f : ℕ → List ℕ) → ((i : ℕ) → length (f i) ≡ w) → (i : ℕ) → i < n
    → part (i * w) w (concat_below n f) ≡ f i
row_part n w f h i k = rw append-nil at (row_of n w f [] h i k)

-- the rows of a list, of w words each
pub rows_of : (n w : ℕ) (s : List ℕ) → concat_below n (λ i. part (i * w) w s) ≡ take (n * w) s
rows_of zero w s = rw zero-mul
rows_of (suc n) w s = rw (suc-mul, rows_of n w s) (sym (take-add (n * w) w s))

-- rows from k on that are empty add nothing
pub concat_short : {A : Type 0} (k n : ℕ) (f : ℕ → List A) → k ≤ n → ((i : ℕ) → k ≤ i → f i ≡ [])
    → concat_below n f ≡ concat_below k f
concat_short k zero f h e = let z : k ≡ 0 = omega arith in rw z
concat_short k (suc n) f h e =
    ⊎_elim
    (λ (q : k < suc n). rw (e n (omega arith), append-nil) (concat_short k n f (omega arith) e))
    (λ (q : k ≡ suc n). rw q)
    (below_suc (suc n) k (omega arith))

-- rows that are the same
pub concat_cong : {A : Type 0} (n : ℕ) (f h : ℕ → List A) → ((i : ℕ) → i < n → f i ≡ h i)
    → concat_below n f ≡ concat_below n h
concat_cong zero f h e = refl
concat_cong (suc n) f h e = rw (concat_cong n f h (λ i k. e i (omega arith)), e n (omega arith))

-- rows in two runs
pub concat_add : {A : Type 0} (p m : ℕ) (f : ℕ → List A)
    → concat_below (p + m) f ≡ concat_below p f ++ concat_below m (λ (l : ℕ). f (p + l))
concat_add p zero f = rw (add-zero, append-nil)
concat_add p (suc m) f = rw (add-suc, concat_add p m f) (append_assoc (concat_below p f) _ (f (p + m)))

-- one row of w words more behind l rows that are stored from row `first` on
pub rows_next : (first l w : ℕ) (f : ℕ → List ℕ) (s : List ℕ) {at : ℕ} {x y r : List ℕ} → ((j : ℕ) → length (f j) ≡ w)
    → (first + l) * w ≤ length s → x ≡ put (first * w) (concat_below l f) s → r ≡ f l → at ≡ (first + l) * w
    → y ≡ put at r x → y ≡ put (first * w) (concat_below (l + 1) f) s
rows_next first l w f s long h q u k t =
    let e : (first + l) * w ≡ first * w + l * w = add-mul first l w in
    t ∙ rw (k, e, q, u, add-one)
    (put_next (first * w) (l * w) (concat_below l f) (f l) s (rows_length l w f long) (omega (arith, e)))
