-- Stores into lists of numbers, and runs of one number. Assumes nothing.
use mathlib.Core.Path.{◌≡◌, refl, sym, ◌∙◌, ap}
use mathlib.Core.Logic.{⊎_elim}
use mathlib.Core.List.{List, [], ◌∷◌, ◌++◌, append_assoc, append-nil}
use Prim.Native.Nat.{ℕ, zero, suc, ◌+◌, ◌-◌, ◌≤◌, ◌<◌, min}
use native.Mathlib.Nat.{add_assoc, add-zero, zero-add}
use native.Mathlib.Omega.{arith}
use lib.ListN.{length, take, drop, replicate, length-append, length-take, length-drop, take-append-drop}
use lib.ListN.{drop_of_length-le}
use lib.Seq.{take-append_seam, drop-append_seam, take_at, drop_at, take-append-le, drop-append-le, take-append-add}
use lib.Seq.{drop-append-add, length-take-le, drop-drop, drop-length, take_all}
use Rattle.base.specs.Lists.{part, put, Bytes}
use Rattle.base.proofs.Below.{lt_or_le}
use Rattle.base.proofs.Lists.{length_part, take_joined, drop_joined, bytes_take, bytes_drop}

-- ---- stores

module _ (at : ℕ) (bs s : List ℕ) (h : at + length bs ≤ length s) where
  pub length_put : length (put at bs s) ≡ length s
  length_put = simp (length-append, length-take, length-drop) (omega arith)

  -- from where it begins
  pub put_from : drop at (put at bs s) ≡ bs ++ drop (at + length bs) s
  put_from = drop_at (take at s) (bs ++ drop (at + length bs) s) at (length-take-le at s (omega arith))

  -- what lies before stays
  pub put_before : (a m : ℕ) → a + m ≤ at → part a m (put at bs s) ≡ part a m s
  put_before a m k = left ∙ sym right
    where
      la : length (take at s) ≡ at
      la = length-take-le at s (omega arith)

      lm : m ≤ length (drop a (take at s))
      lm = simp (length-drop, la) (omega arith)

      left : take m (drop a (take at s ++ (bs ++ drop (at + length bs) s))) ≡ take m (drop a (take at s))
      left =
          rw (drop-append-le a (take at s) (bs ++ drop (at + length bs) s) (omega (arith, la)))
          (take-append-le m (drop a (take at s)) (bs ++ drop (at + length bs) s) lm)

      right : take m (drop a s) ≡ take m (drop a (take at s))
      right =
          ap (λ (x : List ℕ). take m (drop a x)) (sym (take-append-drop at s))
          ∙ rw (drop-append-le a (take at s) (drop at s) (omega (arith, la)))
          (take-append-le m (drop a (take at s)) (drop at s) lm)

  -- what lies behind stays
  pub put_behind : (a : ℕ) → at + length bs ≤ a → drop a (put at bs s) ≡ drop a s
  put_behind a k =
      let r : ℕ = a - (at + length bs) in
      let e : a ≡ at + (length bs + r) = omega arith in
      rw e
      (sym (drop-drop (length bs + r) at (put at bs s))
      ∙ ap (drop (length bs + r)) put_from
      ∙ drop-append-add bs (drop (at + length bs) s) r
      ∙ drop-drop r (at + length bs) s
      ∙ ap (λ (n : ℕ). drop n s) (add_assoc at (length bs) r))

-- a store into the first, or the second, of two lists
put_left : (at : ℕ) (bs x y : List ℕ) → at + length bs ≤ length x → put at bs (x ++ y) ≡ put at bs x ++ y
put_left at bs x y h =
    let k : at ≤ length x = omega arith in
    rw (take-append-le at x y k, drop-append-le (at + length bs) x y h) (sym (simp append_assoc))

put_right : (at : ℕ) (bs x y : List ℕ) → put (length x + at) bs (x ++ y) ≡ x ++ put at bs y
put_right at bs x y =
    let e : length x + at + length bs ≡ length x + (at + length bs) = omega arith in
    rw (e, take-append-add x y at, drop-append-add x y (at + length bs))
    (append_assoc x (take at y) (bs ++ drop (at + length bs) y))

-- a store within a part
pub part_put_in : (b size at : ℕ) (bs s : List ℕ) → at + length bs ≤ size → b + size ≤ length s
    → part b size (put (b + at) bs s) ≡ put at bs (part b size s)
part_put_in b size at bs s h k =
    ap (part b size) whole ∙ ap (take size) (drop_at x _ b lx)
    ∙ take_at (put at bs y) z size (length_put at bs y (omega (arith, ly)) ∙ ly)
  where
    x : List ℕ
    x = take b s

    y : List ℕ
    y = part b size s

    z : List ℕ
    z = drop size (drop b s)

    lx : length x ≡ b
    lx = length-take-le b s (omega arith)

    ly : length y ≡ size
    ly = length-take-le size (drop b s) (simp length-drop (omega arith))

    is : s ≡ x ++ (y ++ z)
    is = sym (take-append-drop b s) ∙ ap (λ (r : List ℕ). x ++ r) (sym (take-append-drop size (drop b s)))

    whole : put (b + at) bs s ≡ x ++ (put at bs y ++ z)
    whole =
        ap (put (b + at) bs) is ∙ ap (λ (m : ℕ). put (m + at) bs (x ++ (y ++ z))) (sym lx) ∙ put_right at bs x (y ++ z)
        ∙ ap (λ (r : List ℕ). x ++ r) (put_left at bs y z (omega (arith, ly)))

-- a store over the middle of three lists
pub put_middle : (n : ℕ) (bs x y z : List ℕ) → length x ≡ n → length bs ≡ length y
    → put n bs (x ++ (y ++ z)) ≡ x ++ (bs ++ z)
put_middle n bs x y z e f =
    rw (← e, take-append_seam x (y ++ z), drop-append-add x (y ++ z) (length bs), f, drop-append_seam y z)

-- a store over the whole list
pub put_all : (bs s : List ℕ) → length bs ≡ length s → put 0 bs s ≡ bs
put_all bs s e = rw (zero-add, e, drop-length, append-nil)

-- a store into bytes that were stored before
pub put_in_put : (at k : ℕ) (bs x s : List ℕ) → k + length bs ≤ length x → at + length x ≤ length s
    → put (at + k) bs (put at x s) ≡ put at (put k bs x) s
put_in_put at k bs x s h l =
    let z : List ℕ = drop (at + length x) s in
    let e : length (take at s) ≡ at = length-take-le at s (omega arith) in
    ap (λ (m : ℕ). put (m + k) bs (put at x s)) (sym e) ∙ put_right k bs (take at s) (x ++ z)
    ∙ ap (λ (r : List ℕ). take at s ++ r) (put_left k bs x z h)
    ∙ ap (λ (m : ℕ). take at s ++ (put k bs x ++ drop (at + m) s)) (sym (length_put k bs x h))

-- a store right behind another
pub put_next : (at n : ℕ) (a b s : List ℕ) → length a ≡ n → at + n ≤ length s
    → put (at + n) b (put at a s) ≡ put at (a ++ b) s
put_next at n a b s e l =
    let x : List ℕ = take at s ++ a in
    let y : List ℕ = drop (at + length a) s in
    let q : length x ≡ at + n = rw (length-append, length-take-le at s (omega arith), e) in
    let p : x ++ y ≡ put at a s = append_assoc (take at s) a y in
    let k : at + length a + length b ≡ at + length (a ++ b) = rw length-append (omega arith) in
    ap (λ (m : ℕ). put m b (put at a s)) (sym q ∙ sym (add-zero (length x))) ∙ ap (put (length x + 0) b) (sym p)
    ∙ put_right 0 b x y ∙ rw (zero-add, drop-drop (length b) (at + length a) s, k)
    (append_assoc (take at s) a (b ++ drop (at + length (a ++ b)) s)
    ∙ ap (λ (r : List ℕ). take at s ++ r) (sym (append_assoc a b (drop (at + length (a ++ b)) s))))

-- up to its end
pub take_put : (at : ℕ) (bs s : List ℕ) → at ≤ length s → take (at + length bs) (put at bs s) ≡ take at s ++ bs
take_put at bs s h =
    rw (← append_assoc (take at s) bs (drop (at + length bs) s))
    (take_at (take at s ++ bs) (drop (at + length bs) s) (at + length bs) (rw (length-append, length-take-le at s h)))

-- nothing stored
pub put_none : (at : ℕ) (s : List ℕ) → put at [] s ≡ s
put_none at s = rw add-zero (take-append-drop at s)

-- n bytes from `at` on, of which all were stored
pub stored_part : (at n : ℕ) (bs all : List ℕ) {y : List ℕ} → at + n ≤ length all → length bs ≡ n
    → y ≡ bs ++ drop n (part at (at + n - at) all)
    → take at all ++ (y ++ drop (at + n - at) (drop at all)) ≡ put at bs all
stored_part at n bs all {y} h l e =
    let k : at + n - at ≡ n = omega arith in
    let z : drop n (part at n all) ≡ [] = drop_of_length-le (part at n all) {i = n}
    (omega (arith, length_part at n all h)) in
    rw (e, k, z, append-nil, drop-drop n at all, l)

-- all that is there, where there are not so many
pub take_min : (n : ℕ) (s : List ℕ) → take (min n (length s)) s ≡ take n s
take_min n s =
    ⊎_elim
    (λ (h : n < length s). let e : min n (length s) ≡ n = omega arith in rw e)
    (λ (h : length s ≤ n).
    let e : min n (length s) ≡ length s = omega arith in
    rw e (take_all (length s) s (omega arith) ∙ sym (take_all n s h)))
    (lt_or_le n (length s))

-- ---- runs of one number

pub drop_replicate : (x s m : ℕ) → drop s (replicate m x) ≡ replicate (m - s) x
drop_replicate x zero m = let e : m - 0 ≡ m = omega arith in rw e
drop_replicate x (suc s) zero = let e : 0 - suc s ≡ 0 = omega arith in rw e
drop_replicate x (suc s) (suc m) = let e : suc m - suc s ≡ m - s = omega arith in rw e (drop_replicate x s m)

pub take_replicate : (x s m : ℕ) → s ≤ m → take s (replicate m x) ≡ replicate s x
take_replicate x zero m h = refl
take_replicate x (suc s) zero h = absurd (omega arith)
take_replicate x (suc s) (suc m) h = ap (λ (l : List ℕ). x ∷ l) (take_replicate x s m (omega arith))

-- a part of a list with a run behind it, which the part does not outreach
pub part_padded : (x b n k : ℕ) (s : List ℕ) → b + n ≤ length s + k
    → part b n (s ++ replicate k x) ≡ part b n s ++ replicate (n - length (part b n s)) x
part_padded x b n k s h =
    let e : n - length (drop b s) ≡ n - length (part b n s) = omega (arith, length-take n (drop b s)) in
    rw (drop_joined, take_joined, e, drop_replicate)
    (ap (λ (t : List ℕ). part b n s ++ t)
    (take_replicate x (n - length (part b n s)) (k - (b - length s)) (omega (arith, e, length-drop b s))))

-- ---- bytes

pub bytes_append : (a b : List ℕ) → Bytes a → Bytes b → Bytes (a ++ b)
bytes_append [] b p q k = q k
bytes_append (x ∷ a) b p q zero = p 0
bytes_append (x ∷ a) b p q (suc k) = bytes_append a b (λ (j : ℕ). p (suc j)) q k

pub bytes_put : (at : ℕ) (bs s : List ℕ) → Bytes bs → Bytes s → Bytes (put at bs s)
bytes_put at bs s p q =
    bytes_append (take at s) (bs ++ drop (at + length bs) s) (bytes_take at s q)
    (bytes_append bs (drop (at + length bs) s) p (bytes_drop (at + length bs) s q))
