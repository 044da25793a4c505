-- Lists of numbers: parts, stores, comparison, tables by a rule. Assumes nothing.
use Rattle.std.specs.Prelude.{ℕ, zero, suc, ◌+◌, ◌<◌, Bool, true, false, ◌&&◌, List, [], ◌∷◌, ◌++◌, map, eqb, length, take, drop, get_or}

-- the n elements from `at` on
abbrev pub part : ℕ → ℕ → List ℕ → List ℕ
part at n s = take n (drop at s)

-- s with bs stored from `at` on, where they fit
abbrev pub put : ℕ → List ℕ → List ℕ → List ℕ
put at bs s = take at s ++ (bs ++ drop (at + length bs) s)

-- are two lists equal?
unfoldable pub eqs : List ℕ → List ℕ → Bool
eqs [] [] = true
eqs [] (y ∷ ys) = false
eqs (x ∷ xs) [] = false
eqs (x ∷ xs) (y ∷ ys) = eqb x y && eqs xs ys

-- the table of a rule: f at i, i + 1, .. : n entries
abbrev pub table : {A : Type 0} → (ℕ → A) → ℕ → ℕ → List A
table f i zero = []
table f i (suc n) = f i ∷ table f (suc i) n

-- n rows, the first of them l, each the row before it under f
abbrev pub rows : (ℕ → ℕ) → ℕ → List ℕ → List ℕ
rows f zero l = []
rows f (suc n) l = l ++ rows f n (map f l)

-- every element is a byte
abbrev pub Bytes : List ℕ → Type 0
Bytes l = (k : ℕ) → get_or l k 0 < 256
