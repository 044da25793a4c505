-- 01: "Numbers on flash and in the slip are big-endian." Assumes nothing.
use Rattle.std.specs.Prelude.{ℕ, zero, suc, ◌+◌, ◌*◌, ◌/◌, ◌%◌, List, [], ◌∷◌}

-- the number whose bytes are those of the list, after the bytes that make up `acc`
unfoldable pub be_from : ℕ → List ℕ → ℕ
be_from acc [] = acc
be_from acc (b ∷ bs) = be_from (acc * 256 + b) bs

-- the number of a list of bytes, the highest first
abbrev pub be_of : List ℕ → ℕ
be_of bs = be_from 0 bs

-- the lowest n bytes of v, before the bytes `acc`
unfoldable pub to_be_on : ℕ → ℕ → List ℕ → List ℕ
to_be_on zero v acc = acc
to_be_on (suc n) v acc = to_be_on n (v / 256) (v % 256 ∷ acc)

-- the lowest n bytes of v, the highest first
abbrev pub to_be : ℕ → ℕ → List ℕ
to_be n v = to_be_on n v []
