-- What private contracts cite: what folded words add to those after them. No public promise names it. Assumes nothing.
use Rattle.std.specs.Prelude.{ℕ, ◌+◌, ◌*◌, ◌%◌, ◌^◌, List, [], ◌∷◌, drop, replicate}
use Rattle.std.specs.Int.Bits.{bit_xor}

-- the number of a list of words of 32 bits, the lowest first
unfoldable pub words_of : List ℕ → ℕ
words_of [] = 0
words_of (w ∷ ws) = words_of ws * 2 ^ 32 + w % 2 ^ 32

-- 1 + x^8 + x^29 + x^70 + x^80 + x^84 + x^137 is a multiple of the polynomial of IEEE 802.3, and so is the same with
-- every exponent times 32. In the reflected order of bits: a word may be left out if it is added to those 137 less each
-- exponent places after it
abbrev pub exponents : List ℕ
exponents = 84 ∷ 80 ∷ 70 ∷ 29 ∷ 8 ∷ 0 ∷ []

-- what the last 137 words that were folded add to the words after them
unfoldable pub pending : List ℕ → List ℕ → ℕ
pending [] h = 0
pending (e ∷ es) h = bit_xor (words_of (drop e h)) (pending es h)

-- n zero words
unfoldable pub zeros : ℕ → List ℕ
zeros n = replicate n 0
