-- Words of 64 bits that C lends: are they a struct's? Assumes nothing.
use Rattle.std.specs.Prelude.{Bool, true, false, ◌&&◌, List, [], ◌∷◌, ℕ, suc, ◌≤◌, leb, length, get_or}

-- is there a word for each limit, and none above its limit?
unfoldable pub fits : List ℕ → List ℕ → Bool
fits ws [] = true
fits [] (m ∷ ms) = false
fits (w ∷ ws) (m ∷ ms) = leb w m && fits ws ms

-- are the words from the k-th on, one by one, not above their limits?
abbrev pub BelowFrom : ℕ → List ℕ → List ℕ → Type 0
BelowFrom k ws [] = Unit {0}
BelowFrom k ws (m ∷ ms) = (get_or ws k 0 ≤ m) × BelowFrom (suc k) ws ms

-- `fits`, word by word, as contracts of inner functions ask for it
abbrev pub Within : List ℕ → List ℕ → Type 0
Within ws most = (length most ≤ length ws) × BelowFrom 0 ws most
