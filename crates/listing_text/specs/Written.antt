-- What inner contracts and proofs here cite: a text written at a place of a buffer, as far as the buffer goes, and the
-- lines of a table one by one. No public promise names it. Assumes nothing.
use Rattle.std.specs.Prelude.{◌≡◌, List, [], ◌∷◌, ℕ, zero, suc, ◌+◌, length, get_or}
use Rattle.words.specs.Words.{class_word, counter_word, volume_word, lnum_word, peb_word}
use Rattle.listing_text.specs.Text.{peb_line, map_line, vol_line}

-- s with t stored from `at` on, as far as s goes
abbrev pub clipped : ℕ → List ℕ → List ℕ → List ℕ
clipped at t [] = []
clipped (suc at) t (y ∷ s) = y ∷ clipped at t s
clipped zero [] (y ∷ s) = y ∷ s
clipped zero (x ∷ t) (y ∷ s) = x ∷ clipped zero t s

-- t was written at `at` into s, which is s' then; r is the place after it
pub record Written (s : List ℕ) (at : ℕ) (t : List ℕ) (r : ℕ) (s' : List ℕ) : Type 0 where
  pub after : r ≡ at + length t
  pub bytes : s' ≡ clipped at t s

-- the line of each row of a table
abbrev pub peb_line_at : List ℕ → ℕ → List ℕ
peb_line_at pebs i = peb_line i (class_word pebs i) (counter_word pebs i)

abbrev pub map_line_at : List ℕ → ℕ → List ℕ
map_line_at map i = map_line (volume_word map i) (lnum_word map i) (peb_word map i)

abbrev pub vol_line_at : List ℕ → ℕ → List ℕ
vol_line_at states v = vol_line v (get_or states v 0)
