-- Fields of a run of bytes, each given by its offset and width. Assumes nothing.
use Rattle.std.specs.Prelude.{ℕ, List, [], ◌∷◌, get_or}
use Rattle.base.specs.Lists.{part, put}
use Rattle.field.specs.Be.{be_of, to_be}
use Rattle.field.specs.declared.Field.{Field}

-- the field of `width` bytes from `at` on
abbrev pub field : ℕ → ℕ → Field
field at width = record { at = at; width = width }

-- row i of a table of fields
abbrev pub row : List Field → ℕ → Field
row fields i = get_or fields i (field 0 0)

-- the bytes of a field of s, and the number in them
abbrev pub bytes_in : Field → List ℕ → List ℕ
bytes_in f s = part f.at f.width s

abbrev pub number_in : Field → List ℕ → ℕ
number_in f s = be_of (bytes_in f s)

-- s with the number v stored in a field
abbrev pub stored : Field → ℕ → List ℕ → List ℕ
stored f v s = put f.at (to_be f.width v) s

-- s with several numbers stored, the first of them first
abbrev pub stored_all : List (Field × ℕ) → List ℕ → List ℕ
stored_all [] s = s
stored_all (x ∷ xs) s = stored_all xs (stored x.0 x.1 s)
