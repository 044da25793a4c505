-- 01 'The slip and the geometry': the slip that precedes the image. Assumes nothing.
use Rattle.std.specs.Prelude.{ℕ, ◌+◌, Bool, ◌&&◌, cond, List, [], ◌∷◌, leb, length, drop}
use Rattle.base.specs.Answers.{Answer, refused, all_of}
use Rattle.base.specs.Lists.{part, eqs}
use Rattle.field.specs.Be.{be_of, to_be}
use Rattle.geometry.specs.Geometry.{geometry_of}
use Rattle.geometry.specs.declared.Geometry.{Geometry}

-- "fields of one-byte tag, two-byte length, value": does the field at `at` have them?
unfoldable pub has_field : ℕ → ℕ → ℕ → List ℕ → Bool
has_field at tag len s = eqs (part at 3 s) (tag ∷ to_be 2 len)

-- the value of the field at `at`
unfoldable pub value_at : ℕ → ℕ → List ℕ → ℕ
value_at at len s = be_of (part (at + 3) len s)

-- the head: "In this order, each once: tag 1, length 4, PEB size; tag 2, length 2, unit; tag 3, length 2, sub-unit"
unfoldable pub head_rules : List ℕ → List Bool
head_rules s = leb 17 (length s) ∷ has_field 0 1 4 s ∷ has_field 7 2 2 s ∷ has_field 12 3 2 s ∷ []

-- the geometry of its three numbers, or refusal 2
abbrev pub head_geometry : List ℕ → Answer Geometry
head_geometry s = geometry_of (value_at 0 4 s) (value_at 7 2 s) (value_at 12 2 s)

-- the tail: "tag 0, length 0" at `at`, and nothing after it
unfoldable pub ends_at : ℕ → List ℕ → Bool
ends_at at s = eqs (drop at s) (0 ∷ to_be 2 0)

unfoldable pub well_formed : List ℕ → Bool
well_formed s = all_of (head_rules s) && ends_at 17 s

-- refusal 1: "slip malformed"; then refusal 2
unfoldable pub slip_geometry : List ℕ → Answer Geometry
slip_geometry s = cond (well_formed s) (head_geometry s) (refused 1 0)

-- the same of a head alone, whatever follows it
unfoldable pub head_read : List ℕ → Answer Geometry
head_read s = cond (all_of (head_rules s)) (head_geometry s) (refused 1 0)
