-- 02 2026-01: the builder's slip, "a slip with volume fields before tag 0 (tag 16, volume 0 first: ..)". Assumes
-- nothing.
use Rattle.std.specs.Prelude.{ℕ, zero, suc, ◌+◌, Bool, not, ◌&&◌, cond, List, [], ◌∷◌, leb, length}
use Rattle.base.specs.Answers.{Answer, refused, map_o, all_of}
use Rattle.base.specs.Below.{first_below}
use Rattle.base.specs.Lists.{part, eqs}
use Rattle.field.specs.Fields.{field, number_in}
use Rattle.geometry.specs.Slip.{head_rules, head_geometry, ends_at}
use Rattle.geometry.specs.declared.Geometry.{Geometry}
use Rattle.report.specs.Scan.{when}
use Rattle.report.specs.Volumes.{or_zero}

-- 01: "fields of one-byte tag, two-byte length, value": the length of the field at `at`
unfoldable pub length_at : List ℕ → ℕ → ℕ
length_at s at = number_in (field (at + 1) 2) s

-- does a volume field stand at `at`: "tag 16", and "any length that the slip holds"?
unfoldable pub volume_field_at : List ℕ → ℕ → Bool
volume_field_at s at = eqs (part at 1 s) (16 ∷ []) && leb (at + (3 + length_at s at)) (length s)

-- where field i after the three of 01's head starts, if those before it are volume fields
unfoldable pub field_start : List ℕ → ℕ → ℕ
field_start s zero = 17
field_start s (suc i) = field_start s i + (3 + length_at s (field_start s i))

-- how many volume fields there are: the number of the first field that is not one. Each takes at least 3 bytes, so some
-- field is not
unfoldable pub volume_count : List ℕ → ℕ
volume_count s =
    or_zero (map_o (λ (x : ℕ × ℕ). x.0)
    (first_below (suc (length s)) (λ i. when (not (volume_field_at s (field_start s i))) 0)))

-- the head of 01's slip, "volume fields before tag 0", and the tail of 01's slip
unfoldable pub builder_slip : List ℕ → Bool
builder_slip s = all_of (head_rules s) && ends_at (field_start s (volume_count s)) s

-- refusal 1, then refusal 2
unfoldable pub builder_geometry : List ℕ → Answer Geometry
builder_geometry s = cond (builder_slip s) (head_geometry s) (refused 1 0)

-- the value of volume field v
unfoldable pub volume_field : List ℕ → ℕ → List ℕ
volume_field s v = part (field_start s v + 3) (length_at s (field_start s v)) s
