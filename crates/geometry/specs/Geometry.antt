-- 01 'The slip and the geometry': the rules of a flash chip's geometry. Assumes nothing.
use Rattle.std.specs.Prelude.{ℕ, ◌+◌, ◌-◌, ◌*◌, ◌/◌, ◌%◌, ◌^◌, Bool, cond, List, [], ◌∷◌, eqb, leb, Result, Ok, Err}
use Rattle.base.specs.Answers.{Answer, given, refused, all_of}
use Rattle.base.specs.Below.{any_below}
use Rattle.geometry.specs.declared.Geometry.{Geometry}
use Rattle.geometry.specs.declared.SlipError.{SlipError}
use Rattle.geometry.specs.declared.SlipError.TheVariants.{Malformed, Outside}

-- "powers of two, 1 to 4,096"
unfoldable pub good_unit : ℕ → Bool
good_unit n = any_below 13 (λ k. eqb n (2 ^ k))

-- the smallest multiple of m (above 0) that is at least x: `round_at_least`, `round_multiple`, `round_least` of proofs
unfoldable pub round_up : ℕ → ℕ → ℕ
round_up m x = (x + (m - 1)) / m * m

-- "The VID header starts at the smallest multiple of the sub-unit that is at least 64"
unfoldable pub vid_start_of : ℕ → ℕ
vid_start_of sub = round_up sub 64

-- "data start at the smallest multiple of the unit at least 64 beyond that"
unfoldable pub data_start_of : ℕ → ℕ → ℕ
data_start_of unit sub = round_up unit (vid_start_of sub + 64)

-- "LEB size is PEB size less data start"
unfoldable pub leb_size_of : ℕ → ℕ → ℕ → ℕ
leb_size_of peb unit sub = peb - data_start_of unit sub

-- the rules of PEB size, unit and sub-unit, in 01's order
unfoldable pub geometry_rules : ℕ → ℕ → ℕ → List Bool
geometry_rules peb unit sub =
    -- "Unit and sub-unit are powers of two, 1 to 4,096, sub-unit not above unit."
    good_unit unit ∷ good_unit sub ∷ leb sub unit
    -- "PEB size is 1,024 to 262,144 and a multiple of the unit."
    ∷ leb 1024 peb ∷ leb peb 262144 ∷ eqb (peb % unit) 0
    -- "LEB size is .. at least 172"
    ∷ leb 172 (leb_size_of peb unit sub) ∷ []

-- the geometry of three numbers
unfoldable pub make_geometry : ℕ → ℕ → ℕ → Geometry
make_geometry peb unit sub = record {
  peb_size = peb;
  unit = unit;
  sub_unit = sub;
  vid_start = vid_start_of sub;
  data_start = data_start_of unit sub;
  leb_size = leb_size_of peb unit sub;
}

-- refusal 2: "geometry outside its rules"
unfoldable pub geometry_of : ℕ → ℕ → ℕ → Answer Geometry
geometry_of peb unit sub = cond (all_of (geometry_rules peb unit sub)) (given (make_geometry peb unit sub)) (refused 2 0)

-- what each case of the answer is in 01
abbrev pub geometry_read : Result Geometry SlipError → Answer Geometry
geometry_read (Ok g) = given g
geometry_read (Err Malformed) = refused 1 0
geometry_read (Err Outside) = refused 2 0
