-- 01 'The slip and the geometry': "An image is 2 to 4,096 whole PEBs." Assumes nothing.
use Rattle.std.specs.Prelude.{ℕ, ◌/◌, ◌%◌, Bool, List, [], ◌∷◌, eqb, leb, length}
use Rattle.geometry.specs.declared.Geometry.{Geometry}

-- the number of whole PEBs
abbrev pub peb_count_of : Geometry → List ℕ → ℕ
peb_count_of g image = length image / g.peb_size

-- refusal 3: "image not 2 to 4,096 whole PEBs"
unfoldable pub image_rules : Geometry → List ℕ → List Bool
image_rules g image = eqb (length image % g.peb_size) 0 ∷ leb 2 (peb_count_of g image) ∷ leb (peb_count_of g image) 4096 ∷ []
