-- What private contracts cite: the look-up table and words of bytes. No public promise names them. Assumes nothing.
use Rattle.std.specs.Prelude.{ℕ, ◌+◌, ◌*◌, List, [], ◌∷◌}
use Rattle.base.specs.Lists.{table, rows}
use Rattle.crc32.specs.Crc.{crc_bits}

-- the number of a list of bytes, the lowest first
unfoldable pub le_of : List ℕ → ℕ
le_of [] = 0
le_of (b ∷ bs) = le_of bs * 256 + b

-- 24 rows of sixteen entries: entry k of row j is k after 4 (j + 1) shifts
unfoldable pub crc_rows : List ℕ
crc_rows = rows (crc_bits 4) 24 (table (crc_bits 4) 0 16)
