-- 01 'The volume table': a table's records, the table taken, the copies mark. Assumes nothing.
use Rattle.std.specs.Prelude.{ℕ, ◌-◌, ◌*◌, ◌/◌, min, Bool, not, ◌&&◌, ◌||◌, cond, List, [], ◌∷◌, eqb, ltb, leb, length, take, Option, Some, None}
use Rattle.std.specs.Int.Bits.{bit_and}
use Rattle.base.specs.Answers.{Answer, given, refused, all_of}
use Rattle.base.specs.Below.{all_below, any_below, count_below, sum_below}
use Rattle.base.specs.Lists.{part, eqs}
use Rattle.volume_record.specs.Record.{record_of, is_empty, record_good}

-- "There are as many as fit a LEB, at most 128."
unfoldable pub record_count : ℕ → ℕ
record_count size = min 128 (size / 172)

-- the records' part of a layout LEB's content
unfoldable pub records_part : ℕ → List ℕ → List ℕ
records_part size content = take (172 * record_count size) content

-- record i of a table
abbrev pub record_at : List ℕ → ℕ → List ℕ
record_at t i = part (172 * i) 172 t

-- "A table is good if all records are": empty or good
unfoldable pub empty_or_good : ℕ → ℕ → List ℕ → Bool
empty_or_good size unit r = is_empty r || record_good size unit r

-- the name bytes of a record
unfoldable pub name_of : List ℕ → List ℕ
name_of r = take (record_of r).name_length (record_of r).name

-- two nonempty records with "the same name bytes"
unfoldable pub same_names : List ℕ → List ℕ → Bool
same_names a b = not (is_empty a) && (not (is_empty b) && eqs (name_of a) (name_of b))

-- flag "1 (autoresize)" is set
unfoldable pub autoresizes : List ℕ → Bool
autoresizes r = eqb (bit_and (record_of r).flags 1) 1

-- "PEB count less 2"; 0 where there are fewer than 2, which no image of 01 has
abbrev pub reserved_limit : ℕ → ℕ
reserved_limit pebs = pebs - 2

-- the rules of a table of n records on a chip of `pebs` PEBs, in 01's order
unfoldable pub table_rules : ℕ → ℕ → ℕ → ℕ → List ℕ → List Bool
table_rules n size unit pebs t =
    -- "all records are"
    all_below n (λ i. empty_or_good size unit (record_at t i))
    -- "no two nonempty ones have the same name bytes"
    ∷ not (any_below n (λ j. any_below j (λ i. same_names (record_at t i) (record_at t j))))
    -- "at most one autoresizes"
    ∷ leb (count_below n (λ i. autoresizes (record_at t i))) 1
    -- "reserved PEBs sum to at most PEB count less 2"
    ∷ leb (sum_below n (λ i. (record_of (record_at t i)).reserved)) (reserved_limit pebs) ∷ []

-- ours, before them: a LEB that is too small for a record (none of 01's geometry is) has no good table, and neither has
-- a copy that is too short for its records
unfoldable pub table_tests : ℕ → ℕ → ℕ → ℕ → List ℕ → List Bool
table_tests n size unit pebs t = ltb 0 n ∷ leb (172 * n) (length t) ∷ table_rules n size unit pebs t

-- is the table in a layout LEB's content good? A LEB that is not mapped has no bytes
unfoldable pub table_good : ℕ → ℕ → ℕ → List ℕ → Bool
table_good size unit pebs content = all_of (table_tests (record_count size) size unit pebs (records_part size content))

-- the records' part of the copy that the answer names: LEB 0's, "else LEB 1's"; no bytes at a refusal
abbrev pub records_taken : ℕ → Answer ℕ → List ℕ → List ℕ → List ℕ
records_taken size (given k) copy0 copy1 = records_part size (cond (eqb k 0) copy0 copy1)
records_taken size (refused _ _) copy0 copy1 = []

module _ (size unit pebs : ℕ) (copy0 copy1 : List ℕ) where
  -- "LEB 0's table is taken if mapped and good, else LEB 1's": the LEB; refusal 11 "no good table"
  unfoldable pub taken_leb : Answer ℕ
  taken_leb =
      cond (table_good size unit pebs copy0) (given 0) (cond (table_good size unit pebs copy1) (given 1) (refused 11 0))

  -- the records of the table taken; no bytes where neither copy is good
  unfoldable pub taken_records : List ℕ
  taken_records = records_taken size taken_leb copy0 copy1

  -- "Copies mark: 0 both good with all record bytes equal, 1 one absent or not good, 2 both good and unequal"
  unfoldable pub copies_mark_of : ℕ
  copies_mark_of =
      cond (table_good size unit pebs copy0 && table_good size unit pebs copy1)
      (cond (eqs (records_part size copy0) (records_part size copy1)) 0 2) 1

-- what each case of the answer is in 01: the layout LEB whose table is taken; refusal 11
abbrev pub taken_number : Option ℕ → Answer ℕ
taken_number (Some k) = given k
taken_number None = refused 11 0
