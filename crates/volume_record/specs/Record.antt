-- 01 'The volume table': a volume record. Assumes nothing.
use Rattle.std.specs.Prelude.{Result, Ok, Err, ℕ, ◌%◌, Bool, not, ◌&&◌, ◌||◌, cond, List, [], ◌∷◌, ◌++◌, eqb, ltb, leb, length, take, drop, get_or, replicate}
use Rattle.std.specs.Int.Bits.{bit_and}
use Rattle.base.specs.Answers.{Answer, given, refused, all_of}
use Rattle.base.specs.Below.{all_below}
use Rattle.base.specs.Lists.{eqs}
use Rattle.field.specs.Be.{to_be}
use Rattle.field.specs.Fields.{field, bytes_in, number_in}
use Rattle.crc32.specs.Crc.{crc_of}
use Rattle.volume_record.specs.declared.VolumeRecord.{VolumeRecord}
use Rattle.volume_record.specs.declared.ShortRecord.{ShortRecord}
use Rattle.volume_record.specs.declared.RecordKind.{RecordKind}
use Rattle.volume_record.specs.declared.RecordKind.TheVariants.{Empty, Good, Bad, Short}

-- the numbers and the name in a record's fields: "reserved PEBs 0-3, alignment 4-7, data pad 8-11, type 12,
-- update marker 13, name length 14-15, name 16-143, flags 144"
unfoldable pub record_of : List ℕ → VolumeRecord
record_of r = record {
  reserved = number_in (field 0 4) r;
  alignment = number_in (field 4 4) r;
  data_pad = number_in (field 8 4) r;
  vol_type = number_in (field 12 1) r;
  update_marker = number_in (field 13 1) r;
  name_length = number_in (field 14 2) r;
  name = bytes_in (field 16 128) r;
  flags = number_in (field 144 1) r;
}

-- "CRC of 0-167 at 168-171"
unfoldable pub record_crc_matches : List ℕ → Bool
record_crc_matches r = eqb (crc_of (take 168 r)) (number_in (field 168 4) r)

-- "An empty record has reserved 0 and is 168 zeroes with their CRC."
unfoldable pub empty_record : List ℕ
empty_record = replicate 168 0 ++ to_be 4 (crc_of (replicate 168 0))

unfoldable pub is_empty : List ℕ → Bool
is_empty r = eqs r empty_record

-- "that many name bytes are nonzero and the next is zero"
unfoldable pub name_ends : List ℕ → ℕ → Bool
name_ends name n = all_below n (λ i. not (eqb (get_or name i 0) 0)) && eqb (get_or name n 0) 0

-- what a record other than the empty one must satisfy, beside its CRC, in 01's order
unfoldable pub record_rules : ℕ → ℕ → VolumeRecord → List Bool
record_rules size unit v =
    -- "reserved is above 0"
    ltb 0 v.reserved
    -- "alignment is 1 to LEB size and 1 or a multiple of the unit"
    ∷ leb 1 v.alignment ∷ leb v.alignment size ∷ (eqb v.alignment 1 || eqb (v.alignment % unit) 0)
    -- "pad is LEB size modulo alignment"
    ∷ eqb v.data_pad (size % v.alignment)
    -- "type is 1 or 2, marker is 0 or 1"
    ∷ (eqb v.vol_type 1 || eqb v.vol_type 2) ∷ leb v.update_marker 1
    -- "name length is 1 to 127, that many name bytes are nonzero and the next is zero"
    ∷ leb 1 v.name_length ∷ leb v.name_length 127 ∷ name_ends v.name v.name_length
    -- "no flag beyond 1 (autoresize) and 2 (skip CRC) is set"
    ∷ eqb (bit_and v.flags 0xFC) 0 ∷ []

-- "Any other is good if the CRC matches, .."
unfoldable pub record_good : ℕ → ℕ → List ℕ → Bool
record_good size unit r = record_crc_matches r && all_of (record_rules size unit (record_of r))

-- a record is empty, good or neither
pub data RecordVerdict : Type 0 where
  empty : RecordVerdict
  good : RecordVerdict
  bad : RecordVerdict

-- the record at the start of a lent slice; refusal 4 where the slice is shorter than a record
unfoldable pub judge_record : ℕ → ℕ → List ℕ → Answer RecordVerdict
judge_record size unit s =
    cond (ltb (length s) 172) (refused 4 0)
    (given (cond (is_empty (take 172 s)) empty (cond (record_good size unit (take 172 s)) good bad)))

-- what each case of the answer is in 01
abbrev pub record_kind : RecordKind → Answer RecordVerdict
record_kind Empty = given empty
record_kind Good = given good
record_kind Bad = given bad
record_kind Short = refused 4 0

-- the numbers and name handed out beside it: those of the bytes, good or not; zeroes where there are too few
unfoldable pub shown_record : List ℕ → VolumeRecord
shown_record s = cond (ltb (length s) 172) (record_of (replicate 172 0)) (record_of s)

-- a record as it is written: "reserved PEBs 0-3, alignment 4-7, data pad 8-11, type 12, update marker 13,
-- name length 14-15, name 16-143, flags 144, zero 145-167"
unfoldable pub record_head : VolumeRecord → List ℕ
record_head v =
    to_be 4 v.reserved ++ to_be 4 v.alignment ++ to_be 4 v.data_pad
    ++ to_be 1 v.vol_type ++ to_be 1 v.update_marker ++ to_be 2 v.name_length
    ++ (v.name ++ (to_be 1 v.flags ++ replicate 23 0))

-- "CRC of 0-167 at 168-171"
unfoldable pub record_bytes : VolumeRecord → List ℕ
record_bytes v = record_head v ++ to_be 4 (crc_of (record_head v))

-- refusal 4, as for a header buffer
abbrev pub record_accepted : List ℕ → Answer (Unit {0})
record_accepted out = cond (leb 172 (length out)) (given tt) (refused 4 0)

-- what each case of the writer's answer is in 01
abbrev pub record_written : Result (Unit {0}) ShortRecord → Answer (Unit {0})
record_written (Ok u) = given u
record_written (Err s) = refused 4 0

-- the lent bytes afterwards: refusal 4 changes nothing, and bytes beyond 172 never change
unfoldable pub record_out : VolumeRecord → List ℕ → List ℕ
record_out v out = cond (leb 172 (length out)) (record_bytes v ++ drop 172 out) out
