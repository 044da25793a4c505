-- 02 2026-01: the volume table that the volume fields of a slip give. Assumes nothing.
use Rattle.std.specs.Prelude.{ℕ, ◌-◌, ◌%◌, Bool, ◌&&◌, cond, List, [], ◌∷◌, ◌++◌, ltb, leb, length, drop, replicate}
use Rattle.base.specs.Below.{all_below, concat_below}
use Rattle.field.specs.Fields.{field, number_in}
use Rattle.geometry.specs.declared.Geometry.{Geometry}
use Rattle.volume_record.specs.Record.{empty_record, record_bytes}
use Rattle.volume_record.specs.declared.VolumeRecord.{VolumeRecord}
use Rattle.volume_table.specs.Table.{record_count, table_good}
use Rattle.builder_rules.specs.Slip.{volume_count, volume_field}

-- the record of a volume field, "reserved 4 bytes, alignment 4, type 1, flags 1, name"; "zeroes after each name", 128
-- bytes in all if the field has 10 to 138. 01: "pad is LEB size modulo alignment" (modulo 0 it is the LEB size:
-- alignment 0 is in no good record). Marker 0: set, the volume's state would be 2 and the grade 1
unfoldable pub record_of_field : ℕ → List ℕ → VolumeRecord
record_of_field size f = record {
  reserved = number_in (field 0 4) f;
  alignment = number_in (field 4 4) f;
  data_pad = size % number_in (field 4 4) f;
  vol_type = number_in (field 8 1) f;
  update_marker = 0;
  name_length = length f - 10;
  name = drop 10 f ++ replicate (138 - length f) 0;
  flags = number_in (field 9 1) f;
}

-- record i of the table: that of volume field i; after them empty ones
unfoldable pub record_from : ℕ → List ℕ → ℕ → List ℕ
record_from size s i = cond (ltb i (volume_count s)) (record_bytes (record_of_field size (volume_field s i))) empty_record

-- the table of a LEB of `size` bytes
unfoldable pub slip_table : ℕ → List ℕ → List ℕ
slip_table size s = concat_below (record_count size) (record_from size s)

-- have all volume fields "11 to 137 bytes"?
unfoldable pub fields_fit : List ℕ → Bool
fields_fit s = all_below (volume_count s) (λ v. leb 11 (length (volume_field s v)) && leb (length (volume_field s v)) 137)

-- 20 "volume field .. not 11 to 137 bytes, more than the records, or table not good"
unfoldable pub volume_rules : Geometry → ℕ → List ℕ → List Bool
volume_rules g pebs s =
    fields_fit s
    ∷ leb (volume_count s) (record_count g.leb_size)
    ∷ table_good g.leb_size g.unit pebs (slip_table g.leb_size s) ∷ []
