-- The fields of a volume record by name, as the code goes by them. No public promise names it; `record_of` and
-- `record_crc_matches` say the same places. Assumes nothing.
use Rattle.std.specs.Prelude.{List, [], ◌∷◌}
use Rattle.field.specs.Fields.{field}
use Rattle.field.specs.declared.Field.{Field}

-- "reserved PEBs 0-3, alignment 4-7, data pad 8-11, type 12, update marker 13, name length 14-15, name 16-143,
-- flags 144, .. CRC of 0-167 at 168-171"
abbrev pub record_reserved : Field
record_reserved = field 0 4

abbrev pub record_alignment : Field
record_alignment = field 4 4

abbrev pub record_data_pad : Field
record_data_pad = field 8 4

abbrev pub record_type : Field
record_type = field 12 1

abbrev pub record_marker : Field
record_marker = field 13 1

abbrev pub record_name_length : Field
record_name_length = field 14 2

abbrev pub record_name : Field
record_name = field 16 128

abbrev pub record_flags : Field
record_flags = field 144 1

abbrev pub record_crc : Field
record_crc = field 168 4

-- one table of offsets and widths
abbrev pub record_fields : List Field
record_fields =
    record_reserved ∷ record_alignment ∷ record_data_pad ∷ record_type ∷ record_marker ∷ record_name_length ∷ record_name
    ∷ record_flags ∷ record_crc ∷ []
