-- The fields of both headers by name, as the code goes by them: "One constant table of field offsets and widths serves
-- reader and writer." No public promise names it; `ec_fields`, `vid_fields` and `crc_matches` say the same places. Assumes
-- nothing.
use Rattle.std.specs.Prelude.{List, [], ◌∷◌}
use Rattle.field.specs.Fields.{field}
use Rattle.field.specs.declared.Field.{Field}

-- EC header: "version 4, .. counter 8-15, VID start 16-19, data start 20-23, image sequence 24-27"
abbrev pub ec_version : Field
ec_version = field 4 1

abbrev pub ec_counter : Field
ec_counter = field 8 8

abbrev pub ec_vid_start : Field
ec_vid_start = field 16 4

abbrev pub ec_data_start : Field
ec_data_start = field 20 4

abbrev pub ec_image_seq : Field
ec_image_seq = field 24 4

-- VID header: "version 4, type 5, copy flag 6, compatibility 7, volume 8-11, LEB 12-15, .. data size 20-23,
-- used LEBs 24-27, data pad 28-31, data CRC 32-35, .. sequence 40-47"
abbrev pub vid_version : Field
vid_version = field 4 1

abbrev pub vid_type : Field
vid_type = field 5 1

abbrev pub vid_copy_flag : Field
vid_copy_flag = field 6 1

abbrev pub vid_compat : Field
vid_compat = field 7 1

abbrev pub vid_volume : Field
vid_volume = field 8 4

abbrev pub vid_lnum : Field
vid_lnum = field 12 4

abbrev pub vid_data_size : Field
vid_data_size = field 20 4

abbrev pub vid_used_lebs : Field
vid_used_lebs = field 24 4

abbrev pub vid_data_pad : Field
vid_data_pad = field 28 4

abbrev pub vid_data_crc : Field
vid_data_crc = field 32 4

abbrev pub vid_sequence : Field
vid_sequence = field 40 8

-- both: "CRC of .. 0-59 at 60-63"
abbrev pub header_crc : Field
header_crc = field 60 4

-- "One constant table of field offsets and widths serves reader and writer."
abbrev pub fields : List Field
fields =
    ec_version ∷ ec_counter ∷ ec_vid_start ∷ ec_data_start ∷ ec_image_seq
    ∷ vid_version ∷ vid_type ∷ vid_copy_flag ∷ vid_compat ∷ vid_volume ∷ vid_lnum
    ∷ vid_data_size ∷ vid_used_lebs ∷ vid_data_pad ∷ vid_data_crc ∷ vid_sequence ∷ header_crc ∷ []
