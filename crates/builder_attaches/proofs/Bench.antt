-- The claim is not empty: 01's bench image is built. Assumes nothing.
use mathlib.Core.Path.{◌≡◌, refl}
use mathlib.Core.List.{List, [], ◌∷◌}
use Prim.Native.Nat.{ℕ}
use lib.ListN.{replicate}
use Rattle.base.specs.Answers.{given}
use Rattle.base.specs.Lists.{eqs}
use Rattle.field.specs.Be.{be_from, to_be_on}
use Rattle.crc32.specs.Crc.{tap, crc_bit, crc_bits, crc_byte, crc_from}
use Rattle.geometry.specs.Geometry.{good_unit, round_up, vid_start_of, data_start_of, leb_size_of, geometry_rules, make_geometry}
use Rattle.geometry.specs.Geometry.{geometry_of}
use Rattle.geometry.specs.Image.{image_rules}
use Rattle.geometry.specs.Slip.{has_field, value_at, head_rules, ends_at}
use Rattle.volume_record.specs.Record.{record_of, record_crc_matches, empty_record, is_empty, name_ends, record_rules}
use Rattle.volume_record.specs.Record.{record_good, record_head, record_bytes}
use Rattle.volume_table.specs.Table.{record_count, records_part, empty_or_good, name_of, same_names, autoresizes, table_rules}
use Rattle.volume_table.specs.Table.{table_tests, table_good}
use Rattle.builder_rules.specs.Slip.{length_at, volume_field_at, field_start, volume_count, builder_slip, builder_geometry}
use Rattle.builder_rules.specs.Slip.{volume_field}
use Rattle.builder_rules.specs.Table.{record_of_field, record_from, slip_table, fields_fit, volume_rules}
use Rattle.builder_rules.specs.Blocks.{volume_of}
use Rattle.builder_rules.specs.Build.{content_rules, plan_of, building}

-- PEB size 1,024, unit and sub_unit 1; volume 0 "log", reserved 1, alignment 1, dynamic
abbrev log_slip : List ℕ
log_slip =
    1 ∷ 0 ∷ 4 ∷ 0 ∷ 0 ∷ 4 ∷ 0 ∷ 2 ∷ 0 ∷ 2 ∷ 0 ∷ 1 ∷ 3 ∷ 0 ∷ 2 ∷ 0 ∷ 1
    ∷ 16 ∷ 0 ∷ 13 ∷ 0 ∷ 0 ∷ 0 ∷ 1 ∷ 0 ∷ 0 ∷ 0 ∷ 1 ∷ 1 ∷ 0 ∷ 0x6C ∷ 0x6F ∷ 0x67 ∷ 0 ∷ 0 ∷ 0 ∷ []

abbrev abc : List ℕ
abc = 0x61 ∷ 0x62 ∷ 0x63 ∷ []

-- with the content "abc" four PEBs are filled
pub bench_built : building log_slip 0 (3 ∷ []) abc (replicate 4096 0)
    ≡ given (plan_of log_slip 0 (3 ∷ []) abc (replicate 4096 0) (make_geometry 1024 1 1))
unfolding building builder_geometry builder_slip head_rules volume_count volume_field_at field_start length_at ends_at eqs be_from
    to_be_on has_field value_at geometry_of geometry_rules good_unit round_up vid_start_of data_start_of leb_size_of make_geometry image_rules
    volume_rules content_rules volume_field fields_fit slip_table record_from volume_of record_of_field record_bytes record_head
    table_good table_tests table_rules record_count records_part empty_or_good is_empty empty_record record_good record_crc_matches
    record_rules record_of name_ends same_names name_of autoresizes tap crc_bit crc_bits crc_byte crc_from
bench_built = refl
