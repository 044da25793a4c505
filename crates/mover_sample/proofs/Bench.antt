-- 01 'Bench values': "Moving that block to PEB 3 takes 6 steps; then PEB 2 is free with 10, .. highest is 4": the
-- beginning of this move on the whole bench image is accepted, with this plan; what its steps write. Assumes nothing.
use mathlib.Core.Path.{◌≡◌, refl}
use mathlib.Core.Bool.{true, false}
use mathlib.Core.List.{List, [], ◌∷◌, ◌++◌}
use Prim.Native.Nat.{ℕ}
use lib.ListN.{length, get_or, replicate}
use Rattle.base.specs.Answers.{given}
use Rattle.base.specs.Lists.{table, eqs}
use Rattle.field.specs.Be.{be_from, to_be_on, to_be}
use Rattle.crc32.specs.Crc.{tap, crc_bit, crc_bits, crc_byte, crc_from, crc_of}
use Rattle.geometry.specs.Geometry.{good_unit, round_up, vid_start_of, data_start_of, leb_size_of, geometry_rules, make_geometry, geometry_of}
use Rattle.geometry.specs.Slip.{has_field, value_at, head_rules, ends_at, well_formed, slip_geometry}
use Rattle.geometry.specs.declared.Geometry.{Geometry}
use Rattle.header.specs.Fields.{crc_matches}
use Rattle.header.specs.Ec.{ec_fields, ec_rules, judge_ec, read_ec, ec_head, ec_bytes}
use Rattle.header.specs.Vid.{layout_volume, vid_fields, volume_rule, static_rule, dynamic_rule, layout_rule, vid_rules, judge_vid, read_vid, vid_head, vid_bytes}
use Rattle.header.specs.declared.EcHeader.{EcHeader}
use Rattle.header.specs.declared.VidHeader.{VidHeader}
use Rattle.volume_record.specs.Record.{record_of, record_crc_matches, empty_record, is_empty, name_ends, record_rules, record_good}
use Rattle.volume_table.specs.Table.{record_count, records_part, empty_or_good, name_of, same_names, autoresizes, table_rules, table_tests, table_good, taken_leb, taken_records}
use Rattle.report.specs.View.{Copy, all_ff, copy_of, view_of}
use Rattle.report.specs.Scan.{image_seq_of, view_refusal, refusal5678, refusal10}
use Rattle.report.specs.Choice.{refusal9, pick, chosen}
use Rattle.report.specs.Volumes.{face_of, faces_of, places_of, table_leb, table_records, record_for, map_up_to, map_of, used_of, misfit_in, misfit_at}
use Rattle.report.specs.Report.{mean_of, highest_of, read_only_of, class_at, entries, refusal}
use Rattle.geometry.specs.Image.{image_rules}
use Rattle.report.specs.Attach.{lent, room_rules, long_enough, request, attaching}
use Rattle.mover_rules.specs.Headers.{data_end, new_size, new_flag, new_crc, new_vid, old_counter, new_ec}
use Rattle.mover_rules.specs.Begin.{refusal13, mapped, refusal15, refusal16, refusal17, make_plan, plan_of, beginning}
use Rattle.job.specs.Write.{Write, store, erase, nothing, applied_whole, applied_cut}
use Rattle.job.specs.Relocation.{relocating}
use Rattle.mover_rules.specs.Write.{plan_geometry, data_steps, step_count, unit_bytes, write_after}
use Rattle.mover_rules.specs.declared.Plan.{Plan}

-- ---- the bench image

-- "PEB size 1,024, unit 1, sub-unit 1"
pub slip : List ℕ
slip = (1 ∷ to_be 2 4 ++ to_be 4 1024) ++ (2 ∷ to_be 2 2 ++ to_be 2 1) ++ (3 ∷ to_be 2 2 ++ to_be 2 1) ++ (0 ∷ to_be 2 0)

chip : Geometry
chip = make_geometry 1024 1 1

-- an EC header with this counter; a VID header of a dynamic volume with copy flag 0
ec : ℕ → EcHeader
ec counter = record { version = 1; counter = counter; vid_start = 64; data_start = 128; image_seq = 0 }

vid : ℕ → ℕ → ℕ → ℕ → VidHeader
vid volume lnum compat sequence = record {
  version = 1;
  vol_type = 1;
  copy_flag = 0;
  compat = compat;
  volume = volume;
  lnum = lnum;
  data_size = 0;
  used_lebs = 0;
  data_pad = 0;
  data_crc = 0;
  sequence = sequence;
}

-- "one record "log", reserved 1": dynamic, alignment 1, pad 0, marker 0, flags 0
record_head : List ℕ
record_head =
    to_be 4 1 ++ to_be 4 1 ++ to_be 4 0 ++ to_be 1 1 ++ to_be 1 0 ++ to_be 2 3 ++ (0x6C ∷ 0x6F ∷ 0x67 ∷ []) ++ replicate 125 0
    ++ to_be 1 0 ++ replicate 23 0

-- a layout LEB of 896 bytes: five records, then 0xFF
layout : List ℕ
layout =
    record_head ++ to_be 4 (crc_of record_head) ++ empty_record ++ empty_record ++ empty_record ++ empty_record ++ replicate 36
    0xFF

abc : List ℕ
abc = 0x61 ∷ 0x62 ∷ 0x63 ∷ []

peb_of : ℕ → VidHeader → List ℕ → List ℕ
peb_of counter h leb = ec_bytes (ec counter) ++ vid_bytes h ++ leb

-- "four PEBs with counters 3, 5, 9, 4 holding layout LEBs 0 and 1 (sequences 1, 2), volume 0 LEB 0 (sequence 3,
-- dynamic, "abc" and then 0xFF) and nothing"
pub image : List ℕ
image =
    peb_of 3 (vid layout_volume 0 5 1) layout ++ peb_of 5 (vid layout_volume 1 5 2) layout ++ peb_of 9 (vid 0 0 0 3)
    (abc ++ replicate 893 0xFF)
    ++ (ec_bytes (ec 4) ++ replicate 960 0xFF)

-- ---- its move is accepted

-- "free with 10", "highest is 4"
pub plan : Plan
plan = record {
  peb_size = 1024;
  unit = 1;
  sub_unit = 1;
  old = 2;
  target = 3;
  vid = record {
    version = 1;
    vol_type = 1;
    copy_flag = 1;
    compat = 0;
    volume = 0;
    lnum = 0;
    data_size = 3;
    used_lebs = 0;
    data_pad = 0;
    data_crc = crc_of abc;
    sequence = 4;
  };
  ec = ec 10;
  steps = 0;
}

-- "6 steps"
pub six_steps : step_count plan ≡ 6
unfolding plan step_count data_steps
six_steps = refl

-- the beginning, with tables of the words that four PEBs need
pub move_accepted :
    beginning (request slip) image (long_enough (lent (replicate 8 0) (replicate 12 0) (replicate 128 0))) 0 0 3 ≡ given
    plan
unfolding slip ec vid record_head layout abc peb_of image plan eqs be_from to_be_on tap crc_bit crc_bits crc_byte
    crc_from good_unit round_up vid_start_of data_start_of leb_size_of geometry_rules make_geometry geometry_of has_field value_at
    head_rules ends_at well_formed slip_geometry crc_matches ec_fields ec_rules judge_ec read_ec ec_head ec_bytes
    vid_fields volume_rule static_rule dynamic_rule layout_rule vid_rules judge_vid read_vid vid_head vid_bytes record_of
    record_crc_matches empty_record is_empty name_ends record_rules record_good record_count records_part empty_or_good
    name_of same_names autoresizes table_rules table_tests table_good taken_leb taken_records all_ff copy_of view_of
    image_seq_of view_refusal refusal5678 refusal10 refusal9 pick chosen face_of faces_of places_of table_leb
    table_records record_for map_up_to map_of used_of misfit_in misfit_at mean_of highest_of read_only_of class_at entries
    refusal image_rules room_rules attaching data_end new_size new_flag new_crc new_vid old_counter new_ec refusal13
    mapped refusal15 refusal16 refusal17 make_plan plan_of beginning
move_accepted = refl

-- ---- its headers and steps, and others

chip128 : Geometry
chip128 = make_geometry 1024 128 32

-- a PEB with this data run, and its copy
peb : List ℕ → List ℕ
peb run = replicate 128 0xFF ++ (run ++ replicate 893 0xFF)

copy : Geometry → List ℕ → Copy
copy g run = copy_of g (peb run) (vid 0 0 0 3)

-- kind, place and number of bytes of a write
shown : Write → List ℕ
shown (store at bs) = 1 ∷ at ∷ length bs ∷ []
shown (erase at n) = 2 ∷ at ∷ n ∷ []
shown nothing = []

-- the new VID header: data size, flag, CRC and sequence; with unit 128; with no data; "6 steps"
bench_headers :
    ◌≡◌ {A = List ℕ}
    (new_size chip (copy chip abc) ∷ new_flag chip (copy chip abc) ∷ new_crc chip (copy chip abc) ∷ (new_vid chip 3
    (copy chip abc)).sequence
    ∷ new_size chip128 (copy chip128 abc) ∷ new_flag chip128 (copy chip128 abc)
    ∷ new_size chip (copy chip []) ∷ new_flag chip (copy chip []) ∷ new_crc chip (copy chip [])
    ∷ step_count plan ∷ [])
    (3 ∷ 1 ∷ crc_of abc ∷ 4 ∷ 128 ∷ 1 ∷ 0 ∷ 0 ∷ 0 ∷ 6 ∷ [])
unfolding copy peb abc vid chip chip128 plan tap crc_bit crc_bits crc_byte crc_from round_up vid_start_of data_start_of leb_size_of
    make_geometry copy_of all_ff data_end new_size new_flag new_crc new_vid data_steps step_count
bench_headers = refl

-- the writes of the six steps, and of a further one; the data that are stored
bench_writes :
    ◌≡◌ {A = List (List ℕ)}
    (table (λ k. shown (write_after plan image k)) 0 7 ++ table (unit_bytes plan image) 0 3)
    ((1 ∷ 3136 ∷ 64 ∷ []) ∷ (1 ∷ 3200 ∷ 1 ∷ []) ∷ (1 ∷ 3201 ∷ 1 ∷ []) ∷ (1 ∷ 3202 ∷ 1 ∷ []) ∷ (2 ∷ 2048 ∷ 1024 ∷ []) ∷
    (1 ∷ 2048 ∷ 64 ∷ []) ∷ []
    ∷ (0x61 ∷ []) ∷ (0x62 ∷ []) ∷ (0x63 ∷ []) ∷ [])
unfolding shown plan image peb_of layout record_head empty_record ec vid abc chip round_up vid_start_of data_start_of leb_size_of make_geometry plan_geometry data_steps unit_bytes relocating write_after
    ec_head ec_bytes vid_head vid_bytes to_be_on
bench_writes = refl

-- a whole store, one cut after two bytes, a whole erase, and one of which the first and the third byte were erased
bench_cuts :
    ◌≡◌ {A = List ℕ}
    (applied_whole (store 1 (7 ∷ 8 ∷ 9 ∷ [])) (replicate 5 0) ++ applied_cut 2 (λ i. true) (store 1 (7 ∷ 8 ∷ 9 ∷ []))
    (replicate 5 0)
    ++ applied_whole (erase 1 3) (replicate 5 0) ++ applied_cut 0 (λ i. get_or (true ∷ false ∷ true ∷ []) i false)
    (erase 1 3) (replicate 5 0))
    (0 ∷ 7 ∷ 8 ∷ 9 ∷ 0 ∷ 0 ∷ 7 ∷ 8 ∷ 0 ∷ 0 ∷ 0 ∷ 0xFF ∷ 0xFF ∷ 0xFF ∷ 0 ∷ 0 ∷ 0xFF ∷ 0 ∷ 0xFF ∷ 0 ∷ [])
bench_cuts = refl
