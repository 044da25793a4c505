-- 01 'Header bytes': the erase counter (EC) header. Assumes nothing.
use Rattle.std.specs.Prelude.{Result, Ok, Err, ℕ, ◌<◌, ◌^◌, ◌≡◌, Bool, List, [], ◌∷◌, ◌++◌, leb, replicate}
use Rattle.base.specs.Answers.{Answer, given, refused}
use Rattle.base.specs.Lists.{part}
use Rattle.field.specs.Be.{to_be}
use Rattle.field.specs.Fields.{field, number_in}
use Rattle.header.specs.Fields.{Verdict, good, bad, judged, read_header, lent_header, header_bytes, header_written, header_out}
use Rattle.header.specs.declared.EcHeader.{EcHeader}
use Rattle.header.specs.declared.ReadError.{ReadError}
use Rattle.header.specs.declared.ReadError.TheVariants.{Bad, Newer, Short}

-- "magic `UBI#` 0-3"
abbrev pub ec_magic : List ℕ
ec_magic = 0x55 ∷ 0x42 ∷ 0x49 ∷ 0x23 ∷ []

-- the fields in a header's bytes: "version 4, .. counter 8-15, VID start 16-19, data start 20-23, image sequence 24-27"
unfoldable pub ec_fields : List ℕ → EcHeader
ec_fields s = record {
  version = number_in (field 4 1) s;
  counter = number_in (field 8 8) s;
  vid_start = number_in (field 16 4) s;
  data_start = number_in (field 20 4) s;
  image_seq = number_in (field 24 4) s;
}

-- "lost if .. the counter exceeds 0x7FFFFFFF"
unfoldable pub ec_rules : EcHeader → List Bool
ec_rules h = leb h.counter 0x7FFFFFFF ∷ []

unfoldable pub judge_ec : EcHeader → Verdict EcHeader
judge_ec h = judged h.version (ec_rules h) h

-- the header in the first 64 bytes
unfoldable pub read_ec : List ℕ → Verdict EcHeader
read_ec s = read_header ec_magic (λ (l : List ℕ). judge_ec (ec_fields l)) s

unfoldable pub ec_read : List ℕ → Answer (Verdict EcHeader)
ec_read s = lent_header (read_ec s) s

-- what each case of the answer is in 01
abbrev pub ec_answer : Result EcHeader ReadError → Answer (Verdict EcHeader)
ec_answer (Ok h) = given (good h)
ec_answer (Err Bad) = given bad
ec_answer (Err Newer) = refused 5 0
ec_answer (Err Short) = refused 4 0

-- bytes 0-59 as they are written: "magic `UBI#` 0-3, version 4, zero 5-7, counter 8-15, VID start 16-19,
-- data start 20-23, image sequence 24-27, zero 28-59"; "Padding is written as zero and read only through the CRC."
unfoldable pub ec_head : EcHeader → List ℕ
ec_head h =
    ec_magic ++ to_be 1 h.version ++ replicate 3 0 ++ to_be 8 h.counter
    ++ to_be 4 h.vid_start ++ to_be 4 h.data_start ++ to_be 4 h.image_seq ++ replicate 32 0

unfoldable pub ec_bytes : EcHeader → List ℕ
ec_bytes h = header_bytes (ec_head h)

-- the writer's answer, and the lent bytes afterwards
unfoldable pub ec_written : EcHeader → List ℕ → Answer (Unit {0})
ec_written h out = header_written (judge_ec h) out

unfoldable pub ec_out : EcHeader → List ℕ → List ℕ
ec_out h out = header_out (judge_ec h) (ec_bytes h) out

-- the fields are no larger than their bytes allow (they are so by their types)
pub record EcFits (h : EcHeader) : Type 0 where
  pub version : h.version < 256 ^ 1
  pub counter : h.counter < 256 ^ 8
  pub vid_start : h.vid_start < 256 ^ 4
  pub data_start : h.data_start < 256 ^ 4
  pub image_seq : h.image_seq < 256 ^ 4

-- "zero 5-7, .. zero 28-59"
pub record EcPadded (s : List ℕ) : Type 0 where
  pub zero_5 : part 5 3 s ≡ replicate 3 0
  pub zero_28 : part 28 32 s ≡ replicate 32 0
