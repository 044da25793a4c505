-- 01 'Header bytes': the volume identifier (VID) header. Assumes nothing.
use Rattle.std.specs.Prelude.{Result, Ok, Err, ℕ, ◌+◌, ◌-◌, ◌*◌, ◌≤◌, ◌<◌, ◌^◌, ◌≡◌, Bool, not, ◌&&◌, ◌||◌, List, [], ◌∷◌, ◌++◌, eqb, ltb, leb, get_or, replicate}
use Rattle.base.specs.Answers.{Answer, given, refused}
use Rattle.base.specs.Lists.{part}
use Rattle.field.specs.Be.{to_be}
use Rattle.field.specs.Fields.{field, number_in}
use Rattle.header.specs.Fields.{Verdict, good, bad, judged}
use Rattle.header.specs.Fields.{read_header, lent_header, header_bytes, header_written, header_out}
use Rattle.header.specs.declared.VidHeader.{VidHeader}
use Rattle.header.specs.declared.ReadError.{ReadError}
use Rattle.header.specs.declared.ReadError.TheVariants.{Bad, Newer, Short}

-- "magic `UBI!` 0-3"
abbrev pub vid_magic : List ℕ
vid_magic = 0x55 ∷ 0x42 ∷ 0x49 ∷ 0x21 ∷ []

-- the fields in a header's bytes: "version 4, type 5, copy flag 6, compatibility 7, volume 8-11, LEB 12-15, ..
-- data size 20-23, used LEBs 24-27, data pad 28-31, data CRC 32-35, .. sequence 40-47"
unfoldable pub vid_fields : List ℕ → VidHeader
vid_fields s = record {
  version = number_in (field 4 1) s;
  vol_type = number_in (field 5 1) s;
  copy_flag = number_in (field 6 1) s;
  compat = number_in (field 7 1) s;
  volume = number_in (field 8 4) s;
  lnum = number_in (field 12 4) s;
  data_size = number_in (field 20 4) s;
  used_lebs = number_in (field 24 4) s;
  data_pad = number_in (field 28 4) s;
  data_crc = number_in (field 32 4) s;
  sequence = number_in (field 40 8) s;
}

-- i is the number of a VID field in the table: they are its rows 5 to 15
abbrev pub IsVidField : ℕ → Type 0
IsVidField i = (5 ≤ i) × (i < 16)

-- the number in field i
abbrev pub vid_field : ℕ → VidHeader → ℕ
vid_field i h =
    get_or (h.version ∷ h.vol_type ∷ h.copy_flag ∷ h.compat ∷ h.volume ∷ h.lnum ∷ h.data_size ∷ h.used_lebs
    ∷ h.data_pad ∷ h.data_crc ∷ h.sequence ∷ []) (i - 5) 0

-- if the first, then the second
abbrev pub implies : Bool → Bool → Bool
implies a b = not a || b

-- "volume 0x7FFFEFFF (layout)"
abbrev pub layout_volume : ℕ
layout_volume = 0x7FFFEFFF

-- "volume below 128 with compatibility 0, or 0x7FFFEFFF to 0x7FFFFFFF with 1, 2, 4 or 5"
unfoldable pub volume_rule : VidHeader → Bool
volume_rule h =
    (ltb h.volume 128 && eqb h.compat 0) || (leb layout_volume h.volume && (leb h.volume 0x7FFFFFFF
    && (eqb h.compat 1 || (eqb h.compat 2 || (eqb h.compat 4 || eqb h.compat 5)))))

-- "static: LEB below used LEBs, data size above 0, and equal to LEB size less pad unless LEB is the last used"
unfoldable pub static_rule : ℕ → VidHeader → Bool
static_rule size h =
    implies (eqb h.vol_type 2) (ltb h.lnum h.used_lebs
    && (ltb 0 h.data_size && (eqb (h.lnum + 1) h.used_lebs || eqb h.data_size (size - h.data_pad))))

-- "dynamic: used LEBs 0; with copy flag 0, data size and CRC 0; with copy flag 1, data size above 0"
unfoldable pub dynamic_rule : VidHeader → Bool
dynamic_rule h =
    implies (eqb h.vol_type 1) (eqb h.used_lebs 0
    && (implies (eqb h.copy_flag 0) (eqb h.data_size 0 && eqb h.data_crc 0)
    && implies (eqb h.copy_flag 1) (ltb 0 h.data_size)))

-- "volume 0x7FFFEFFF (layout): type 1, compatibility 5, pad 0, LEB 0 or 1"
unfoldable pub layout_rule : VidHeader → Bool
layout_rule h =
    implies (eqb h.volume layout_volume) (eqb h.vol_type 1 && (eqb h.compat 5 && (eqb h.data_pad 0 && leb h.lnum 1)))

-- "A VID header is also bad unless all hold", in 01's order; `size` is the LEB size
unfoldable pub vid_rules : ℕ → VidHeader → List Bool
vid_rules size h =
    -- "copy flag 0 or 1; type 1 (dynamic) or 2 (static)"
    leb h.copy_flag 1 ∷ (eqb h.vol_type 1 || eqb h.vol_type 2)
    -- volume with compatibility; "LEB and used LEBs at most 0x7FFFFFFF"
    ∷ volume_rule h ∷ leb h.lnum 0x7FFFFFFF ∷ leb h.used_lebs 0x7FFFFFFF
    -- "twice data pad below LEB size; data size at most LEB size less pad"
    ∷ ltb (2 * h.data_pad) size ∷ leb h.data_size (size - h.data_pad)
    ∷ static_rule size h ∷ dynamic_rule h ∷ layout_rule h ∷ []

unfoldable pub judge_vid : ℕ → VidHeader → Verdict VidHeader
judge_vid size h = judged h.version (vid_rules size h) h

-- the header in the first 64 bytes
unfoldable pub read_vid : ℕ → List ℕ → Verdict VidHeader
read_vid size s = read_header vid_magic (λ (l : List ℕ). judge_vid size (vid_fields l)) s

unfoldable pub vid_read : ℕ → List ℕ → Answer (Verdict VidHeader)
vid_read size s = lent_header (read_vid size s) s

-- what each case of the answer is in 01
abbrev pub vid_answer : Result VidHeader ReadError → Answer (Verdict VidHeader)
vid_answer (Ok h) = given (good h)
vid_answer (Err Bad) = given bad
vid_answer (Err Newer) = refused 5 0
vid_answer (Err Short) = refused 4 0

-- bytes 0-59 as they are written: "magic `UBI!` 0-3, version 4, type 5, copy flag 6, compatibility 7, volume 8-11,
-- LEB 12-15, zero 16-19, data size 20-23, used LEBs 24-27, data pad 28-31, data CRC 32-35, zero 36-39, sequence 40-47,
-- zero 48-59"; "Padding is written as zero and read only through the CRC."
unfoldable pub vid_head : VidHeader → List ℕ
vid_head h =
    vid_magic ++ to_be 1 h.version ++ to_be 1 h.vol_type ++ to_be 1 h.copy_flag ++ to_be 1 h.compat
    ++ to_be 4 h.volume ++ to_be 4 h.lnum ++ replicate 4 0
    ++ to_be 4 h.data_size ++ to_be 4 h.used_lebs ++ to_be 4 h.data_pad
    ++ to_be 4 h.data_crc ++ replicate 4 0 ++ to_be 8 h.sequence ++ replicate 12 0

unfoldable pub vid_bytes : VidHeader → List ℕ
vid_bytes h = header_bytes (vid_head h)

-- the writer's answer, and the lent bytes afterwards
unfoldable pub vid_written : ℕ → VidHeader → List ℕ → Answer (Unit {0})
vid_written size h out = header_written (judge_vid size h) out

unfoldable pub vid_out : ℕ → VidHeader → List ℕ → List ℕ
vid_out size h out = header_out (judge_vid size h) (vid_bytes h) out

-- the fields are no larger than their bytes allow (they are so by their types)
pub record VidFits (h : VidHeader) : Type 0 where
  pub version : h.version < 256 ^ 1
  pub vol_type : h.vol_type < 256 ^ 1
  pub copy_flag : h.copy_flag < 256 ^ 1
  pub compat : h.compat < 256 ^ 1
  pub volume : h.volume < 256 ^ 4
  pub lnum : h.lnum < 256 ^ 4
  pub data_size : h.data_size < 256 ^ 4
  pub used_lebs : h.used_lebs < 256 ^ 4
  pub data_pad : h.data_pad < 256 ^ 4
  pub data_crc : h.data_crc < 256 ^ 4
  pub sequence : h.sequence < 256 ^ 8

-- "zero 16-19, .. zero 36-39, .. zero 48-59"
pub record VidPadded (s : List ℕ) : Type 0 where
  pub zero_16 : part 16 4 s ≡ replicate 4 0
  pub zero_36 : part 36 4 s ≡ replicate 4 0
  pub zero_48 : part 48 12 s ≡ replicate 12 0
