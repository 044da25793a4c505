-- What inner contracts cite: the stores of a header's fields. No public promise names them. Assumes nothing.
use Rattle.std.specs.Prelude.{ℕ, List, [], ◌∷◌, ◌++◌, take, drop, replicate}
use Rattle.base.specs.Lists.{put}
use Rattle.field.specs.Fields.{stored, stored_all}
use Rattle.crc32.specs.Crc.{crc_of}
use Rattle.header.specs.Table.{header_crc, ec_version, ec_counter, ec_vid_start, ec_data_start, ec_image_seq, vid_version}
use Rattle.header.specs.Table.{vid_type, vid_copy_flag, vid_compat, vid_volume, vid_lnum, vid_data_size, vid_used_lebs}
use Rattle.header.specs.Table.{vid_data_pad, vid_data_crc, vid_sequence}
use Rattle.header.specs.declared.EcHeader.{EcHeader}
use Rattle.header.specs.declared.VidHeader.{VidHeader}

-- zeroes with the magic before them
unfoldable pub header_begun : List ℕ → List ℕ → List ℕ
header_begun magic s = put 0 magic (replicate 64 0 ++ drop 64 s)

-- the bytes s with their CRC stored
unfoldable pub crc_stored : List ℕ → List ℕ
crc_stored s = stored header_crc (crc_of (take 60 s)) s

-- the bytes s with the fields of an EC header stored
unfoldable pub ec_stored : EcHeader → List ℕ → List ℕ
ec_stored h s =
    stored_all
    ((ec_version, h.version) ∷ (ec_counter, h.counter) ∷ (ec_vid_start, h.vid_start) ∷ (ec_data_start, h.data_start)
    ∷ (ec_image_seq, h.image_seq) ∷ []) s

-- the bytes s with the fields of a VID header stored, in three runs
unfoldable pub kind_stored : VidHeader → List ℕ → List ℕ
kind_stored h s =
    stored_all ((vid_version, h.version) ∷ (vid_type, h.vol_type) ∷ (vid_copy_flag, h.copy_flag)
    ∷ (vid_compat, h.compat) ∷ []) s

unfoldable pub volume_stored : VidHeader → List ℕ → List ℕ
volume_stored h s = stored_all ((vid_volume, h.volume) ∷ (vid_lnum, h.lnum) ∷ (vid_sequence, h.sequence) ∷ []) s

unfoldable pub data_stored : VidHeader → List ℕ → List ℕ
data_stored h s =
    stored_all ((vid_data_size, h.data_size) ∷ (vid_used_lebs, h.used_lebs) ∷ (vid_data_pad, h.data_pad)
    ∷ (vid_data_crc, h.data_crc) ∷ []) s
