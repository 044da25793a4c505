-- What the contracts of the record writer cite: the stores of its fields. No public promise names them. Assumes
-- nothing.
use Rattle.std.specs.Prelude.{List, [], ◌∷◌, ℕ, take}
use Rattle.base.specs.Lists.{put}
use Rattle.field.specs.Fields.{stored, stored_all}
use Rattle.crc32.specs.Crc.{crc_of}
use Rattle.volume_record.specs.Fields.{record_reserved, record_alignment, record_data_pad, record_type, record_marker}
use Rattle.volume_record.specs.Fields.{record_name_length, record_name, record_flags, record_crc}
use Rattle.volume_record.specs.declared.VolumeRecord.{VolumeRecord}

unfoldable pub sizes_stored : VolumeRecord → List ℕ → List ℕ
sizes_stored v s =
    stored_all ((record_reserved, v.reserved) ∷ (record_alignment, v.alignment) ∷ (record_data_pad, v.data_pad) ∷ []) s

unfoldable pub kind_stored : VolumeRecord → List ℕ → List ℕ
kind_stored v s =
    stored_all ((record_type, v.vol_type) ∷ (record_marker, v.update_marker) ∷ (record_name_length, v.name_length)
    ∷ (record_flags, v.flags) ∷ []) s

unfoldable pub name_stored : List ℕ → List ℕ → List ℕ
name_stored name s = put record_name.at name s

unfoldable pub crc_stored : List ℕ → List ℕ
crc_stored s = stored record_crc (crc_of (take 168 s)) s
