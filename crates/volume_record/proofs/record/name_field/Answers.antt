-- `volume_record::record::name_field` meets its contract: the field has the array's length. Assumes nothing.
use mathlib.Core.Path.{sym}
use native.Mathlib.Omega.{arith}
use Rattle.base.proofs.Lists.{length_part}
use Rattle.volume_record.proofs.record.name_field.Goals as goal

pub copy_from_slice-requires : goal.copy_from_slice-requires
copy_from_slice-requires c = rw c.field_bytes.ensures (sym (length_part 16 128 c.args.r.now (omega arith)))
