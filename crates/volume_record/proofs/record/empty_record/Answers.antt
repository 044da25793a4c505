-- `volume_record::record::empty_record` meets its contract. Assumes nothing.
use Rattle.volume_record.proofs.Records.{zeroes_summed}
use Rattle.volume_record.proofs.record.empty_record.Goals as goal

pub returns : goal.returns
returns c = zeroes_summed c.crc32-sum.ensures c.copy_from_slice.ensures.after c.set_field.ensures
