-- `volumes::record::numbers_at` meets its contract. Assumes nothing.
use Rattle.base.proofs.Lists.{lent_part}
use Rattle.volume_record.specs.Record.{record_of}
use Rattle.volumes.specs.Sorted.{numbers_of}
use Rattle.volumes.proofs.record.numbers_at.Goals as goal

pub returns : goal.returns
unfolding numbers_of record_of
returns c =
    let a = c.args in
    rw (
      c.get_field.ensures.0,
      c.get_field-2.ensures.0,
      c.get_field-3.ensures.0,
      c.get_field-4.ensures.0,
      c.get_field-5.ensures.0,
      lent_part a.at 172 a.records.now,
    )
