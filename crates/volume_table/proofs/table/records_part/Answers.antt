-- `volume_table::table::records_part` meets its contract. Assumes nothing.
use mathlib.Core.Path.{◌∙◌}
use native.Mathlib.Omega.{arith}
use Rattle.volume_table.specs.Table.{records_part}
use Rattle.volume_table.proofs.Tables.{count_small, front}
use Rattle.volume_table.proofs.table.records_part.Goals as goal

pub overflow_mul-len : goal.overflow_mul-len
overflow_mul-len c = omega (arith, count_small c.args.leb_size)

pub returns : goal.returns
unfolding records_part
returns c =
    rw c.unwrap_or.ensures (front c.args.content _ _ c.get.ensures.lookup ∙ rw c.record_count-len.ensures)
