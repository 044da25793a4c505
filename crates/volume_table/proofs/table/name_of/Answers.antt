-- `volume_table::table::name_of` meets its contract: a name ends with its field. Assumes nothing.
use mathlib.Core.Path.{◌∙◌}
use Rattle.volume_record.specs.Record.{record_of}
use Rattle.volume_table.specs.Table.{name_of}
use Rattle.volume_table.proofs.Tables.{front}
use Rattle.volume_table.proofs.table.name_of.Goals as goal

pub returns : goal.returns
unfolding name_of record_of
returns c =
    rw c.unwrap_or.ensures
    (front c.field_bytes-name.result _ _ c.get.ensures.lookup
    ∙ rw (c.field_bytes-name.ensures, c.get_field-n.ensures.0))
