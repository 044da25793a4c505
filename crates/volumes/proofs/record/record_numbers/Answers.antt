-- `volumes::record::record_numbers` meets its contract: past the table's end no PEB is reserved. Assumes nothing.
use mathlib.Core.Path.{sym, ap, ◌∙◌}
use native.Mathlib.Omega.{arith}
use Prim.Native.Nat.{◌*◌}
use lib.ListN.{drop_of_length-le}
use Rattle.field.specs.Be.{be_from}
use Rattle.volume_record.specs.Record.{record_of}
use Rattle.volumes.specs.declared.RecordNumbers.{RecordNumbers}
use Rattle.volumes.specs.Sorted.{numbers_of}
use Rattle.volumes.proofs.record.record_numbers.Goals as goal

pub returns-then-record_count-volume : goal.returns-then-record_count-volume
unfolding record_of be_from
returns-then-record_count-volume c =
    let a = c.args in
    rw (drop_of_length-le a.records.now {i = 172 * a.volume} (omega (arith, c.record_count.ensures)))

pub returns-then-r-eq0 : goal.returns-then-r-eq0
unfolding numbers_of
returns-then-r-eq0 c =
    ap (λ (r : RecordNumbers). r.reserved) (sym c.numbers_at-r.ensures) ∙ c.if-r-eq0.true
