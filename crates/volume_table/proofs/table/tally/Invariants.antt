-- `volume_table::table::tally` meets its contract: the sums are those of the first i records, all of them empty or
-- good. Assumes nothing.
use Prim.Native.Nat.{◌*◌, ◌^◌, ◌≤◌}
use Rattle.std.specs.Prelude.{Some}
use Rattle.volume_table.specs.Sums.{TallyOf}
use Rattle.volume_table.proofs.table.tally.Given as goal

abbrev pub invariant-loop-i : goal.invariant-loop-i
invariant-loop-i l = record {
  reserved : l.sum.reserved ≤ l.i * 2 ^ 32;
  autoresize : l.sum.autoresize ≤ l.i;
  sums : TallyOf l.i l.leb_size l.unit l.t (Some l.sum);
}
