-- `volume_table::table::tally` meets its contract: the sums are those of the first i records, all of them empty or
-- good. Assumes nothing.
use mathlib.Core.Path.{◌≡◌}
use Prim.Native.Nat.{◌*◌}
use native.Mathlib.Nat.{add-sub_cancel_left}
use native.Mathlib.Omega.{arith}
use Rattle.base.proofs.Lists.{lent_length}
use Rattle.volume_table.proofs.Tables.{tally_none, tally_more, tally_stop}
use Rattle.volume_table.proofs.table.tally.Goals as goal

pub loop-i-init : goal.loop-i-init
loop-i-init c =
    let a = c.args in
    record { reserved = omega arith; autoresize = omega arith; sums = tally_none a.leb_size a.unit a.t.now }

pub tally_record-requires : goal.tally_record-requires
tally_record-requires c =
    (lent_length (172 * c.loop-i.i) 172 c.args.t.now (omega arith), (c.requires.1.1, (omega arith, omega arith)))

pub returns-in_err-sum : goal.returns-in_err-sum
returns-in_err-sum c =
    let a = c.args in
    rw c.from_residual.ensures (tally_stop a.leb_size a.unit a.t.now c.loop-i.i c.loop-i.sum a.n (omega arith)
    (rw add-sub_cancel_left at c.in_err-sum.ensures.sums))

pub loop-i-preserved : goal.loop-i-preserved
loop-i-preserved c =
    let a = c.args in
    let l = c.loop-i in
    record {
      reserved = omega (arith, c.in_ok-sum.ensures.small);
      autoresize = omega (arith, c.in_ok-sum.ensures.small);
      sums = tally_more a.leb_size a.unit a.t.now l.i l.sum l.invariant.sums
          (rw add-sub_cancel_left at c.in_ok-sum.ensures.sums);
    }

pub returns : goal.returns
returns c = let e : c.loop-i.i ≡ c.args.n = omega arith in rw e at c.loop-i.invariant.sums
