-- `base::store` meets its contract: after i turns the first i bytes are stored. Assumes nothing.
use native.Mathlib.Omega.{arith}
use native.Mathlib.Numerals.{add-one}
use lib.Seq.{paste-suc}
use Rattle.base.proofs.store.Goals as goal

pub loop-i-preserved : goal.loop-i-preserved
loop-i-preserved c =
    let a = c.args in
    rw (c.loop-i.invariant, add-one) (paste-suc a.out.now a.at a.bytes.now c.loop-i.i 0 (omega arith) (omega arith))
