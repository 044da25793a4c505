-- `flash_writes::copy_run` meets its contract. Assumes nothing.
use native.Mathlib.Omega.{arith}
use Rattle.flash_writes.proofs.Writes.{copy_more}
use Rattle.flash_writes.proofs.copy_run.Goals as goal

pub loop-i-preserved : goal.loop-i-preserved
loop-i-preserved c =
    let l = c.loop-i in let a = c.args in
    rw l.invariant
    (copy_more a.image.now a.from a.to a.n l.i (omega arith) (omega arith) (omega arith) c.requires.1.1)
