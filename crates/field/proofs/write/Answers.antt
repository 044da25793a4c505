-- `field::write` meets its contract: what is left to store, at the slice as it is, is what was to be stored at first.
-- Assumes nothing.
use mathlib.Core.Path.{◌≡◌, ◌∙◌, sym}
use native.Mathlib.Omega.{arith}
use Rattle.field.proofs.Laws.{store_step, store_all, store_none}
use Rattle.field.proofs.write.Goals as goal

pub loop-i-preserved : goal.loop-i-preserved
loop-i-preserved c =
    let l = c.loop-i in
    store_step c.args.at l.i l.v l.s (omega arith) (omega arith) ∙ l.invariant

pub returns : goal.returns
returns c =
    let l = c.loop-i in
    let a = c.args in
    let e : l.i ≡ 0 = omega arith in
    sym (store_none a.at l.v l.s) ∙ rw e at l.invariant ∙ store_all a.at a.width a.value a.s.now
