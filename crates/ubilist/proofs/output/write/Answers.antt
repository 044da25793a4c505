-- `ubilist::output::write` is safe and ends: the calls that there can be are fewer in each turn. Assumes nothing.
use Rattle.ubilist.proofs.Rows.{on_after}
use Rattle.ubilist.proofs.output.write.Goals as goal

pub loop-next-smaller : goal.loop-next-smaller
loop-next-smaller g c =
    (on_after _ _ _ _ _ _ c.loop-next.invariant c.after-t.ensures.moved c.after-t.ensures.failed c.in-On.is).1

pub loop-next-preserved : goal.loop-next-preserved
loop-next-preserved g c =
    (on_after _ _ _ _ _ _ c.loop-next.invariant c.after-t.ensures.moved c.after-t.ensures.failed c.in-On.is).0
