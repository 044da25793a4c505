-- `choice::chosen::highest_up_to` meets its contract: `best` is the highest from `above` on. Assumes nothing.
use native.Mathlib.Omega.{arith}
use Rattle.choice.proofs.Chains.{along_next}
use Rattle.choice.proofs.ChosenCopy.{highest_more, highest_all}
use Rattle.choice.proofs.chosen.highest_up_to.Goals as goal

pub loop-j-preserved : goal.loop-j-preserved
loop-j-preserved c =
    let p = c.requires in
    let i = c.loop-j.invariant in (
      rw c.link-j.ensures (along_next i.0 p.1.0 (omega arith) (omega arith)),
      rw c.higher-best.ensures (highest_more p.0.holds i.0 i.1 (omega arith)),
    )

pub returns : goal.returns
returns c =
    let i = c.loop-j.invariant in
    highest_all c.requires.0.holds i.0 i.1 (omega arith)
