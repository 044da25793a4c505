-- `choice::marking::mark_chosen` meets its contract: the LEBs of the PEBs passed are marked. Assumes nothing.
use mathlib.Core.Path.{◌≡◌}
use native.Mathlib.Omega.{arith}
use Rattle.choice.proofs.Marks.{marked_all}
use Rattle.choice.proofs.marking.mark_chosen.Goals as goal

pub returns : goal.returns
returns c =
    let l = c.loop-i in
    let e : l.i ≡ c.args.n = omega arith in
    marked_all (rw e at l.invariant.0) c.requires.0.keyed c.args.pebs.now l.invariant.1
