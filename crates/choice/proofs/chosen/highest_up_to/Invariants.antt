-- `choice::chosen::highest_up_to` meets its contract: `best` is the highest from `above` on. Assumes nothing.
use Rattle.choice.specs.Keyed.{Highest}
use Rattle.choice.proofs.Chains.{Along}
use Rattle.choice.proofs.chosen.highest_up_to.Given as goal

abbrev pub invariant-loop-j : goal.invariant-loop-j
invariant-loop-j l = (Along l.map l.i l.n l.above l.j) × Highest l.g l.image l.n l.map l.i l.most l.above l.best

abbrev pub decreases-loop-j : goal.decreases-loop-j
decreases-loop-j l = l.above
