-- `choice::chosen::chosen_peb` meets its contract: no copy above the one at hand is sound, and each turn lowers its
-- sequence. Assumes nothing.
use Rattle.choice.specs.Keyed.{sequence_at}
use Rattle.choice.proofs.ChosenCopy.{NoneAbove}
use Rattle.choice.proofs.chosen.chosen_peb.Given as goal

abbrev pub invariant-loop-g : goal.invariant-loop-g
invariant-loop-g l = NoneAbove l.g l.image l.n l.map l.i l.at

abbrev pub decreases-loop-g : goal.decreases-loop-g
decreases-loop-g l = sequence_at l.g l.image l.at
