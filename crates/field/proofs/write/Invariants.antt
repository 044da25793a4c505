-- `field::write` meets its contract: what is left to store, at the slice as it is, is what was to be stored at first.
-- Assumes nothing.
use mathlib.Core.Path.{◌≡◌}
use Rattle.field.proofs.Laws.{left_to}
use Rattle.field.proofs.write.Given as goal

abbrev pub invariant-loop-i : goal.invariant-loop-i
invariant-loop-i l = left_to l.at l.i l.v l.s ≡ left_to l.at l.width l.value l.initial.s
