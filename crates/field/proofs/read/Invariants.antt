-- `field::read` meets its contract: v is the number of the bytes so far. Assumes nothing.
use mathlib.Core.Path.{◌≡◌}
use lib.ListN.{take}
use Rattle.field.specs.Be.{be_of}
use Rattle.field.proofs.read.Given as goal

abbrev pub invariant-loop-b : goal.invariant-loop-b
invariant-loop-b l = l.v ≡ be_of (take l.b-index l.b-items)
