-- `flash_writes::copy_run` meets its contract. Assumes nothing.
use mathlib.Core.Path.{◌≡◌}
use lib.Seq.{paste}
use Rattle.base.specs.Lists.{part}
use Rattle.flash_writes.proofs.copy_run.Given as goal

abbrev pub invariant-loop-i : goal.invariant-loop-i
invariant-loop-i l = l.image ≡ paste l.initial.image l.to (part l.from l.n l.initial.image) l.i
