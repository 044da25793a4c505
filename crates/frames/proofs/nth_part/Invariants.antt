-- `frames::nth_part` is safe. Assumes nothing.
use Rattle.std.proofs.Common.{◌≤◌, length}
use Rattle.frames.proofs.nth_part.Given as goal

abbrev pub invariant-loop : goal.invariant-loop
invariant-loop l = l.at ≤ length l.payload
