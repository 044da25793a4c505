-- `frames::patches` meets its contract. Assumes nothing.
use Rattle.std.proofs.Common.{◌≤◌, length}
use Rattle.frames.proofs.patches.Given as goal

abbrev pub invariant-loop : goal.invariant-loop
invariant-loop l = l.end-2 ≤ length l.payload
