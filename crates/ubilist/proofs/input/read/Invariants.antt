-- What the loop of `ubilist::input::read` keeps: there is room for one byte more, so the calls that there can be are
-- fewer in each turn.
use Rattle.std.proofs.Common.{◌<◌}
use Rattle.transfer.specs.Transfer.{calls_left}
use Rattle.ubilist.proofs.input.read.Given as goal

abbrev pub invariant-loop-next : goal.invariant-loop-next
invariant-loop-next g l = l.p.moved < 61441

abbrev pub decreases-loop-next : goal.decreases-loop-next
decreases-loop-next g l = calls_left 61441 l.p
