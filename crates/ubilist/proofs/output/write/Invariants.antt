-- What the loop of `ubilist::output::write` keeps: there is text left, so the calls that there can be are fewer in each
-- turn.
use Rattle.std.proofs.Common.{◌<◌, length}
use Rattle.transfer.specs.Transfer.{calls_left}
use Rattle.ubilist.proofs.output.write.Given as goal

abbrev pub invariant-loop-next : goal.invariant-loop-next
invariant-loop-next g l = l.p.moved < length l.text

abbrev pub decreases-loop-next : goal.decreases-loop-next
decreases-loop-next g l = calls_left (length l.text) l.p
