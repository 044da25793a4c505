-- `transfer::after_interruption` meets its contract. Assumes nothing.
use borrow.Author.Tests.{eq-eqb, ne_eqb}
use Rattle.transfer.specs.Transfer.{after_interruption}
use Rattle.transfer.proofs.after_interruption.Goals as goal

pub returns-then-p-eq0 : goal.returns-then-p-eq0
unfolding after_interruption
returns-then-p-eq0 c =
    rw (eq-eqb _ _ c.if-p-eq0.true)

pub returns : goal.returns
unfolding after_interruption
returns c =
    rw (ne_eqb _ _ c.if-p-eq0.false)
