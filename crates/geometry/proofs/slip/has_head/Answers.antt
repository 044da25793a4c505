-- `geometry::slip::has_head` meets its contract: one field that is not the next one of a head is enough. Assumes
-- nothing.
use borrow.Author.Tests.{lt-leb}
use Rattle.base.proofs.Answers.{value_is}
use Rattle.field.specs.Be.{to_be_on}
use Rattle.geometry.specs.Slip.{has_field, head_rules}
use Rattle.geometry.proofs.Laws.{no_head, last_field}
use Rattle.geometry.proofs.slip.has_head.Goals as goal

pub returns-then-slip-lt-HEAD_SIZE : goal.returns-then-slip-lt-HEAD_SIZE
unfolding head_rules
returns-then-slip-lt-HEAD_SIZE c =
    no_head c.args.slip.now 0 (lt-leb _ _ c.if-slip-lt-HEAD_SIZE.true)

pub returns-then-not-same : goal.returns-then-not-same
unfolding head_rules has_field to_be_on
returns-then-not-same c =
    no_head c.args.slip.now 1 (value_is c.same.ensures c.if-not-same.true)

pub returns-then-not-same-2 : goal.returns-then-not-same-2
unfolding head_rules has_field to_be_on
returns-then-not-same-2 c =
    no_head c.args.slip.now 2 (value_is c.same-2.ensures c.if-not-same-2.true)

pub returns : goal.returns
unfolding has_field to_be_on
returns c =
    last_field c.args.slip.now c.if-slip-lt-HEAD_SIZE.false (value_is c.same.ensures c.if-not-same.false)
    (value_is c.same-2.ensures c.if-not-same-2.false) c.same-3.ensures
