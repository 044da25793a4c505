-- `builder_slip::read_slip` meets its contract. Assumes nothing.
use mathlib.Core.Path.{◌∙◌}
use Rattle.base.proofs.Answers.{value_is}
use Rattle.builder_slip.proofs.Laws.{no_tail, head_decides}
use Rattle.builder_slip.proofs.read_slip.Goals as goal

pub returns-then-not-ends_at : goal.returns-then-not-ends_at
returns-then-not-ends_at c =
    no_tail c.args.slip.now (rw c.requires at (value_is c.ends_at.ensures c.if-not-ends_at.true))

pub returns : goal.returns
returns c =
    c.read_head.ensures
    ∙ head_decides c.args.slip.now (rw c.requires at (value_is c.ends_at.ensures c.if-not-ends_at.false))
