-- `builder_slip::field_end` meets its contract. Assumes nothing.
use native.Mathlib.Omega.{arith}
use Rattle.base.proofs.Answers.{value_is}
use Rattle.base.proofs.Lists.{lent_part}
use Rattle.builder_rules.specs.Slip.{length_at}
use Rattle.builder_slip.proofs.Laws.{not_held, other_tag, is_field}
use Rattle.builder_slip.proofs.field_end.Goals as goal

pub returns-then-left-lt-FIELD_HEAD_SIZE : goal.returns-then-left-lt-FIELD_HEAD_SIZE
returns-then-left-lt-FIELD_HEAD_SIZE c =
    let a = c.args in
    rw (not_held a.slip.now a.at (omega arith))

pub returns-then-not-same : goal.returns-then-not-same
returns-then-not-same c =
    let a = c.args in
    rw (other_tag a.slip.now a.at (rw lent_part at (value_is c.same.ensures c.if-not-same.true)))

pub returns-then-left-len : goal.returns-then-left-len
unfolding length_at
returns-then-left-len c =
    let a = c.args in
    rw (not_held a.slip.now a.at (omega arith))

pub returns : goal.returns
unfolding length_at
returns c =
    let a = c.args in
    let t = rw lent_part at (value_is c.same.ensures c.if-not-same.false) in
    rw (is_field a.slip.now a.at t (omega arith), c.read-len.ensures.0)
