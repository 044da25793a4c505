-- `geometry::slip::read_head` meets its contract. Assumes nothing.
use mathlib.Core.Path.{◌≡◌, ◌∙◌}
use mathlib.Core.Bool.{true}
use native.Mathlib.Omega.{arith}
use Rattle.base.specs.Answers.{all_of}
use Rattle.base.proofs.Answers.{value_is}
use Rattle.geometry.specs.Slip.{value_at, head_rules, head_read}
use Rattle.geometry.proofs.Laws.{head_length}
use Rattle.geometry.proofs.slip.read_head.Goals as goal

pub returns-then-not-has_head : goal.returns-then-not-has_head
unfolding head_read
returns-then-not-has_head c =
    rw (value_is c.has_head.ensures c.if-not-has_head.true)

pub read-peb_size-requires : goal.read-peb_size-requires
read-peb_size-requires c =
    omega (arith, head_length c.args.slip.now (value_is c.has_head.ensures c.if-not-has_head.false))

pub read-unit-requires : goal.read-unit-requires
read-unit-requires c =
    omega (arith, head_length c.args.slip.now (value_is c.has_head.ensures c.if-not-has_head.false))

pub read-sub_unit-requires : goal.read-sub_unit-requires
read-sub_unit-requires c =
    omega (arith, head_length c.args.slip.now (value_is c.has_head.ensures c.if-not-has_head.false))

pub returns : goal.returns
unfolding head_read value_at
returns c =
    let headed : all_of (head_rules c.args.slip.now) ≡ true = value_is c.has_head.ensures c.if-not-has_head.false in
    c.check_geometry.ensures
    ∙ rw (headed, c.read-peb_size.ensures.0, c.read-unit.ensures.0, c.read-sub_unit.ensures.0)
