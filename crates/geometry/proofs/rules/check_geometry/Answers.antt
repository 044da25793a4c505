-- `geometry::rules::check_geometry` meets its contract: one broken rule refuses, else the geometry is the one of the
-- rules. Assumes nothing.
use native.Mathlib.Omega.{arith}
use borrow.Author.Tests.{lt-leb, ne_eqb}
use Rattle.base.proofs.Answers.{value_is}
use Rattle.geometry.specs.Geometry.{geometry_rules}
use Rattle.geometry.proofs.Laws.{unit_range, outside, inside, too_short}
use Rattle.geometry.proofs.rules.check_geometry.Goals as goal

pub returns-then-not-is_unit : goal.returns-then-not-is_unit
unfolding geometry_rules
returns-then-not-is_unit c =
    outside c.args.peb_size c.args.unit c.args.sub_unit 0
    (value_is c.is_unit.ensures c.if-not-is_unit.true)

pub returns-then-not-is_unit-2 : goal.returns-then-not-is_unit-2
unfolding geometry_rules
returns-then-not-is_unit-2 c =
    outside c.args.peb_size c.args.unit c.args.sub_unit 1
    (value_is c.is_unit-2.ensures c.if-not-is_unit-2.true)

pub returns-then-unit-sub_unit : goal.returns-then-unit-sub_unit
unfolding geometry_rules
returns-then-unit-sub_unit c =
    outside c.args.peb_size c.args.unit c.args.sub_unit 2 (lt-leb _ _ c.if-unit-sub_unit.true)

pub returns-then-peb_size-lt1024 : goal.returns-then-peb_size-lt1024
unfolding geometry_rules
returns-then-peb_size-lt1024 c =
    outside c.args.peb_size c.args.unit c.args.sub_unit 3 (lt-leb _ _ c.if-peb_size-lt1024.true)

pub returns-then-peb_size-gt-MOST_PEB_SIZE : goal.returns-then-peb_size-gt-MOST_PEB_SIZE
unfolding geometry_rules
returns-then-peb_size-gt-MOST_PEB_SIZE c =
    outside c.args.peb_size c.args.unit c.args.sub_unit 4 (lt-leb _ _ c.if-peb_size-gt-MOST_PEB_SIZE.true)

pub nonzero_rem-peb_size : goal.nonzero_rem-peb_size
nonzero_rem-peb_size c =
    omega (arith, unit_range c.args.unit (value_is c.is_unit.ensures c.if-not-is_unit.false))

pub returns-then-peb_size-unit-ne0 : goal.returns-then-peb_size-unit-ne0
unfolding geometry_rules
returns-then-peb_size-unit-ne0 c =
    outside c.args.peb_size c.args.unit c.args.sub_unit 5 (ne_eqb _ _ c.if-peb_size-unit-ne0.true)

pub round_up-vid_start-requires : goal.round_up-vid_start-requires
round_up-vid_start-requires c =
    omega (arith, unit_range c.args.sub_unit (value_is c.is_unit-2.ensures c.if-not-is_unit-2.false))

pub overflow_add-vid_start : goal.overflow_add-vid_start
overflow_add-vid_start c =
    omega (arith, unit_range c.args.sub_unit (value_is c.is_unit-2.ensures c.if-not-is_unit-2.false))

pub round_up-data_start-requires : goal.round_up-data_start-requires
round_up-data_start-requires c =
    omega (
      arith,
      unit_range c.args.sub_unit (value_is c.is_unit-2.ensures c.if-not-is_unit-2.false),
      unit_range c.args.unit (value_is c.is_unit.ensures c.if-not-is_unit.false),
    )

pub overflow_add-data_start : goal.overflow_add-data_start
overflow_add-data_start c =
    omega (
      arith,
      unit_range c.args.sub_unit (value_is c.is_unit-2.ensures c.if-not-is_unit-2.false),
      unit_range c.args.unit (value_is c.is_unit.ensures c.if-not-is_unit.false),
    )

pub returns-then-peb_size-data_start : goal.returns-then-peb_size-data_start
returns-then-peb_size-data_start c =
    too_short c.args.peb_size c.args.unit c.args.sub_unit c.round_up-vid_start.result
    c.round_up-data_start.result c.round_up-vid_start.ensures.0 c.round_up-data_start.ensures.0
    c.if-peb_size-data_start.true

pub returns : goal.returns
returns c =
    let a = c.args in
    inside a.peb_size a.unit a.sub_unit c.round_up-vid_start.result c.round_up-data_start.result
    (value_is c.is_unit.ensures c.if-not-is_unit.false) (value_is c.is_unit-2.ensures c.if-not-is_unit-2.false)
    c.if-unit-sub_unit.false c.if-peb_size-lt1024.false c.if-peb_size-gt-MOST_PEB_SIZE.false
    c.if-peb_size-unit-ne0.false c.round_up-vid_start.ensures.0 c.round_up-data_start.ensures.0
    c.if-peb_size-data_start.false
