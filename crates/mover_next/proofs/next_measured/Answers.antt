-- `mover_next::next_measured` meets its contract. Assumes nothing.
use mathlib.Core.Path.{sym}
use native.Mathlib.Omega.{arith}
use Rattle.mover_steps.proofs.Rules.{runs, data_bounds}
use Rattle.mover_next.proofs.Upcoming.{next_refused, next_vid, next_unit, next_erase, next_ec, next_nothing}
use Rattle.mover_next.proofs.next_measured.Goals as goal

pub returns-then-not-may_run : goal.returns-then-not-may_run
returns-then-not-may_run c = next_refused c.args.m.plan c.args.image.now (sym c.if-not-may_run.ensures)

pub peb_start-requires : goal.peb_start-requires
peb_start-requires c =
    let a = c.args in
    ((runs a.m a.image.now (sym c.if-not-may_run.ensures)).target_below, a.m.measured.placed.peb_most)

pub returns-then-plan-eq0 : goal.returns-then-plan-eq0
returns-then-plan-eq0 c =
    next_vid c.args.m c.args.image.now (sym c.if-not-may_run.ensures) c.if-plan-eq0.true c.peb_start.ensures

pub data_steps-k-requires : goal.data_steps-k-requires
data_steps-k-requires c = data_bounds (runs c.args.m c.args.image.now (sym c.if-not-may_run.ensures))

pub next_unit-requires : goal.next_unit-requires
next_unit-requires c = (
  runs c.args.m c.args.image.now (sym c.if-not-may_run.ensures),
  omega (arith, c.data_steps-k.ensures.0, c.if-j-k.true),
)

pub returns-then-j-k : goal.returns-then-j-k
returns-then-j-k c =
    next_unit c.args.m c.args.image.now (sym c.if-not-may_run.ensures) c.if-plan-eq0.false c.data_steps-k.ensures.0
    c.if-j-k.true c.next_unit.ensures

pub peb_start-at-requires : goal.peb_start-at-requires
peb_start-at-requires c =
    let a = c.args in
    ((runs a.m a.image.now (sym c.if-not-may_run.ensures)).old_below, a.m.measured.placed.peb_most)

pub returns-then-j-k-2 : goal.returns-then-j-k-2
returns-then-j-k-2 c =
    next_erase c.args.m c.args.image.now (sym c.if-not-may_run.ensures) c.if-plan-eq0.false c.data_steps-k.ensures.0
    c.if-j-k-2.true c.peb_start-at.ensures

pub returns-then-j-k-3 : goal.returns-then-j-k-3
returns-then-j-k-3 c =
    next_ec c.args.m c.args.image.now (sym c.if-not-may_run.ensures) c.if-plan-eq0.false c.data_steps-k.ensures.0
    c.if-j-k-3.true c.peb_start-at.ensures

pub returns : goal.returns
returns c =
    next_nothing c.args.m c.args.image.now (sym c.if-not-may_run.ensures) c.if-plan-eq0.false c.data_steps-k.ensures.0
    c.if-j-k.false c.if-j-k-2.false c.if-j-k-3.false
