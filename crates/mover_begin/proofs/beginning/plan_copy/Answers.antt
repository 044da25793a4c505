-- `mover_begin::beginning::plan_copy` meets its contract. Assumes nothing.
use mathlib.Core.Path.{sym, ◌∙◌}
use Rattle.mover_begin.proofs.Begins.{fits, mean_is, damaged_refused, target_refused}
use Rattle.mover_begin.proofs.Begins.{highest_refused, counter_refused, planned}
use Rattle.mover_begin.proofs.beginning.plan_copy.Goals as goal

pub examine-found-requires : goal.examine-found-requires
examine-found-requires c = fits c.requires.0 c.requires.1

pub returns-then-found : goal.returns-then-found
returns-then-found c =
    let a = c.args in
    rw c.unplaced.ensures
    (damaged_refused c.requires.0 a.p.now a.old a.h a.target c.examine-found.ensures c.if-found.true)

pub returns-then-is_no_target : goal.returns-then-is_no_target
returns-then-is_no_target c =
    let a = c.args in
    rw c.unplaced-then-is_no_target.ensures
    (target_refused c.requires.0 a.p.now a.old a.h a.target c.examine-found.ensures c.if-found.false
    (sym c.is_no_target.ensures ∙ c.if-is_no_target.true))

pub returns-then-report-eq-LAST_SEQUENCE : goal.returns-then-report-eq-LAST_SEQUENCE
returns-then-report-eq-LAST_SEQUENCE c =
    let a = c.args in
    rw c.unplaced-then-report-eq-LAST_SEQUENCE.ensures
    (highest_refused c.requires.0 a.p.now a.old a.h a.target c.examine-found.ensures c.if-found.false
    (sym c.is_no_target.ensures ∙ c.if-is_no_target.false) c.if-report-eq-LAST_SEQUENCE.true)

pub old_counter-counter-requires : goal.old_counter-counter-requires
old_counter-counter-requires c = let p = c.requires in (p.0.reported, (mean_is p.0, p.1.within))

pub returns-then-counter-eq-LAST_COUNTER : goal.returns-then-counter-eq-LAST_COUNTER
returns-then-counter-eq-LAST_COUNTER c =
    let a = c.args in
    rw c.unplaced-then-counter-eq-LAST_COUNTER.ensures
    (counter_refused c.requires.0 a.p.now a.old a.h a.target c.examine-found.ensures c.if-found.false
    (sym c.is_no_target.ensures ∙ c.if-is_no_target.false) c.if-report-eq-LAST_SEQUENCE.false
    c.old_counter-counter.ensures c.if-counter-eq-LAST_COUNTER.true)

pub returns : goal.returns
returns c =
    let a = c.args in
    rw c.make_plan.ensures
    (planned c.requires.0 a.p.now a.old a.h a.target c.examine-found.ensures c.if-found.false
    (sym c.is_no_target.ensures ∙ c.if-is_no_target.false) c.if-report-eq-LAST_SEQUENCE.false
    c.old_counter-counter.ensures c.if-counter-eq-LAST_COUNTER.false)
