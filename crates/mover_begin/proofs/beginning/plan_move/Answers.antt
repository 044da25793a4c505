-- `mover_begin::beginning::plan_move` meets its contract. Assumes nothing.
use mathlib.Core.Path.{sym, ◌∙◌}
use Rattle.mover_begin.proofs.Begins.{read_only_refused, standing_refused, unmapped_refused, found_planned, found_copy}
use Rattle.mover_begin.proofs.beginning.plan_move.Goals as goal

pub returns-then-report : goal.returns-then-report
returns-then-report c =
    let a = c.args in
    rw c.unplaced.ensures (read_only_refused c.requires.told a.volume a.lnum a.target c.if-report.true)

pub returns-then-any_to_delete : goal.returns-then-any_to_delete
returns-then-any_to_delete c =
    let a = c.args in
    rw c.unplaced-then-any_to_delete.ensures
    (standing_refused c.requires.told a.volume a.lnum a.target c.if-report.false
    (sym c.any_to_delete.ensures ∙ c.if-any_to_delete.true))

pub plan_peb-requires : goal.plan_peb-requires
plan_peb-requires c =
    let a = c.args in
    let t = c.requires.told in
    let found = sym (c.requires.found a.volume a.lnum) ∙ sym c.in-Some.ensures in
    (t, found_copy t a.volume a.lnum a.target c.in-Some.old found)

pub returns : goal.returns
returns c =
    let a = c.args in
    found_planned c.requires.told a.volume a.lnum a.target c.if-report.false
    (sym c.any_to_delete.ensures ∙ c.if-any_to_delete.false) c.in-Some.old
    (sym (c.requires.found a.volume a.lnum) ∙ sym c.in-Some.ensures) c.plan_peb.ensures

pub returns-in_default : goal.returns-in_default
returns-in_default c =
    let a = c.args in
    rw c.unplaced-in_default.ensures
    (unmapped_refused c.requires.told a.volume a.lnum a.target c.if-report.false
    (sym c.any_to_delete.ensures ∙ c.if-any_to_delete.false)
    (sym (c.requires.found a.volume a.lnum) ∙ sym c.in_default.ensures))
