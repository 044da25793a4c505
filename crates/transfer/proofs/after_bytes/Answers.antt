-- `transfer::after_bytes` meets its contract. Assumes nothing.
use Prim.Native.Nat.{◌+◌, ◌≤◌}
use native.Mathlib.Omega.{arith}
use borrow.Author.Tests.{eq-eqb, ne_eqb, lt-ltb, le-ltb}
use Rattle.transfer.specs.Transfer.{after_bytes}
use Rattle.transfer.proofs.Laws.{beyond}
use Rattle.transfer.proofs.after_bytes.Goals as goal

pub returns-then-n-eq0 : goal.returns-then-n-eq0
unfolding after_bytes
returns-then-n-eq0 c =
    rw (eq-eqb _ _ c.if-n-eq0.true)

pub returns-in_default : goal.returns-in_default
returns-in_default c =
    let a = c.args in
    let h : a.p.moved ≤ a.room → ⊥ = c.in_default.ensures in
    beyond a.room a.p a.n c.if-n-eq0.false (omega arith)

pub returns-then-left-n : goal.returns-then-left-n
returns-then-left-n c =
    let a = c.args in
    beyond a.room a.p a.n c.if-n-eq0.false (omega (arith, c.in-Some.ensures))

pub returns-then-left-n-2 : goal.returns-then-left-n-2
unfolding after_bytes
returns-then-left-n-2 c =
    let a = c.args in
    let m = a.p.moved + a.n in
    rw (ne_eqb a.n 0 c.if-n-eq0.false, le-ltb m a.room (omega (arith, c.in-Some.ensures)), eq-eqb m a.room (omega (arith, c.in-Some.ensures)))

pub returns : goal.returns
unfolding after_bytes
returns c =
    let a = c.args in
    let m = a.p.moved + a.n in
    rw (ne_eqb a.n 0 c.if-n-eq0.false, lt-ltb m a.room (omega (arith, c.in-Some.ensures, c.if-left-n-2.false)))
