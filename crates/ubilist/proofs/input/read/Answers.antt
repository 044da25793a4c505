-- `ubilist::input::read` meets its contract: the calls that there can be are fewer in each turn. Assumes nothing.
use Rattle.std.proofs.Common.{arith}
use Rattle.ubilist.proofs.Rows.{on_after, input_after}
use Rattle.ubilist.proofs.input.read.Goals as goal

pub unwrap-requires : goal.unwrap-requires
unwrap-requires g c =
    let l = c.loop-next in
    (input_after 9223372036854775807 l.p (omega arith) l.invariant c.read_some-got.ensures c.after-t.ensures.moved
    c.in_ok-got.was c.in_default.not-On c.input_of.ensures).0

pub returns-in_default : goal.returns-in_default
returns-in_default g c =
    let l = c.loop-next in
    let i = input_after 9223372036854775807 l.p (omega arith) l.invariant c.read_some-got.ensures
    c.after-t.ensures.moved c.in_ok-got.was c.in_default.not-On c.input_of.ensures in
    rw c.unwrap.ensures at i.1

pub loop-next-smaller : goal.loop-next-smaller
loop-next-smaller g c =
    (on_after _ _ _ _ _ _ c.loop-next.invariant c.after-t.ensures.moved c.after-t.ensures.failed c.in-On.is).1

pub loop-next-preserved : goal.loop-next-preserved
loop-next-preserved g c =
    (on_after _ _ _ _ _ _ c.loop-next.invariant c.after-t.ensures.moved c.after-t.ensures.failed c.in-On.is).0
