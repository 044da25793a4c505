-- `ec_header::write_ec` meets its contract. Assumes nothing.
use Prim.Native.Nat.{◌≤◌}
use native.Mathlib.Omega.{arith}
use lib.ListN.{length}
use borrow.Author.Tests.{lt-ltb, le-ltb}
use Rattle.base.proofs.Answers.{value_is}
use Rattle.header.specs.Ec.{ec_written, ec_out}
use Rattle.header.proofs.Writes.{ec_wrote}
use Rattle.ec_header.proofs.write_ec.Goals as goal

pub returns-then-out-lt64 : goal.returns-then-out-lt64
unfolding ec_written ec_out
returns-then-out-lt64 c =
    (rw (lt-ltb _ _ c.if-out-lt64.true), rw (lt-ltb _ _ c.if-out-lt64.true))

pub returns-then-not-ec_readable : goal.returns-then-not-ec_readable
unfolding ec_written ec_out
returns-then-not-ec_readable c =
    let s : 64 ≤ length c.args.out.now = omega arith in
    let g = value_is c.ec_readable.ensures c.if-not-ec_readable.true in
    (rw (le-ltb _ _ s, g), rw (le-ltb _ _ s, g))

pub returns : goal.returns
unfolding ec_written
returns c =
    let a = c.args in
    let s : 64 ≤ length a.out.now = omega arith in
    let g = value_is c.ec_readable.ensures c.if-not-ec_readable.false in
    let w = ec_wrote a.out.now s a.h g c.begin.ensures c.set_ec_fields.ensures in
    (rw (le-ltb _ _ s, g), w c.finish.ensures)
