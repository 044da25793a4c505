-- `vid_header::write_vid` meets its contract. Assumes nothing.
use Prim.Native.Nat.{◌≤◌}
use native.Mathlib.Omega.{arith}
use lib.ListN.{length}
use borrow.Author.Tests.{lt-ltb, le-ltb}
use Rattle.base.proofs.Answers.{value_is}
use Rattle.header.specs.Vid.{vid_written, vid_out}
use Rattle.header.proofs.Writes.{vid_wrote}
use Rattle.vid_header.proofs.write_vid.Goals as goal

pub returns-then-out-lt64 : goal.returns-then-out-lt64
unfolding vid_written vid_out
returns-then-out-lt64 c =
    (rw (lt-ltb _ _ c.if-out-lt64.true), rw (lt-ltb _ _ c.if-out-lt64.true))

pub returns-then-not-vid_readable : goal.returns-then-not-vid_readable
unfolding vid_written vid_out
returns-then-not-vid_readable c =
    let s : 64 ≤ length c.args.out.now = omega arith in
    let g = value_is c.vid_readable.ensures c.if-not-vid_readable.true in
    (rw (le-ltb _ _ s, g), rw (le-ltb _ _ s, g))

pub returns : goal.returns
unfolding vid_written
returns c =
    let a = c.args in
    let s : 64 ≤ length a.out.now = omega arith in
    let g = value_is c.vid_readable.ensures c.if-not-vid_readable.false in
    let w = vid_wrote a.out.now s a.leb_size a.h g c.begin.ensures c.set_kind.ensures in (
      rw (le-ltb _ _ s, g),
      w c.set_volume.ensures c.set_data.ensures
          c.finish.ensures,
    )
