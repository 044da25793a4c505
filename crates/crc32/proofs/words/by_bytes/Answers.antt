-- `crc32::words::by_bytes` meets its contract: the rest of the bytes, from the state now, gives the whole. Assumes
-- nothing.
use Rattle.crc32.proofs.LookUp.{two_halves}
use mathlib.Core.Path.{◌∙◌, ◌≡◌}
use native.Mathlib.Omega.{arith}
use lib.ListN.{length}
use lib.Seq.{drop-length}
use Rattle.crc32.specs.Crc.{crc_from}
use Rattle.crc32.proofs.Laws.{crc_from_step}
use Rattle.crc32.proofs.words.by_bytes.Goals as goal

pub loop-b-preserved : goal.loop-b-preserved
loop-b-preserved c =
    let l = c.loop-b in
    let s = c.args.bytes.now in
    let e = two_halves l.c c.from.result c.nibble.result c.nibble-c.result c.nibble.ensures c.nibble-c.ensures in
    rw (e, c.from.ensures) (crc_from_step s l.b-index l.c c.loop-b-test.true ∙ l.invariant)

pub returns : goal.returns
unfolding crc_from
returns c =
    let s = c.args.bytes.now in
    let e : c.loop-b.b-index ≡ length s = omega arith in
    rw (e, drop-length) at c.loop-b.invariant
