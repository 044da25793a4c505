-- `crc32::words::by_four` meets its contract. Assumes nothing.
use Rattle.crc32.proofs.LookUp.{crc_from_part}
use native.Mathlib.Omega.{arith}
use Prim.Native.Nat.{◌*◌, ◌+◌}
use mathlib.Core.Path.{◌≡◌, ◌∙◌}
use Rattle.crc32.proofs.words.by_four.Goals as goal

pub loop-k-preserved : goal.loop-k-preserved
loop-k-preserved c =
    let l = c.loop-k in
    let n : 4 * (l.k + 1) ≡ 4 * l.k + 4 = omega arith in
    let e = crc_from_part 4 l.c (4 * l.k) c.args.bytes.now (λ k. (c.type_inv.bytes k).fits) (omega arith) in
    rw (n, c.four-c.ensures, c.read_four.ensures) (e ∙ l.invariant)
