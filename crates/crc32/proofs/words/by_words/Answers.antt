-- `crc32::words::by_words` meets its contract. Assumes nothing.
use Rattle.crc32.proofs.LookUp.{crc_from_three}
use native.Mathlib.Omega.{arith}
use Prim.Native.Nat.{◌*◌, ◌+◌}
use mathlib.Core.Path.{◌≡◌, ◌∙◌}
use Rattle.crc32.proofs.words.by_words.Goals as goal

pub loop-k-preserved : goal.loop-k-preserved
loop-k-preserved c =
    let l = c.loop-k in
    let n : 12 * (l.k + 1) ≡ 12 * l.k + 12 = omega arith in
    let e = crc_from_three l.c (12 * l.k) c.args.bytes.now (λ k. (c.type_inv.bytes k).fits) (omega arith) in
    rw (
      n,
      c.three-c.ensures,
      c.read_four.ensures,
      c.read_four-in-loop-k.ensures,
      c.read_four-in-loop-k-2.ensures,
    ) (e ∙ l.invariant)
