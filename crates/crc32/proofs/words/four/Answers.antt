-- `crc32::words::four` meets its contract: what is looked up, with the rest after fewer shifts, gives the whole.
-- Assumes nothing.
use Rattle.crc32.proofs.Sparse.{crc_bits_zero}
use lib.Pow.{shr_lt}
use lib.Bits.{xor_zero_r}
use Prim.Native.Nat.{◌-◌, ◌+◌, ◌*◌}
use mathlib.Core.Path.{◌∙◌, ◌≡◌}
use native.Mathlib.Omega.{arith}
use Rattle.crc32.proofs.LookUp.{nibble_more}
use Rattle.crc32.proofs.words.four.Goals as goal

pub loop-k-preserved : goal.loop-k-preserved
loop-k-preserved c =
    let l = c.loop-k in
    let row = c.args.row in
    let n = l.k - 1 in
    let e : 4 * l.k ≡ 4 * n + 4 = omega arith in
    let f : row + l.k ≡ row + n + 1 = omega arith in (
      shr_lt (4 * n) 4 (rw e at l.invariant.0),
      rw c.entry-c.ensures
          (nibble_more l.c (row + n) l.rest ∙ rw f at l.invariant.1),
    )

pub returns : goal.returns
returns c =
    let l = c.loop-k in
    let e : l.k ≡ 0 = omega arith in
    let none : l.rest ≡ 0 = omega (arith, rw e at l.invariant.0) in
    rw (none, crc_bits_zero, xor_zero_r) at l.invariant.1
