-- `crc32::fold::reduce` meets its contract: what is pending now, with the rest of the bytes, gives the whole. Assumes
-- nothing.
use Rattle.crc32.proofs.Folding.{reduce_turn}
use Rattle.crc32.proofs.Pending.{pending_end}
use Rattle.base.specs.Lists.{Bytes}
use Rattle.base.proofs.Lists.{to_end_lem}
use mathlib.Core.Path.{◌≡◌, ◌∙◌}
use Prim.Native.Nat.{◌+◌, ◌*◌}
use native.Mathlib.Omega.{arith}
use lib.ListN.{take}
use lib.Bits.{bit_xor, xor_zero_l}
use Rattle.crc32.specs.Crc.{crc_bits}
use Rattle.crc32.proofs.fold.reduce.Goals as goal

pub loop-k-preserved : goal.loop-k-preserved
loop-k-preserved c =
    let l = c.loop-k in
    let j = 3 * l.k in
    let a = c.args in let bs : Bytes a.bytes.now = λ k. (c.type_inv.bytes k).fits in
    let k1 = c.sum_at in let k2 = c.sum_at-in-loop-k in let k3 = c.sum_at-in-loop-k-2 in
    let c1 = crc_bits 32 (bit_xor l.c k1.result) in let c2 = crc_bits 32 (bit_xor c1 k2.result) in
    let e2 : j + 1 + 1 ≡ j + 2 = omega arith in let e3 : j + 2 + 1 ≡ 3 * (l.k + 1) = omega arith in
    let r1 = reduce_turn a.kept.now a.bytes.now j k1.result bs k1.ensures l.c (omega arith) (omega arith) in
    let r2 = reduce_turn a.kept.now a.bytes.now (j + 1) k2.result bs k2.ensures c1 (omega arith) (omega arith) in
    let r3 = reduce_turn a.kept.now a.bytes.now (j + 2) k3.result bs k3.ensures c2 (omega arith) (omega arith) in
    rw c.three-c.ensures (rw e3 at r3 ∙ rw e2 at r2 ∙ r1 ∙ l.invariant)

pub returns : goal.returns
returns c =
    let l = c.loop-k in
    let e : l.k ≡ 46 = omega arith in
    let z = take 222 c.args.kept.now in
    c.by_words.ensures ∙ rw to_end_lem (rw (e, pending_end z c.requires.1.1.0, xor_zero_l) at l.invariant)
