-- `crc32::fold::sum_at` meets its contract. Assumes nothing.
use Rattle.crc32.proofs.Pending.{pending_word}
use lib.ListN.{get_or}
use native.Mathlib.Nat.{mod-eq_of_lt}
use native.Mathlib.Omega.{arith}
use Prim.Native.Nat.{◌+◌, ◌^◌, ◌<◌}
use Rattle.crc32.proofs.fold.sum_at.Goals as goal

pub returns : goal.returns
returns c =
    let a = c.args in let b = a.kept.now in
    let w29 : get_or b (a.j + 29) 0 < 2 ^ 32 = omega (arith, c.word_at.ensures) in
    let w8 : get_or b (a.j + 8) 0 < 2 ^ 32 = omega (arith, c.word_at-2.ensures) in
    let w0 : get_or b a.j 0 < 2 ^ 32 = omega (arith, c.word_at-3.ensures) in
    let w84 : get_or b (a.j + 84) 0 < 2 ^ 32 = omega (arith, c.word_at-4.ensures) in
    let w80 : get_or b (a.j + 80) 0 < 2 ^ 32 = omega (arith, c.word_at-5.ensures) in
    let w70 : get_or b (a.j + 70) 0 < 2 ^ 32 = omega (arith, c.word_at-6.ensures) in
    cc (
      pending_word a.j b,
      mod-eq_of_lt w84,
      mod-eq_of_lt w80,
      mod-eq_of_lt w70,
      mod-eq_of_lt w29,
      mod-eq_of_lt w8,
      mod-eq_of_lt w0,
    )
