-- `crc32::words::read_four` meets its contract. Assumes nothing.
use native.Mathlib.Omega.{arith}
use Rattle.crc32.proofs.LookUp.{four_at}
use Rattle.crc32.proofs.words.read_four.Goals as goal

pub returns : goal.returns
returns c =
    let a = c.args in
    omega (arith, four_at a.i a.s.now (omega arith))
