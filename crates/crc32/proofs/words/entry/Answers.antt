-- `crc32::words::entry` meets its contract, by the rule of the table. Assumes nothing.
use Prim.Native.Nat.{◌%◌}
use native.Mathlib.Omega.{arith}
use Rattle.crc32.proofs.LookUp.{table_rule}
use Rattle.crc32.proofs.words.entry.Goals as goal

pub returns : goal.returns
returns c =
    let a = c.args in
    rw c.requires.0 (table_rule a.row (a.z % 16) (omega arith) (omega arith))
