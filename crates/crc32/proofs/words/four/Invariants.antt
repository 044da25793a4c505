-- `crc32::words::four` meets its contract: what is looked up, with the rest after fewer shifts, gives the whole.
-- Assumes nothing.
use lib.Bits.{bit_xor}
use Prim.Native.Nat.{◌+◌, ◌*◌, ◌^◌, ◌<◌}
use mathlib.Core.Path.{◌≡◌}
use Rattle.crc32.specs.Crc.{crc_bits}
use Rattle.crc32.proofs.words.four.Given as goal

abbrev pub invariant-loop-k : goal.invariant-loop-k
invariant-loop-k l = (l.rest < 2 ^ (4 * l.k)) × (bit_xor l.c (crc_bits (4 * (l.row + l.k)) l.rest) ≡ crc_bits (4 * (l.row + 8)) l.z)
