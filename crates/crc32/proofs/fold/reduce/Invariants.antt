-- `crc32::fold::reduce` meets its contract: what is pending now, with the rest of the bytes, gives the whole. Assumes
-- nothing.
use mathlib.Core.Path.{◌≡◌}
use Prim.Native.Nat.{◌*◌}
use lib.ListN.{drop, take}
use lib.Bits.{bit_xor}
use Rattle.crc32.specs.Crc.{crc_from}
use Rattle.crc32.specs.Fold.{exponents, pending}
use Rattle.crc32.proofs.fold.reduce.Given as goal

abbrev pub invariant-loop-k : goal.invariant-loop-k
invariant-loop-k l =
    crc_from (bit_xor (pending exponents (drop (3 * l.k) (take 222 l.kept))) l.c) (drop (4 * (3 * l.k)) l.bytes)
    ≡ crc_from (pending exponents (take 222 l.kept)) l.bytes
