-- `crc32::fold::fold_block` meets its contract: what is pending now, with the rest of the bytes, gives the whole.
-- Assumes nothing.
use mathlib.Core.Path.{◌≡◌}
use Prim.Native.Nat.{◌*◌}
use lib.ListN.{length, drop}
use Rattle.base.specs.Lists.{part}
use Rattle.crc32.specs.Crc.{crc_from}
use Rattle.crc32.specs.Fold.{exponents, pending}
use Rattle.crc32.proofs.fold.fold_block.Given as goal

abbrev pub invariant-loop-k : goal.invariant-loop-k
invariant-loop-k l = (length l.kept ≡ 649) × (crc_from (pending exponents (part (4 * l.k) 137 l.kept))
    (drop (4 * (4 * l.k)) l.bytes) ≡ crc_from (pending exponents (part 0 137 l.initial.kept)) l.bytes)
