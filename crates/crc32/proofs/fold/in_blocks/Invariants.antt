-- `crc32::fold::in_blocks` meets its contract. Assumes nothing.
use Rattle.crc32.specs.Fold.{exponents, pending}
use lib.ListN.{length, drop, take}
use Rattle.crc32.specs.Crc.{crc_from}
use Prim.Native.Nat.{◌+◌, ◌-◌, ◌≤◌}
use mathlib.Core.Path.{◌≡◌}
use Rattle.crc32.proofs.fold.in_blocks.Given as goal

abbrev pub invariant-loop-i : goal.invariant-loop-i
invariant-loop-i l = (l.i + 552 ≤ length l.bytes) × ((length l.kept ≡ 649) × (crc_from (pending exponents (take 137 l.kept))
    (drop l.i l.bytes) ≡ crc_from (pending exponents (take 137 l.initial.kept)) l.bytes))

abbrev pub decreases-loop-i : goal.decreases-loop-i
decreases-loop-i l = length l.bytes - l.i
