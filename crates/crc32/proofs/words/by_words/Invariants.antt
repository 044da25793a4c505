-- `crc32::words::by_words` meets its contract. Assumes nothing.
use Rattle.crc32.specs.Crc.{crc_from}
use lib.ListN.{drop}
use Prim.Native.Nat.{◌*◌}
use mathlib.Core.Path.{◌≡◌}
use Rattle.crc32.proofs.words.by_words.Given as goal

abbrev pub invariant-loop-k : goal.invariant-loop-k
invariant-loop-k l = crc_from l.c (drop (12 * l.k) l.bytes) ≡ crc_from l.state l.bytes
