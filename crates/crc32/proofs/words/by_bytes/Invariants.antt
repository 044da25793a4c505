-- `crc32::words::by_bytes` meets its contract: the rest of the bytes, from the state now, gives the whole. Assumes
-- nothing.
use mathlib.Core.Path.{◌≡◌}
use lib.ListN.{drop}
use Rattle.crc32.specs.Crc.{crc_from}
use Rattle.crc32.proofs.words.by_bytes.Given as goal

abbrev pub invariant-loop-b : goal.invariant-loop-b
invariant-loop-b l = crc_from l.c (drop l.b-index l.bytes) ≡ crc_from l.state l.bytes
