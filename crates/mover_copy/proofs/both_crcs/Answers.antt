-- `mover_copy::both_crcs` meets its contract. Assumes nothing.
use mathlib.Core.Path.{refl}
use borrow.Author.Rules.{rules}
use Rattle.crc32.specs.Crc.{crc_from}
use Rattle.mover_copy.proofs.both_crcs.Goals as goal

pub extend_crc-crc-requires : goal.extend_crc-crc-requires
unfolding crc_from
extend_crc-crc-requires c =
    (refl, search rules)

pub extend_crc-crc-requires-2 : goal.extend_crc-crc-requires-2
unfolding crc_from
extend_crc-crc-requires-2 c =
    (refl, search rules)
