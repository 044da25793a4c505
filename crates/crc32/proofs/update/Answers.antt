-- `crc32::update` meets its contract. Assumes nothing.
use Rattle.crc32.proofs.LookUp.{table_is}
use Rattle.crc32.specs.Table.{crc_rows}
use Rattle.crc32.specs.Crc.{tap, crc_bit, crc_bits}
use Rattle.base.specs.Lists.{eqs}
use native.Mathlib.Omega.{arith}
use Rattle.crc32.proofs.update.Goals as goal

pub by_words-requires : goal.by_words-requires
unfolding tap crc_bit crc_bits crc_rows eqs
by_words-requires c =
    table_is _ tt

pub by_folding-requires : goal.by_folding-requires
unfolding tap crc_bit crc_bits crc_rows eqs
by_folding-requires c =
    (table_is _ tt, omega arith)
