-- `crc32::words::nibble` meets its contract. Assumes nothing.
use mathlib.Core.Path.{sym, ◌∙◌}
use Rattle.crc32.proofs.Laws.{crc_bits_split}
use Rattle.crc32.proofs.words.nibble.Goals as goal

pub returns : goal.returns
returns c =
    let x = c.args.c in
    sym (crc_bits_split 4 x ∙ cc)
