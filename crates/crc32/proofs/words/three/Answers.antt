-- `crc32::words::three` meets its contract. Assumes nothing.
use Rattle.crc32.proofs.LookUp.{three_words}
use Rattle.crc32.proofs.words.three.Goals as goal

pub returns : goal.returns
returns c =
    let a = c.args in
    rw (c.four.ensures, c.four-2.ensures, c.four-3.ensures)
    (three_words a.a a.b a.c)
