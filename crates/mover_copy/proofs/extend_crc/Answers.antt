-- `mover_copy::extend_crc` meets its contract. Assumes nothing.
use Rattle.mover_copy.proofs.Data.{crc_goes_on}
use Rattle.mover_copy.proofs.extend_crc.Goals as goal

pub returns : goal.returns
returns c =
    crc_goes_on c.args.p.now c.args.g.data_start c.args.from c.args.to c.requires.1.0 c.requires.0
    c.update.ensures
