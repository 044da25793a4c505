-- `flash_writes::store_ec` meets its contract. Assumes nothing.
use Rattle.flash_writes.proofs.Writes.{ec_done, ec_made}
use Rattle.flash_writes.proofs.store_ec.Goals as goal

pub unwrap-requires : goal.unwrap-requires
unwrap-requires c = let a = c.args in ec_done a.h c.requires.1 _ c.write_ec.ensures.0

pub returns : goal.returns
returns c = let a = c.args in cc (ec_made a.h c.requires.1)
