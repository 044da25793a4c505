-- `flash_writes::store_vid` meets its contract. Assumes nothing.
use Rattle.flash_writes.proofs.Writes.{vid_done, vid_made}
use Rattle.flash_writes.proofs.store_vid.Goals as goal

pub unwrap-requires : goal.unwrap-requires
unwrap-requires c = let a = c.args in vid_done a.leb_size a.h c.requires.1 _ c.write_vid.ensures.0

pub returns : goal.returns
returns c = let a = c.args in cc (vid_made a.leb_size a.h c.requires.1)
