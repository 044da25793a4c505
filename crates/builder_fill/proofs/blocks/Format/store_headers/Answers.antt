-- `builder_fill::blocks::Format::store_headers` meets its contract. Assumes nothing.
use Rattle.builder_rules.specs.Blocks.{built_ec}
use Rattle.builder_fill.proofs.Stores.{headers_stored}
use Rattle.builder_fill.proofs.blocks.Format.store_headers.Goals as goal

pub returns : goal.returns
returns c =
    let a = c.args in
    let f = a.self.now in
    headers_stored f.geometry f.placed (built_ec f.geometry f.image_seq) a.at a.image.now a.vid c.requires.0
    c.erase.ensures f.made c.store.ensures c.store_vid.ensures
