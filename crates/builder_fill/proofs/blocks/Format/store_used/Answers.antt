-- `builder_fill::blocks::Format::store_used` meets its contract. Assumes nothing.
use Rattle.builder_rules.specs.Blocks.{built_ec}
use Rattle.builder_fill.proofs.Stores.{used_stored}
use Rattle.builder_fill.proofs.blocks.Format.store_used.Goals as goal

pub returns : goal.returns
returns c =
    let a = c.args in
    let f = a.self.now in
    used_stored f.geometry f.placed (built_ec f.geometry f.image_seq) a.at a.image.now a.vid a.bytes.now c.requires.0.1
    c.requires.0.0 c.store_headers.ensures c.store.ensures c.erase.ensures
