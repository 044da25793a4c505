-- `builder_fill::blocks::Format::store_free` meets its contract. Assumes nothing.
use Rattle.builder_rules.specs.Blocks.{built_ec}
use Rattle.builder_fill.proofs.Stores.{free_stored}
use Rattle.builder_fill.proofs.blocks.Format.store_free.Goals as goal

pub returns : goal.returns
returns c =
    let a = c.args in
    let f = a.self.now in
    free_stored f.geometry f.placed (built_ec f.geometry f.image_seq) a.at a.image.now c.requires c.erase.ensures f.made
    c.store.ensures
