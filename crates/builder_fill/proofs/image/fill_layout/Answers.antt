-- `builder_fill::image::fill_layout` meets its contract. Assumes nothing.
use mathlib.Core.Path.{ap}
use native.Mathlib.Omega.{arith}
use Rattle.builder_rules.specs.Blocks.{built_ec, used_peb, layout_vid}
use Rattle.builder_rules.proofs.Pebs.{used_length}
use Rattle.builder_fill.proofs.Stores.{pair_stored, layout_header}
use Rattle.builder_fill.proofs.image.fill_layout.Goals as goal

pub store_used-requires : goal.store_used-requires
store_used-requires c =
    let f = c.args.f.now in
    ((omega arith, c.requires.1), layout_header f.geometry f.placed 1 0 (omega arith) c.layout_vid.ensures)

pub store_used-requires-2 : goal.store_used-requires-2
store_used-requires-2 c =
    let f = c.args.f.now in
    ((omega arith, c.requires.1), layout_header f.geometry f.placed 2 1 (omega arith) c.layout_vid-2.ensures)

pub returns : goal.returns
returns c =
    let a = c.args in
    let f = a.f.now in
    let g = f.geometry in
    let ec = built_ec g f.image_seq in
    let t = a.table.now in
    pair_stored g.peb_size (used_peb g ec (layout_vid 1 0) t) (used_peb g ec (layout_vid 2 1) t) a.image.now
    (used_length g f.placed ec (layout_vid 1 0) t c.requires.1) (omega (arith, c.requires.0))
    (ap (λ h. used_peb g ec h t) c.layout_vid.ensures) (ap (λ h. used_peb g ec h t) c.layout_vid-2.ensures)
    c.store_used.ensures c.store_used-2.ensures
