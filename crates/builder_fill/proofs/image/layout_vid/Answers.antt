-- `builder_fill::image::layout_vid` meets its contract. Assumes nothing.
use mathlib.Core.Path.{refl}
use Rattle.builder_rules.specs.Blocks.{layout_vid}
use Rattle.builder_fill.proofs.image.layout_vid.Goals as goal

pub returns : goal.returns
unfolding layout_vid
returns c =
    refl
