-- `builder_fill::volume::lebs_for` meets its contract. Assumes nothing.
use mathlib.Core.Path.{refl}
use Rattle.builder_rules.specs.Blocks.{ceiling}
use Rattle.builder_fill.proofs.volume.lebs_for.Goals as goal

pub returns : goal.returns
unfolding ceiling
returns c = refl
