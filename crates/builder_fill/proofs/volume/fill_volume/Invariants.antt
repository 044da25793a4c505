-- `builder_fill::volume::fill_volume` meets its contract: the LEBs before the l-th are stored. Assumes nothing.
use mathlib.Core.Path.{◌≡◌}
use Prim.Native.Nat.{◌*◌}
use Rattle.base.specs.Below.{concat_below}
use Rattle.base.specs.Lists.{put}
use Rattle.builder_rules.specs.Blocks.{built_ec}
use Rattle.builder_fill.specs.Pebs.{leb_peb}
use Rattle.builder_fill.proofs.volume.fill_volume.Given as goal

abbrev pub invariant-loop-l : goal.invariant-loop-l
invariant-loop-l l =
    let f = l.f in
    l.image ≡ put (l.first * f.geometry.peb_size)
    (concat_below l.l (leb_peb f.geometry (built_ec f.geometry f.image_seq) l.v l.content l.first)) l.initial.image
