-- `builder_fill::image::free_from` meets its contract: the PEBs before p are stored. Assumes nothing.
use mathlib.Core.Path.{◌≡◌}
use Prim.Native.Nat.{ℕ, ◌-◌, ◌*◌}
use Rattle.base.specs.Below.{concat_below}
use Rattle.base.specs.Lists.{put}
use Rattle.builder_rules.specs.Blocks.{built_ec, free_peb}
use Rattle.builder_fill.proofs.image.free_from.Given as goal

abbrev pub invariant-loop-p : goal.invariant-loop-p
invariant-loop-p l =
    let f = l.f in
    l.image ≡ put (l.first * f.geometry.peb_size)
    (concat_below (l.p - l.first) (λ (_ : ℕ). free_peb f.geometry (built_ec f.geometry f.image_seq))) l.initial.image
