-- `builder_fill::image::fill_volumes` meets its contract: the volumes before the v-th are stored. Assumes nothing.
use mathlib.Core.Path.{◌≡◌}
use Prim.Native.Nat.{◌+◌}
use lib.ListN.{length}
use Rattle.base.specs.Below.{sum_below}
use Rattle.builder_rules.specs.Blocks.{lebs_of, length_of}
use Rattle.builder_rules.specs.Filling.{plan_from, Filled}
use Rattle.builder_fill.proofs.image.fill_volumes.Given as goal

abbrev pub invariant-loop-v : goal.invariant-loop-v
invariant-loop-v l =
    let b = plan_from l.f.geometry l.f.image_seq (length l.lengths) l.table l.lengths l.content in record {
      next : l.p ≡ 2 + sum_below l.v (lebs_of b);
      starts : l.from ≡ sum_below l.v (length_of b);
      filled : Filled b l.p l.image;
    }
