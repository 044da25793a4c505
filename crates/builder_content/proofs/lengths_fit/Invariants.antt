-- `builder_content::lengths_fit` meets its contract: the lengths before the v-th fit. Assumes nothing.
use mathlib.Core.Path.{◌≡◌}
use mathlib.Core.Bool.{true}
use Rattle.base.specs.Below.{all_below}
use Rattle.builder_content.proofs.Laws.{fits}
use Rattle.builder_content.proofs.lengths_fit.Given as goal

abbrev pub invariant-loop-v : goal.invariant-loop-v
invariant-loop-v l = all_below l.v (fits l.table l.leb_size l.lengths) ≡ true
