-- `builder_content::lengths_fit` meets its contract: the lengths before the v-th fit. Assumes nothing.
use native.Mathlib.Omega.{arith}
use lib.ListN.{length}
use Rattle.builder_content.proofs.Laws.{too_long}
use Rattle.builder_content.proofs.lengths_fit.Goals as goal

pub returns-then-capacity-from : goal.returns-then-capacity-from
returns-then-capacity-from c =
    let a = c.args in
    too_long a.table.now a.leb_size a.lengths.now (length a.lengths.now) c.loop-v.v (omega arith) (omega arith)
