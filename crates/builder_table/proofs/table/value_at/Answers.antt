-- `builder_table::table::value_at` meets its contract. Assumes nothing.
use borrow.Author.Rules.{rules}
use Rattle.base.proofs.Lists.{lent_part}
use Rattle.builder_rules.specs.Slip.{length_at}
use Rattle.builder_table.proofs.table.value_at.Goals as goal

pub slice_bounds-result-end : goal.slice_bounds-result-end
unfolding length_at
slice_bounds-result-end c =
    search rules

pub returns : goal.returns
unfolding length_at
returns c =
    rw (lent_part, c.read.ensures.0)
