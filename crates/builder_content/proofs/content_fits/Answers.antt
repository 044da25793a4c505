-- `builder_content::content_fits` meets its contract. Assumes nothing.
use native.Mathlib.Omega.{arith}
use Rattle.builder_rules.specs.Filling.{plan_from}
use Rattle.builder_content.proofs.Laws.{other_count, other_sum, lengths_decide}
use Rattle.builder_content.proofs.content_fits.Goals as goal

pub returns-then-lengths-count : goal.returns-then-lengths-count
returns-then-lengths-count c =
    let a = c.args in
    other_count (plan_from a.g 0 a.count a.table.now a.lengths.now a.content.now) c.if-lengths-count.true

pub returns-then-sum_of-bytes : goal.returns-then-sum_of-bytes
returns-then-sum_of-bytes c =
    let a = c.args in
    other_sum (plan_from a.g 0 a.count a.table.now a.lengths.now a.content.now) (omega arith) c.sum_of.ensures
    c.if-sum_of-bytes.true

pub returns : goal.returns
returns c =
    let a = c.args in
    lengths_decide (plan_from a.g 0 a.count a.table.now a.lengths.now a.content.now) (omega arith) c.sum_of.ensures
    (omega arith) c.lengths_fit.ensures
