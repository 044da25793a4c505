-- `summary::report_mapped` meets its contract. Assumes nothing.
use native.Mathlib.Omega.{arith}
use Rattle.volumes.proofs.Words.{within}
use Rattle.summary.proofs.Reports.{graded, report_is}
use borrow.Author.Rules.{rules}
use Rattle.summary.proofs.report_mapped.Goals as goal

pub overflow_cast-result-2 : goal.overflow_cast-result-2
overflow_cast-result-2 c =
    let p = c.requires in omega (arith, (within p.fitting.sorted).1, p.room.few)

pub returns-clause-answer : goal.returns-clause-answer
returns-clause-answer c =
    let g = graded c.requires c.fill_states.ensures (search rules) in
    report_is c.requires c.mean.ensures (c.grade-grade.ensures c.args.g c.args.image.now g)
