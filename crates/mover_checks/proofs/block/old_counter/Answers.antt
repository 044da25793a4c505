-- `mover_checks::block::old_counter` meets its contract. Assumes nothing.
use mathlib.Core.Path.{◌∙◌}
use Rattle.report.specs.View.{medium_of}
use Rattle.mover_rules.proofs.Bounds.{counter_most}
use Rattle.mover_checks.proofs.Words.{counter_lost, counter_there}
use Rattle.mover_checks.proofs.block.old_counter.Goals as goal

pub returns-then-counter : goal.returns-then-counter
returns-then-counter c =
    let a = c.args in let r = c.requires.0 in let h = c.requires.1.1 in
    c.requires.1.0
    ∙ counter_lost (medium_of a.g a.n a.image.now) a.old
    (counter_most a.g r.placed a.n a.image.now r.bytes r.whole a.old h)
    (c.counter_word-counter.ensures ∙ r.counters a.old h) c.if-counter.true

pub returns : goal.returns
returns c =
    let a = c.args in let r = c.requires.0 in let h = c.requires.1.1 in
    counter_there (medium_of a.g a.n a.image.now) a.old
    (counter_most a.g r.placed a.n a.image.now r.bytes r.whole a.old h)
    (c.counter_word-counter.ensures ∙ r.counters a.old h) c.if-counter.false
