-- `listing_text::lines::vol_line` meets its contract. Assumes nothing.
use borrow.Author.Tests.{eq-eqb, ne_eqb}
use Rattle.listing_text.proofs.Laws.{both_written, written_none}
use Rattle.listing_text.specs.Text.{vol_line, pair, labelled}
use Rattle.listing_text.proofs.lines.vol_line.Goals as goal

pub returns-then-state-eq-ABSENT-clause-text : goal.returns-then-state-eq-ABSENT-clause-text
unfolding vol_line
returns-then-state-eq-ABSENT-clause-text c =
    rw (eq-eqb _ 0 c.if-state-eq-ABSENT.true) (written_none c.args.at c.args.out.now)

pub returns-clause-text : goal.returns-clause-text
unfolding vol_line pair labelled
returns-clause-text c =
    rw (ne_eqb _ 0 c.if-state-eq-ABSENT.false) (both_written c.pair-a.ensures.text c.append.ensures)
