-- `listing_text::lines::marks_part` meets its contract. Assumes nothing.
use mathlib.Core.Path.{◌≡◌}
use mathlib.Core.Bool.{cond}
use borrow.Author.Rules.{rules}
use Rattle.listing_text.proofs.Laws.{both_written}
use Rattle.listing_text.specs.Text.{marks_part, pair, labelled}
use Rattle.listing_text.proofs.lines.marks_part.Goals as goal

pub returns-clause-text : goal.returns-clause-text
unfolding marks_part pair labelled
returns-clause-text c =
    let bit : c.from.result ≡ cond c.args.r.read_only 1 0 = search rules in
    rw (← bit) (both_written c.pair-a.ensures.text (both_written c.pair-b.ensures.text c.append.ensures))
