-- `listing_text::lines::numbers_part` meets its contract. Assumes nothing.
use Rattle.listing_text.proofs.Laws.{both_written}
use Rattle.listing_text.specs.Text.{numbers_part, pair, labelled}
use Rattle.listing_text.proofs.lines.numbers_part.Goals as goal

pub returns-clause-text : goal.returns-clause-text
unfolding numbers_part pair labelled
returns-clause-text c =
    both_written c.pair-a.ensures.text c.pair.ensures.text
