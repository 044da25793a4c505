-- `listing_text::lines::map_line` meets its contract. Assumes nothing.
use Rattle.listing_text.proofs.Laws.{both_written}
use Rattle.listing_text.specs.Text.{map_line, pair, labelled}
use Rattle.listing_text.proofs.lines.map_line.Goals as goal

pub returns-clause-text : goal.returns-clause-text
unfolding map_line pair labelled
returns-clause-text c =
    both_written c.pair-a.ensures.text (both_written c.labelled-b.ensures.text c.append.ensures)
