-- `listing_text::lines::refused_line` meets its contract. Assumes nothing.
use Rattle.listing_text.proofs.Laws.{both_written}
use Rattle.listing_text.specs.Text.{refused_text, pair, labelled}
use Rattle.listing_text.proofs.lines.refused_line.Goals as goal

pub returns : goal.returns
unfolding refused_text pair labelled
returns c =
    both_written c.pair-a.ensures.text c.append.ensures
