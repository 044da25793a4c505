-- `listing_text::write::pair` meets its contract. Assumes nothing.
use Rattle.listing_text.proofs.Laws.{both_written}
use Rattle.listing_text.proofs.write.pair.Goals as goal

pub returns-clause-text : goal.returns-clause-text
returns-clause-text c =
    both_written c.labelled-after.ensures.text c.labelled.ensures.text
