-- `listing_text::write::labelled` meets its contract. Assumes nothing.
use Rattle.listing_text.proofs.Laws.{both_written}
use Rattle.listing_text.proofs.write.labelled.Goals as goal

pub returns-clause-text : goal.returns-clause-text
returns-clause-text c =
    both_written c.append-after.ensures c.number.ensures.text
