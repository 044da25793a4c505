-- `listing_text::lines::attached_line` meets its contract. Assumes nothing.
use Rattle.listing_text.proofs.Laws.{both_written}
use Rattle.listing_text.proofs.lines.attached_line.Goals as goal

pub returns-clause-text : goal.returns-clause-text
returns-clause-text c =
    both_written c.numbers_part-a.ensures.text c.marks_part.ensures.text
