-- `listing_text::write::append` meets its contract. Assumes nothing.
use Rattle.listing_text.proofs.Laws.{stored_part, stored_nothing}
use Rattle.listing_text.proofs.write.append.Goals as goal
use Rattle.listing_text.proofs.write.append.Goals.{then-at-out, else-at-out}

pub returns : goal.returns
returns c =
    elim c.if-at-out.branch [
      | then-at-out w ↦ rw w.out-is (stored_part w.if-at-out.true (cc))
      | else-at-out w ↦ rw w.out-is (stored_nothing w.if-at-out.false)
    ]
