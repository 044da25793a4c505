-- `mover_copy::new_size` meets its contract. Assumes nothing.
use Rattle.mover_copy.proofs.Data.{static_size, dynamic_size}
use Rattle.mover_copy.proofs.new_size.Goals as goal

pub returns-then-h-eq-STATIC : goal.returns-then-h-eq-STATIC
returns-then-h-eq-STATIC c =
    static_size c.requires c.if-h-eq-STATIC.true

pub returns : goal.returns
returns c =
    dynamic_size c.requires c.if-h-eq-STATIC.false c.content_size.ensures.0 c.content_size.ensures.1
