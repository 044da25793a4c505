-- `listing_text::write::number` meets its contract. Assumes nothing.
use native.Mathlib.Omega.{arith}
use Rattle.listing_text.proofs.Laws.{number_written, decimal_short, twenty_digits}
use Rattle.listing_text.proofs.write.number.Goals as goal

pub returns : goal.returns
returns c =
    let d = c.decimal-count in
    let n = c.args.n in
    let few = twenty_digits n d.result (omega arith) d.ensures.len in
    let w = number_written d.new.out few d.ensures.len d.ensures.digits c.append.ensures in
    record { text = w; end = omega (arith, w.after, decimal_short n) }
