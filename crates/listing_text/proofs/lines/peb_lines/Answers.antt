-- `listing_text::lines::peb_lines` meets its contract. Assumes nothing.
use native.Mathlib.Omega.{arith}
use Rattle.listing_text.specs.Written.{peb_line_at}
use Rattle.listing_text.specs.Text.{peb_lines}
use Rattle.listing_text.proofs.Laws.{written_none, next_written}
use Rattle.listing_text.proofs.lines.peb_lines.Goals as goal

pub loop-i-init : goal.loop-i-init
unfolding peb_lines
loop-i-init c =
    (written_none c.args.at c.args.out.now, omega arith)

pub loop-i-preserved : goal.loop-i-preserved
unfolding peb_lines
loop-i-preserved c =
    let l = c.loop-i in
    let e = c.peb_line-end.ensures in
    (next_written (peb_line_at c.args.pebs.now) l.i l.invariant.0 e.text, omega arith)
