-- `listing_text::lines::vol_lines` meets its contract. Assumes nothing.
use native.Mathlib.Omega.{arith}
use Rattle.listing_text.specs.Written.{vol_line_at}
use Rattle.listing_text.specs.Text.{vol_lines}
use Rattle.listing_text.proofs.Laws.{written_none, next_written}
use Rattle.listing_text.proofs.lines.vol_lines.Goals as goal

pub loop-v-init : goal.loop-v-init
unfolding vol_lines
loop-v-init c =
    (written_none c.args.at c.args.out.now, omega arith)

pub loop-v-preserved : goal.loop-v-preserved
unfolding vol_lines
loop-v-preserved c =
    let l = c.loop-v in
    let e = c.vol_line-end.ensures in
    (next_written (vol_line_at c.args.states.now) l.v l.invariant.0 e.text, omega arith)
