-- `listing_text::text::render` meets its contract. Assumes nothing.
use native.Mathlib.Omega.{arith}
use Rattle.std.proofs.lemmas.Grind.{common_steps}
use Rattle.listing_text.proofs.Laws.{clip_over}
use Rattle.listing_text.specs.Render.{rendering, out_after, has_room}
use Rattle.listing_text.proofs.text.render.Goals as goal

pub returns-then-not-tables_hold : goal.returns-then-not-tables_hold
unfolding rendering out_after has_room
returns-then-not-tables_hold c = grind (arith, common_steps)

pub returns-then-out-len : goal.returns-then-out-len
unfolding rendering out_after has_room
returns-then-out-len c = grind (arith, common_steps)

pub returns : goal.returns
unfolding rendering out_after has_room
returns c = grind (arith, common_steps, clip_over)
