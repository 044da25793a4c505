-- `listing_text::lines::vol_lines` meets its contract. Assumes nothing.
use Prim.Native.Nat.{◌≤◌, ◌+◌, ◌*◌}
use Rattle.listing_text.specs.Written.{Written}
use Rattle.listing_text.specs.Text.{vol_lines}
use Rattle.listing_text.proofs.lines.vol_lines.Given as goal

abbrev pub invariant-loop-v : goal.invariant-loop-v
invariant-loop-v l = (Written l.initial.out l.at (vol_lines l.v l.states) l.end l.out) × (l.end ≤ l.at + l.v * 128)
