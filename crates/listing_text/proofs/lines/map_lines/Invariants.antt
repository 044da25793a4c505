-- `listing_text::lines::map_lines` meets its contract. Assumes nothing.
use Prim.Native.Nat.{◌≤◌, ◌+◌, ◌*◌}
use Rattle.listing_text.specs.Written.{Written}
use Rattle.listing_text.specs.Text.{map_lines}
use Rattle.listing_text.proofs.lines.map_lines.Given as goal

abbrev pub invariant-loop-i : goal.invariant-loop-i
invariant-loop-i l = (Written l.initial.out l.at (map_lines l.i l.map) l.end l.out) × (l.end ≤ l.at + l.i * 128)
