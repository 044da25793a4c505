-- `listing_text::lines::peb_lines` meets its contract. Assumes nothing.
use Prim.Native.Nat.{◌≤◌, ◌+◌, ◌*◌}
use Rattle.listing_text.specs.Written.{Written}
use Rattle.listing_text.specs.Text.{peb_lines}
use Rattle.listing_text.proofs.lines.peb_lines.Given as goal

abbrev pub invariant-loop-i : goal.invariant-loop-i
invariant-loop-i l = (Written l.initial.out l.at (peb_lines l.i l.pebs) l.end l.out) × (l.end ≤ l.at + l.i * 128)
