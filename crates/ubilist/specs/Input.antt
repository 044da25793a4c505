-- What the contracts of `input` cite. Assumes nothing.
use Rattle.std.specs.Prelude.{ℕ, ◌≤◌, Option, Some, None}
use Rattle.transfer.specs.declared.Transfer.{Transfer}
use Rattle.transfer.specs.declared.Transfer.TheVariants as row
use Rattle.ubilist.specs.declared.input.Input.{Input}
use Rattle.ubilist.specs.declared.input.Input.TheVariants.{Whole, More}

-- a row of calls with room for one byte more than is held: full, there is more; ended, that is all; anything else is
-- no input
abbrev pub input_of : Transfer → Option Input
input_of (row.On p) = None
input_of row.Full = Some More
input_of (row.Ended n) = Some (Whole n)
input_of row.Failed = None

-- no more bytes than are held
abbrev pub within : Input → ℕ → Type 0
within (Whole n) most = n ≤ most
within More most = Unit {0}
