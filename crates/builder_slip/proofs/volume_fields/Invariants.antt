-- `builder_slip::volume_fields` meets its contract: all fields before the one at `at` are volume fields. Assumes
-- nothing.
use mathlib.Core.Path.{◌≡◌}
use mathlib.Core.Option.{none}
use Prim.Native.Nat.{◌+◌, ◌-◌, ◌≤◌}
use lib.ListN.{length}
use Rattle.base.specs.Below.{first_below}
use Rattle.builder_rules.specs.Slip.{field_start}
use Rattle.builder_slip.proofs.Laws.{other}
use Rattle.builder_slip.proofs.volume_fields.Given as goal

abbrev pub invariant-loop-end : goal.invariant-loop-end
invariant-loop-end l = record {
  starts : l.at ≡ field_start l.slip l.count;
  within : l.at ≤ length l.slip;
  apart : 17 + l.count ≤ l.at;
  volumes : first_below l.count (other l.slip) ≡ none;
}

abbrev pub decreases-loop-end : goal.decreases-loop-end
decreases-loop-end l = length l.slip - l.at
