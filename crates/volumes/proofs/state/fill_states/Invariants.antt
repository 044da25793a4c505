-- `volumes::state::fill_states` meets its contract: the states of the volumes passed are stored. Assumes nothing.
use mathlib.Core.Path.{◌≡◌}
use mathlib.Core.List.{◌++◌}
use lib.ListN.{drop}
use Rattle.base.specs.Lists.{table}
use Rattle.report.specs.View.{medium_of}
use Rattle.report.specs.Report.{state_at}
use Rattle.volumes.proofs.state.fill_states.Given as goal

abbrev pub invariant-loop-volume : goal.invariant-loop-volume
invariant-loop-volume l =
    l.states ≡ table (state_at (medium_of l.g l.n l.image)) 0 l.volume ++ drop l.volume l.initial.states
