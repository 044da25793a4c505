-- `volumes::state::fill_states` meets its contract: the states of the volumes passed are stored. Assumes nothing.
use mathlib.Core.Path.{◌≡◌}
use native.Mathlib.Omega.{arith}
use Rattle.base.proofs.Lists.{fill_more}
use Rattle.report.specs.View.{medium_of}
use Rattle.report.specs.Report.{state_at}
use Rattle.report.specs.Attach.{state_words}
use Rattle.volumes.proofs.state.fill_states.Goals as goal

pub loop-volume-preserved : goal.loop-volume-preserved
loop-volume-preserved c =
    let a = c.args in
    let f = fill_more (state_at (medium_of a.g a.n a.image.now)) c.loop-volume.volume a.states.now
    (omega arith) in
    rw (c.loop-volume.invariant, c.volume_state.ensures) f

pub returns : goal.returns
unfolding state_words
returns c =
    let e : c.loop-volume.volume ≡ 128 = omega arith in rw e at c.loop-volume.invariant
