-- `volumes::misfit::first_misfit` meets its contract: refusal 12 names no entry of the volumes passed. Assumes nothing.
use mathlib.Core.Path.{◌≡◌}
use native.Mathlib.Omega.{arith}
use Rattle.volumes.proofs.Misfits.{refused_here, not_refused}
use Rattle.volumes.proofs.misfit.first_misfit.Goals as goal

pub returns-in-Some : goal.returns-in-Some
returns-in-Some c =
    let m = c.in-Some.ensures in
    (refused_here c.requires (omega arith) m c.loop-volume.invariant, m.0)

pub returns : goal.returns
returns c =
    let l = c.loop-volume in
    let e : l.volume ≡ 128 = omega arith in
    (not_refused c.requires (rw e at l.invariant), tt)
