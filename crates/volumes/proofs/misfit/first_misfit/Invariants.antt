-- `volumes::misfit::first_misfit` meets its contract: refusal 12 names no entry of the volumes passed. Assumes nothing.
use mathlib.Core.Path.{◌≡◌}
use mathlib.Core.Option.{none}
use Prim.Native.Nat.{◌<◌, ℕ}
use Rattle.report.specs.View.{medium_of}
use Rattle.report.specs.Volumes.{misfit_in}
use Rattle.report.specs.Report.{faces, records}
use Rattle.volumes.proofs.misfit.first_misfit.Given as goal

abbrev pub invariant-loop-volume : goal.invariant-loop-volume
invariant-loop-volume l =
    (w : ℕ) → w < l.volume
    → misfit_in (records (medium_of l.g l.n l.image)) (faces (medium_of l.g l.n l.image)) w ≡ none
