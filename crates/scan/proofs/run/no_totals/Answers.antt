-- `scan::run::no_totals` meets its contract. Assumes nothing.
use mathlib.Core.Path.{refl}
use Rattle.scan.proofs.Passes.{totals_none}
use Rattle.scan.proofs.run.no_totals.Goals as goal

pub returns : goal.returns
returns c =
    λ vs. totals_none vs _ refl refl refl refl refl refl
