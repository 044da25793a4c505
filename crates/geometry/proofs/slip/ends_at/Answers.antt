-- `geometry::slip::ends_at` meets its contract. Assumes nothing.
use mathlib.Core.Path.{◌∙◌}
use native.Mathlib.Omega.{arith}
use lib.ListN.{drop_of_length-le}
use Rattle.base.specs.Lists.{eqs}
use Rattle.base.proofs.Lists.{to_end_lem}
use Rattle.field.specs.Be.{to_be_on}
use Rattle.geometry.specs.Slip.{ends_at}
use Rattle.geometry.proofs.slip.ends_at.Goals as goal

pub returns-then-slip-at : goal.returns-then-slip-at
unfolding ends_at eqs to_be_on
returns-then-slip-at c =
    let a = c.args in
    rw (drop_of_length-le a.slip.now {i = a.at} (omega arith))

pub returns : goal.returns
unfolding ends_at to_be_on
returns c =
    let a = c.args in
    c.same.ensures ∙ rw to_end_lem
