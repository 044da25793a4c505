-- `header::fields::field_of` meets its contract: the constant is the table, and every field fits. Assumes nothing.
use mathlib.Core.Path.{refl}
use Rattle.header.proofs.Laws.{fits}
use Rattle.header.proofs.fields.field_of.Goals as goal

pub returns : goal.returns
returns c =
    (refl, fits c.args.i)
