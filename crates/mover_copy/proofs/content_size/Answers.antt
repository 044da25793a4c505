-- `mover_copy::content_size` meets its contract. Assumes nothing.
use mathlib.Core.Path.{refl}
use Rattle.mover_copy.proofs.Data.{rounded, rounded_within}
use Rattle.mover_copy.proofs.content_size.Goals as goal

pub returns : goal.returns
returns c =
    let a = c.args in
    let end = c.data_end-end.ensures in
    (rounded a.g a.p.now a.pad refl end.0, rounded_within a.g a.p.now a.pad refl c.requires.0 end.1)
