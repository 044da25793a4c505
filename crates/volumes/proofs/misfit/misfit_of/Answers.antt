-- `volumes::misfit::misfit_of` meets its contract. Assumes nothing.
use Rattle.volumes.proofs.Words.{table_long, entries_there}
use Rattle.volumes.proofs.Misfits.{no_record, misfit_told}
use Rattle.volumes.proofs.misfit.misfit_of.Goals as goal

pub record_numbers-requires : goal.record_numbers-requires
record_numbers-requires c =
    let p = c.requires in (table_long p.0, p.1)

pub returns-in_err-r : goal.returns-in_err-r
returns-in_err-r c =
    rw c.from_residual.ensures (no_record c.requires.0 c.args.volume c.in_err-r.ensures)

pub misfit_in-requires : goal.misfit_in-requires
misfit_in-requires c =
    entries_there c.requires.0

pub returns : goal.returns
returns c =
    let p = c.requires in
    misfit_told p.0 p.1 c.in_ok-r.ensures.0 c.misfit_in.result c.misfit_in.ensures
