-- `mover_copy::data_end` meets its contract. Assumes nothing.
use Rattle.std.proofs.Common.{◌≡◌, rules, arith}
use Rattle.mover_rules.specs.Headers.{data_end}
use Rattle.mover_rules.proofs.Data.{end_within}
use Rattle.mover_copy.proofs.Data.{IsLast, end_found}
use Rattle.mover_copy.proofs.data_end.Goals as goal

pub returns : goal.returns
returns c =
    let s = c.args.s.now in
    let last : IsLast s c.rposition.result = search rules in
    let e : c.map_or.result ≡ data_end s = search (rules, end_found s c.rposition.result last) in
    let w = end_within s in
    (e, omega arith)
