-- `peb_scan::headers::all_ff` meets its contract. Assumes nothing.
use mathlib.Core.Path.{◌∙◌}
use lib.Dec.{eqb}
use Rattle.std.proofs.Common.{rules, tests}
use Rattle.std.proofs.lemmas.Iterator.{YieldsList-from_slice}
use Rattle.std.proofs.lemmas.Iterator.Search.{all_from_yields_List}
use Rattle.peb_scan.proofs.Laws.{ff_is}
use Rattle.peb_scan.proofs.headers.all_ff.Goals as goal

pub returns : goal.returns
returns c =
    let s = c.args.s.now in
    all_from_yields_List (λ b. eqb b 0xFF) _ _ _ c.all.ensures.ran (YieldsList-from_slice s cc)
    (λ x b q k. search (rules, tests))
    ∙ ff_is s
