-- `volume_record::record::name_ends` meets its contract. Assumes nothing.
use mathlib.Core.Path.{◌∙◌}
use mathlib.Core.Bool.{not}
use native.Mathlib.Omega.{arith}
use borrow.Author.Rules.{rules}
use lib.Dec.{eqb}
use lib.ListN.{take}
use Rattle.std.proofs.Common.{tests}
use Rattle.std.proofs.lemmas.Iterator.{YieldsList-from_slice}
use Rattle.std.proofs.lemmas.Iterator.Search.{all_from_yields_List}
use Rattle.volume_record.proofs.Records.{name_tested}
use Rattle.volume_record.proofs.record.name_ends.Goals as goal

pub returns-then-all : goal.returns-then-all
returns-then-all c =
    let a = c.args in
    rw c.if-all.true at (name_tested a.name a.n (omega arith)
    (all_from_yields_List (λ x. not (eqb x 0)) _ _ _ c.all.ensures.ran (YieldsList-from_slice (take a.n a.name) cc)
    (λ x b q k. search (rules, tests))))

pub returns-else-all : goal.returns-else-all
returns-else-all c =
    let a = c.args in
    c.if-all.false ∙ rw c.if-all.false at (name_tested a.name a.n (omega arith)
    (all_from_yields_List (λ x. not (eqb x 0)) _ _ _ c.all.ensures.ran (YieldsList-from_slice (take a.n a.name) cc)
    (λ x b q k. search (rules, tests))))
