-- `lookup::find_leb` meets its contract: no entry before k is the LEB's. Assumes nothing.
use mathlib.Core.Path.{sym, ◌∙◌}
use native.Mathlib.Omega.{arith}
use Rattle.lookup.proofs.Laws.{no_entry, first_entry}
use Rattle.lookup.proofs.find_leb.Goals as goal

pub returns-then-is_entry : goal.returns-then-is_entry
returns-then-is_entry c =
    let a = c.args in
    rw c.peb_word.ensures
    (first_entry a.map.now a.entries a.volume a.lnum (omega arith) c.loop-k.k
    (omega arith) c.loop-k.invariant (sym c.is_entry.ensures ∙ c.if-is_entry.true))

pub returns : goal.returns
returns c =
    let a = c.args in
    no_entry a.map.now a.entries a.volume a.lnum (omega arith) (λ i h. c.loop-k.invariant i (omega arith))
