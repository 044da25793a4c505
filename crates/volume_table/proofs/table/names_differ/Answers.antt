-- `volume_table::table::names_differ` meets its contract: none of the first j records repeats a name. Assumes nothing.
use mathlib.Core.Path.{◌≡◌, sym, ◌∙◌}
use Prim.Native.Nat.{ℕ}
use native.Mathlib.Omega.{arith}
use Rattle.base.specs.Below.{any_below}
use Rattle.base.proofs.Below.{any_intro, any_more}
use Rattle.volume_table.proofs.Tables.{repeats}
use Rattle.volume_table.proofs.table.names_differ.Goals as goal

pub returns-then-name_repeats : goal.returns-then-name_repeats
returns-then-name_repeats c =
    let t = c.args.t.now in
    rw (any_intro c.args.n (λ (k : ℕ). any_below k (repeats t k)) c.loop-j.j
    (omega arith) (sym c.name_repeats.ensures ∙ c.if-name_repeats.true))

pub loop-j-preserved : goal.loop-j-preserved
loop-j-preserved c =
    let t = c.args.t.now in
    any_more (λ (k : ℕ). any_below k (repeats t k)) c.loop-j.j c.loop-j.invariant
    (sym c.name_repeats.ensures ∙ c.if-name_repeats.false)

pub returns : goal.returns
returns c = let e : c.loop-j.j ≡ c.args.n = omega arith in rw (rw e at c.loop-j.invariant)
