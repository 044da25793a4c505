-- `volumes::entries::first_of` meets its contract: no entry passed is one of the volume. Assumes nothing.
use mathlib.Core.Path.{◌≡◌, sym, ◌∙◌}
use mathlib.Core.Bool.{false}
use Prim.Native.Nat.{ℕ}
use native.Mathlib.Omega.{arith}
use borrow.Author.Tests.{eq-eqb, ne_eqb}
use Rattle.base.proofs.Below.{one_more}
use Rattle.volumes.specs.Sorted.{is_of}
use Rattle.volumes.proofs.entries.first_of.Goals as goal

pub returns-then-volume_word-volume : goal.returns-then-volume_word-volume
returns-then-volume_word-volume c =
    (omega arith, eq-eqb _ _ (sym c.volume_word.ensures ∙ c.if-volume_word-volume.true), c.loop-k.invariant)

pub loop-k-preserved : goal.loop-k-preserved
loop-k-preserved c =
    let a = c.args in
    one_more (λ (j : ℕ). is_of a.map.now a.volume j ≡ false) c.loop-k.k c.loop-k.invariant
    (ne_eqb _ _ (λ e. c.if-volume_word-volume.false (c.volume_word.ensures ∙ e)))

pub returns : goal.returns
returns c = λ j h. c.loop-k.invariant j (omega arith)
