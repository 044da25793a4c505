-- `mover_checks::block::any_to_delete` meets its contract. Assumes nothing.
use mathlib.Core.Path.{◌≡◌, refl}
use mathlib.Core.Bool.{Bool, true, false}
use Prim.Native.Nat.{ℕ}
use native.Mathlib.Omega.{arith}
use borrow.Author.Rules.{rules}
use Rattle.std.proofs.lemmas.Iterator.{cases_from_any, YieldsList-from_range}
use Rattle.report.specs.View.{views_of, copies}
use Rattle.report.specs.Report.{is_internal}
use Rattle.mover_checks.proofs.Words.{any_is}
use Rattle.mover_checks.proofs.block.any_to_delete.Goals as goal

pub returns : goal.returns
returns c =
    let a = c.args in
    let p : ℕ → Bool = λ i. is_internal 1 (copies (views_of a.g a.image.now) i) in
    any_is a.n p c.any.result
    (cases_from_any _ _ c.any.result (λ i. p i ≡ true) (λ i. p i ≡ false) c.any.ensures.ran
    (YieldsList-from_range 0 a.n a.n refl (omega arith))
    (λ x q k. search rules) (λ x q k. search rules))
