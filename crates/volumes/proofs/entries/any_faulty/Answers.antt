-- `volumes::entries::any_faulty` meets its contract. Assumes nothing.
use mathlib.Core.Path.{◌≡◌, refl}
use mathlib.Core.Bool.{Bool, true, false}
use Prim.Native.Nat.{ℕ}
use native.Mathlib.Omega.{arith}
use borrow.Author.Rules.{rules}
use Rattle.std.proofs.lemmas.Iterator.{cases_from_any, YieldsList-from_range}
use Rattle.volumes.specs.Sorted.{fault_at}
use Rattle.volumes.proofs.Finds.{any_is}
use Rattle.volumes.proofs.entries.any_faulty.Goals as goal

pub returns : goal.returns
returns c =
    let a = c.args in
    let p : ℕ → Bool = fault_at a.g a.image.now a.map.now a.volume a.asks in
    any_is a.count p c.any.result
    (cases_from_any _ _ c.any.result (λ k. p k ≡ true) (λ k. p k ≡ false) c.any.ensures.ran
    (YieldsList-from_range 0 a.count a.count refl (omega arith))
    (λ x q k. search rules) (λ x q k. search rules))
