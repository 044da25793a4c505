-- `volumes::misfit::misfit_in` meets its contract. Assumes nothing.
use mathlib.Core.Path.{◌≡◌}
use mathlib.Core.Bool.{Bool, true, false}
use Prim.Native.Nat.{ℕ}
use borrow.Author.Rules.{rules}
use Rattle.std.specs.Prelude.{Some}
use Rattle.std.proofs.lemmas.Iterator.{first_from_Range}
use Rattle.volumes.specs.Sorted.{misfit_entry}
use Rattle.volumes.proofs.Finds.{first_from}
use Rattle.volumes.proofs.misfit.misfit_in.Goals as goal

pub returns : goal.returns
returns c =
    let a = c.args in
    let f = c.in_ok-first.first in
    let p : ℕ → Bool = misfit_entry a.g a.image.now a.map.now a.volume a.r f in
    record {
      first = Some f;
      is_first = c.in_ok-first.ensures;
      is = first_from f a.count p (λ j h. rw (c.in_ok-first.ensures.2 j h)) c.find.result
          (first_from_Range _ _ _ c.find.result (λ k. p k ≡ true) (λ k. p k ≡ false) c.find.ensures.ran
          (λ x q k. search rules) (λ x q k. search rules));
    }
