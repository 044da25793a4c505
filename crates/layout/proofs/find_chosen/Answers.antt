-- `layout::find_chosen` meets its contract. Assumes nothing.
use mathlib.Core.Path.{◌≡◌}
use mathlib.Core.Bool.{true, false}
use mathlib.Core.List.{List}
use Prim.Native.Nat.{ℕ, ◌≤◌, ◌<◌}
use native.Mathlib.Omega.{arith}
use Rattle.std.proofs.Common.{Option, Some, None, MatchOption, rules, tests}
use Rattle.std.proofs.lemmas.Iterator.{first_from_Range}
use Rattle.layout.specs.Layout.{is_chosen, Found}
use Rattle.layout.proofs.find_chosen.Goals as goal

-- what `find` over the PEBs says of its result
found_from : (pebs map : List ℕ) (n v l : ℕ) (r : Option ℕ)
    → MatchOption r ((k : ℕ) → 0 ≤ k → k < n → is_chosen pebs map v l k ≡ false)
    (λ i. (0 ≤ i) × (i < n) × (is_chosen pebs map v l i ≡ true)
    × ((k : ℕ) → 0 ≤ k → k < i → is_chosen pebs map v l k ≡ false))
    → Found pebs map n v l r
found_from pebs map n v l None h = λ j q. h j (omega arith) q
found_from pebs map n v l (Some i) h = record { range = h.1; none_before = λ j q. h.3 j (omega arith) q; is = h.2 }

pub returns : goal.returns
returns c =
    let a = c.args in
    let test = is_chosen a.pebs.now a.map.now a.volume a.lnum in
    found_from a.pebs.now a.map.now a.n a.volume a.lnum c.find.result
    (first_from_Range _ _ _ c.find.result (λ j. test j ≡ true) (λ j. test j ≡ false) c.find.ensures.ran
    (λ x q k. search (rules, tests)) (λ x q k. search (rules, tests)))
