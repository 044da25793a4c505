-- `choice::chain::has_lower_copy` meets its contract: no PEB from `above` on has the LEB. Assumes nothing.
use mathlib.Core.Path.{◌≡◌, sym, ◌∙◌}
use mathlib.Core.Bool.{false}
use Prim.Native.Nat.{ℕ}
use mathlib.Core.List.{List}
use native.Mathlib.Omega.{arith}
use Rattle.base.proofs.Below.{any_intro, none_intro}
use Rattle.choice.specs.Keyed.{same_leb}
use Rattle.choice.proofs.Chains.{along_next, walk_on, walk_end, other_leb}
use Rattle.choice.proofs.chain.has_lower_copy.Goals as goal

-- PEB k has another LEB than PEB i
abbrev Other : List ℕ → ℕ → ℕ → Type 0
Other map i k = same_leb map i k ≡ false

pub returns-then-same_leb : goal.returns-then-same_leb
returns-then-same_leb c =
    let a = c.args in
    let r = c.loop-j.invariant.0.range in
    let e = sym c.same_leb.ensures ∙ c.if-same_leb.true in
    sym (any_intro a.i (same_leb a.map.now a.i) c.loop-j.j (omega arith) e)

pub loop-j-preserved : goal.loop-j-preserved
loop-j-preserved c =
    let v = c.loop-j.invariant in (
      rw c.link-j-in-loop-j.ensures (along_next v.0 c.requires.1.1.0 (omega arith) (omega arith)),
      walk_on v.0 (Other c.args.map.now c.args.i) v.1 (λ x _ f. other_leb c.args.map.now c.args.i x f c.requires.1.1.1)
          (sym c.same_leb.ensures ∙ c.if-same_leb.false),
    )

pub returns : goal.returns
returns c =
    let v = c.loop-j.invariant in
    sym (none_intro c.args.i (same_leb c.args.map.now c.args.i)
    (walk_end v.0 (Other c.args.map.now c.args.i) v.1 (λ x _ f. other_leb c.args.map.now c.args.i x f c.requires.1.1.1)
    (omega arith)))
