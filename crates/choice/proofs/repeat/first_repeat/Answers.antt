-- `choice::repeat::first_repeat` meets its contract: the PEBs passed repeat no lower one. Assumes nothing.
use mathlib.Core.Path.{◌≡◌}
use Prim.Native.Nat.{ℕ}
use native.Mathlib.Omega.{arith}
use mathlib.Core.Bool.{false}
use mathlib.Core.List.{List}
use Rattle.geometry.specs.declared.Geometry.{Geometry}
use Rattle.report.specs.View.{views_of, copies}
use Rattle.report.specs.Choice.{repeats}
use Rattle.base.proofs.Below.{one_more}
use Rattle.choice.proofs.Words.{repeats_told}
use Rattle.choice.proofs.Chains.{along_next, walk_on, walk_end, other_copy}
use Rattle.choice.proofs.Repeats.{Fresh, no_repeat, a_repeat}
use Rattle.choice.proofs.repeat.first_repeat.Goals as goal

-- PEB i does not repeat PEB m
abbrev Apart : Geometry → List ℕ → ℕ → ℕ → Type 0
Apart g image i m = repeats (copies (views_of g image) i) (copies (views_of g image) m) ≡ false

pub loop-j-preserved : goal.loop-j-preserved
loop-j-preserved c =
    let i = c.pebs.i in
    let v = c.loop-j.invariant in
    let r = v.1.range in
    let e = repeats_told c.requires.0 i c.loop-j.j (omega arith) (omega arith) c.is_repeat.ensures
    c.if-is_repeat.false in (
      v.0,
      rw c.link-j-in-loop-j.ensures (along_next v.1 c.requires.1 (omega arith) (omega arith)),
      walk_on v.1 (Apart c.args.g c.args.image.now i) v.2
          (λ x k f. other_copy c.args.map.now i x f c.requires.0 (omega arith) (omega arith)) e,
    )

pub pebs-preserved : goal.pebs-preserved
pebs-preserved c =
    let p = c.pebs in
    let v = c.loop-j.invariant in (
      v.0,
      one_more (Fresh (copies (views_of c.args.g c.args.image.now))) p.i p.invariant.1
          (walk_end v.1 (Apart c.args.g c.args.image.now p.i) v.2
          (λ x k f. other_copy c.args.map.now p.i x f c.requires.0 (omega arith) (omega arith)) (omega arith)),
    )

pub returns-after-pebs : goal.returns-after-pebs
returns-after-pebs c =
    let a = c.args in
    let e : c.pebs.i ≡ a.n = omega arith in
    rw c.pebs.invariant.0 (no_repeat a.n (copies (views_of a.g a.image.now)) (rw e at c.pebs.invariant.1), tt)

pub returns-then-is_repeat : goal.returns-then-is_repeat
returns-then-is_repeat c =
    let p = c.pebs in
    let r = c.loop-j.invariant.1.range in
    let e = repeats_told c.requires.0 p.i c.loop-j.j (omega arith) (omega arith) c.is_repeat.ensures
    c.if-is_repeat.true in (
      a_repeat c.args.n (copies (views_of c.args.g c.args.image.now)) (omega arith) (omega arith)
          p.invariant.1 e,
      omega arith,
    )
