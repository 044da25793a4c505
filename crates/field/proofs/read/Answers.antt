-- `field::read` meets its contract: v is the number of the bytes so far. Assumes nothing.
use mathlib.Core.Path.{◌≡◌, refl, ◌∙◌}
use native.Mathlib.Omega.{arith}
use Rattle.base.specs.Lists.{part}
use Rattle.field.specs.Be.{be_from, be_of}
use Rattle.field.proofs.Laws.{be_of_next, next_fits, all_read, field_lt}
use Rattle.field.proofs.read.Goals as goal

pub loop-b-init : goal.loop-b-init
unfolding be_from
loop-b-init c = refl

pub overflow_mul-v : goal.overflow_mul-v
overflow_mul-v c =
    let a = c.args in
    omega (
      arith,
      next_fits a.at a.width a.s.now (omega arith) c.loop-b.b-index (λ k. (c.type_inv.s k).fits) (omega arith)
          c.loop-b-test.true,
    )

pub overflow_add-v : goal.overflow_add-v
overflow_add-v c =
    let a = c.args in
    omega (
      arith,
      next_fits a.at a.width a.s.now (omega arith) c.loop-b.b-index (λ k. (c.type_inv.s k).fits) (omega arith)
          c.loop-b-test.true,
    )

pub loop-b-preserved : goal.loop-b-preserved
loop-b-preserved c = cc (be_of_next _ c.loop-b.b-index c.loop-b-test.true)

pub returns : goal.returns
returns c =
    let a = c.args in
    let v : c.loop-b.v ≡ be_of (part a.at a.width a.s.now) =
    c.loop-b.invariant ∙ all_read a.at a.width a.s.now (omega arith) c.loop-b.b-index (omega arith) in
    (v, rw v (field_lt a.at a.width a.s.now (omega arith) (λ k. (c.type_inv.s k).fits)))
