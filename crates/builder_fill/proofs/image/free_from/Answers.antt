-- `builder_fill::image::free_from` meets its contract: the PEBs before p are stored. Assumes nothing.
use mathlib.Core.Path.{◌≡◌, refl, sym, ap, ◌∙◌}
use mathlib.Core.List.{List}
use Prim.Native.Nat.{ℕ, ◌+◌, ◌-◌, ◌*◌, ◌<◌}
use native.Mathlib.Nat.{mul-le-mul_right}
use native.Mathlib.Omega.{arith}
use Rattle.base.proofs.Rows.{rows_next}
use Rattle.base.proofs.Stores.{put_none}
use Rattle.builder_rules.specs.Blocks.{built_ec, free_peb}
use Rattle.builder_rules.proofs.Pebs.{free_length}
use Rattle.builder_fill.proofs.image.free_from.Goals as goal

pub loop-p-init : goal.loop-p-init
loop-p-init c =
    let a = c.args in
    let g = a.f.now.geometry in
    let e : a.first - a.first ≡ 0 = omega arith in
    rw e (sym (put_none (a.first * g.peb_size) a.image.now))

pub loop-p-preserved : goal.loop-p-preserved
loop-p-preserved c =
    let a = c.args in
    let g = a.f.now.geometry in
    let l = c.loop-p in
    let k = l.p - a.first in
    let h : l.p < a.n = omega arith in
    let e : a.first + k ≡ l.p = omega arith in
    let q : l.p + 1 - a.first ≡ k + 1 = omega arith in
    let ec = built_ec g a.f.now.image_seq in
    let f : ℕ → List ℕ = λ (_ : ℕ). free_peb g ec in
    rw q
    (rows_next a.first k g.peb_size f a.image.now (λ _. free_length g a.f.now.placed ec)
    (rw e (omega (arith, mul-le-mul_right g.peb_size h, c.requires.1.1))) l.invariant refl
    (c.peb_start.ensures ∙ ap (λ (m : ℕ). m * g.peb_size) (omega arith)) c.store_free.ensures)
