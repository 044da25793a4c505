-- `builder_fill::image::fill_image` meets its contract. Assumes nothing.
use mathlib.Core.Path.{◌≡◌, ap, ◌∙◌}
use Prim.Native.Nat.{ℕ, ◌/◌}
use native.Mathlib.Nat.{mul-le-mul_right}
use native.Mathlib.Omega.{arith}
use borrow.Author.Rules.{rules}
use lib.ListN.{length}
use Rattle.builder_rules.proofs.Accepted.{table_fits, pebs_suffice}
use Rattle.builder_fill.proofs.Filled.{layout_filled, all_filled}
use Rattle.builder_fill.proofs.image.fill_image.Goals as goal

pub fill_layout-requires : goal.fill_layout-requires
fill_layout-requires c =
    let a = c.requires.0 in
    rw c.new-f.ensures.geometry
    (omega (arith, mul-le-mul_right c.args.g.peb_size a.pebs_least, c.requires.1), table_fits _ _ a)

pub fill_volumes-end-requires : goal.fill_volumes-end-requires
fill_volumes-end-requires c =
    let made = c.new-f.ensures in
    let e : length c.fill_layout.new.image ≡ length c.args.image.now = search rules in
    let n = ap (λ (m : ℕ). m / c.args.g.peb_size) e in
    let layout = rw (made.geometry, made.image_seq) at c.fill_layout.ensures in
    rw (made.geometry, made.image_seq)
    (rw n c.requires.0, layout_filled _ _ c.requires.0 c.args.image.now layout)

pub free_from-requires : goal.free_from-requires
free_from-requires c =
    let a = c.requires.0 in
    let made = c.new-f.ensures in
    let e : length c.fill_volumes-end.new.image ≡ length c.args.image.now = search rules in
    let n = ap (λ (m : ℕ). m / c.args.g.peb_size) e in
    let end = rw (made.geometry, made.image_seq) at c.fill_volumes-end.ensures.end in
    rw made.geometry
    (rw (n, end) (pebs_suffice _ _ a), (rw n a.pebs_most, rw n (omega (arith, e, c.requires.1))))

pub returns : goal.returns
returns c =
    let made = c.new-f.ensures in
    let e : length c.fill_volumes-end.new.image ≡ length c.args.image.now = search rules in
    let n = ap (λ (m : ℕ). m / c.args.g.peb_size) e in
    let end = rw (made.geometry, made.image_seq) at c.fill_volumes-end.ensures.end in
    let volumes = rw (made.geometry, made.image_seq) at c.fill_volumes-end.ensures.image in
    let free = rw (made.geometry, made.image_seq) at c.free_from.ensures in
    all_filled _ _ c.requires.0 c.fill_volumes-end.new.image (e ∙ c.requires.1) (rw end at volumes)
    (rw (n, end) at free)
