-- `builder_fill::image::fill_volumes` meets its contract: the volumes before the v-th are stored. Assumes nothing.
use mathlib.Core.Path.{◌≡◌, refl, ap}
use Prim.Native.Nat.{ℕ, ◌+◌, ◌*◌, ◌≤◌}
use native.Mathlib.Nat.{div-add-mod'}
use native.Mathlib.Numerals.{add-one}
use native.Mathlib.Omega.{arith}
use lib.ListN.{length}
use Rattle.geometry.specs.Image.{peb_count_of}
use Rattle.builder_rules.specs.Blocks.{BuildPlan, lebs_of, length_of, volume_of, shape_of}
use Rattle.builder_rules.specs.Filling.{plan_from}
use Rattle.builder_rules.proofs.Accepted.{volumes_few, pad_small, content_within}
use Rattle.builder_fill.proofs.Filled.{lent_content, last_within, volume_ready, volume_filled}
use Rattle.builder_fill.proofs.image.fill_volumes.Goals as goal

pub overflow_cast-v : goal.overflow_cast-v
overflow_cast-v c = omega (arith, volumes_few _ _ c.requires.0)

pub shape_of-shape-requires-in-loop-v : goal.shape_of-shape-requires-in-loop-v
unfolding volume_of
shape_of-shape-requires-in-loop-v c =
    let h = c.requires.0 in (
      omega (arith, volumes_few _ _ h),
      (omega (arith, h.table_length, h.volumes_most), omega (arith, pad_small _ _ h c.loop-v.v (omega arith))),
    )

pub overflow_add-end : goal.overflow_add-end
overflow_add-end c = omega (arith, content_within _ _ c.requires.0 c.loop-v.v (omega arith))

pub slice_bounds-fill_volume-end : goal.slice_bounds-fill_volume-end
slice_bounds-fill_volume-end c = omega (arith, content_within _ _ c.requires.0 c.loop-v.v (omega arith))

pub fill_volume-requires : goal.fill_volume-requires
unfolding volume_of lebs_of
fill_volume-requires c =
    let a = c.args in
    let f = a.f.now in
    let g = f.geometry in
    let l = c.loop-v in
    let plan : BuildPlan = plan_from g f.image_seq (length a.lengths.now) a.table.now a.lengths.now a.content.now in
    let n : ℕ = peb_count_of g a.image.now in
    let h = c.requires.0 in
    let content = lent_content plan n h l.v (omega arith) l.from
    (l.from + length_of plan l.v) l.invariant.starts refl in
    let shape : c.shape_of-shape.result ≡ shape_of plan l.v = c.shape_of-shape.ensures in
    let whole : n * g.peb_size ≤ length a.image.now = omega (arith, div-add-mod' (length a.image.now) g.peb_size) in
    rw (shape, content, l.invariant.next) (volume_ready plan n h l.v (omega arith) l.image (omega (arith, whole)))

pub overflow_add-p : goal.overflow_add-p
unfolding volume_of lebs_of
overflow_add-p c =
    let a = c.args in
    let f = a.f.now in
    let g = f.geometry in
    let plan : BuildPlan = plan_from g f.image_seq (length a.lengths.now) a.table.now a.lengths.now a.content.now in
    let shape : c.shape_of-shape.result ≡ shape_of plan c.loop-v.v = c.shape_of-shape.ensures in
    let last = last_within plan (peb_count_of g a.image.now) c.requires.0 c.loop-v.v (omega arith) in
    omega (arith, ap (λ x. x.lebs) shape, last)

pub loop-v-preserved : goal.loop-v-preserved
unfolding volume_of lebs_of
loop-v-preserved c =
    let a = c.args in
    let f = a.f.now in
    let g = f.geometry in
    let l = c.loop-v in
    let plan : BuildPlan = plan_from g f.image_seq (length a.lengths.now) a.table.now a.lengths.now a.content.now in
    let n : ℕ = peb_count_of g a.image.now in
    let h = c.requires.0 in
    let content = lent_content plan n h l.v (omega arith) l.from
    (l.from + length_of plan l.v) l.invariant.starts refl in
    let shape : c.shape_of-shape.result ≡ shape_of plan l.v = c.shape_of-shape.ensures in
    let whole : n * g.peb_size ≤ length a.image.now = omega (arith, div-add-mod' (length a.image.now) g.peb_size) in
    let m = ap (λ x. x.lebs) shape in
    record {
      next = rw add-one (omega arith);
      starts = rw add-one (omega arith);
      filled = volume_filled plan n h l.v (omega arith) l.image (omega (arith, whole)) l.invariant.next shape content
          l.invariant.filled c.fill_volume.ensures;
    }
