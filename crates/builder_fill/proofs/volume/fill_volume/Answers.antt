-- `builder_fill::volume::fill_volume` meets its contract: the LEBs before the l-th are stored. Assumes nothing.
use Prim.Native.Nat.{◌+◌, ◌<◌}
use native.Mathlib.Nat.{mul-le-mul_right}
use native.Mathlib.Omega.{arith}
use Rattle.base.proofs.Rows.{rows_next}
use Rattle.builder_rules.specs.Blocks.{built_ec}
use Rattle.builder_fill.specs.Pebs.{leb_peb}
use Rattle.builder_fill.proofs.Lebs.{lent_bytes, bytes_small, peb_length, header_good, peb_is}
use Rattle.builder_fill.proofs.volume.fill_volume.Goals as goal

pub store_used-requires : goal.store_used-requires
store_used-requires c =
    let a = c.args in
    let g = a.f.now.geometry in
    let l = c.loop-l.l in
    let content = a.content.now in
    let r = c.requires in
    let ec = built_ec g a.f.now.image_seq in
    let h : a.first + l < a.first + a.v.lebs = omega arith in
    let bytes = lent_bytes g a.v content l c.min.ensures in
    let good = header_good g a.v content a.f.now.placed ec a.first l bytes c.leb_header-vid.ensures
    (r.shaped l c.loop-l-test.true) in (
      (omega (arith, mul-le-mul_right g.peb_size h, r.there), rw bytes (bytes_small g a.v content l)),
      good,
    )

pub loop-l-preserved : goal.loop-l-preserved
loop-l-preserved c =
    let a = c.args in
    let g = a.f.now.geometry in
    let l = c.loop-l.l in
    let content = a.content.now in
    let r = c.requires in
    let ec = built_ec g a.f.now.image_seq in
    let h : a.first + l < a.first + a.v.lebs = omega arith in
    let bytes = lent_bytes g a.v content l c.min.ensures in
    rows_next a.first l g.peb_size (leb_peb g ec a.v content a.first) a.image.now
    (peb_length g a.v content a.f.now.placed ec a.first) (omega (arith, mul-le-mul_right g.peb_size h, r.there))
    c.loop-l.invariant (peb_is g a.v content a.f.now.placed ec a.first l bytes c.leb_header-vid.ensures)
    c.peb_start.ensures c.store_used.ensures
