-- `builder::build_with` meets its contract. Assumes nothing.
use mathlib.Core.Path.{sym, ap, ◌∙◌}
use native.Mathlib.Omega.{arith}
use lib.ListN.{length}
use Rattle.base.specs.Lists.{Bytes}
use Rattle.geometry.specs.Image.{peb_count_of}
use Rattle.volume_table.proofs.Tables.{count_small}
use Rattle.geometry.proofs.Laws.{image_whole, image_few}
use Rattle.builder_rules.proofs.Planned.{fields_few, table_long}
use Rattle.builder.proofs.Laws.{by_refusal_lem, by_plan, refused_21, planned, lengths_many}
use Rattle.builder.proofs.Laws.{content_decides, pads, ready}
use Rattle.builder.proofs.build_with.Goals as goal

pub overflow_cast-n-2 : goal.overflow_cast-n-2
overflow_cast-n-2 c = omega (arith, image_few c.args.g c.args.image.now c.requires.1.0)

pub content_fits-requires : goal.content_fits-requires
content_fits-requires c =
    let a = c.args in
    let bytes : Bytes a.slip.now = λ k. omega (arith, c.type_inv.slip k) in
    let good = sym c.volumes_good.ensures.good ∙ c.if-not-volumes_good.false in
    let table = c.volumes_good.ensures.table c.if-not-volumes_good.false in
    let n = peb_count_of a.g a.image.now in
    let few = fields_few a.g n a.slip.now c.requires.0.0 bytes good in
    let long = table_long a.g n a.slip.now c.requires.0.0 bytes good in (
      omega (arith, few, count_small a.g.leb_size),
      (
        omega (arith, few, long, ap length table),
        pads a.slip.now a.image_seq a.lengths.now a.content.now a.image.now a.g c.requires.1.0 good c.requires.0.1 table
            c.requires.0.0 bytes,
      ),
    )

pub returns-then-not-content_fits : goal.returns-then-not-content_fits
returns-then-not-content_fits c =
    let a = c.args in
    let good = sym c.volumes_good.ensures.good ∙ c.if-not-volumes_good.false in
    let table = c.volumes_good.ensures.table c.if-not-volumes_good.false in
    let fits = sym (content_decides a.slip.now a.image_seq a.lengths.now a.content.now a.image.now a.g
    c.requires.1.0 good
    c.requires.0.1 table c.content_fits.ensures) ∙ c.if-not-content_fits.true in
    let q = by_refusal_lem a.image.now (refused_21 a.slip.now a.image_seq a.lengths.now a.content.now a.image.now a.g
    c.requires.1.0 good fits) (rw c.unplaced-then-not-content_fits.ensures) in
    record { answer = q.0; image = q.1 }

pub fill_image-requires : goal.fill_image-requires
fill_image-requires c =
    let a = c.args in
    let bytes : Bytes a.slip.now = λ k. omega (arith, c.type_inv.slip k) in
    let contents : Bytes a.content.now = λ k. omega (arith, c.type_inv.content k) in
    let good = sym c.volumes_good.ensures.good ∙ c.if-not-volumes_good.false in
    let table = c.volumes_good.ensures.table c.if-not-volumes_good.false in
    let fits = sym (content_decides a.slip.now a.image_seq a.lengths.now a.content.now a.image.now a.g
    c.requires.1.0 good
    c.requires.0.1 table c.content_fits.ensures) ∙ c.if-not-content_fits.false in (
      ready a.slip.now a.image_seq a.lengths.now a.content.now a.image.now a.g c.requires.1.0 good c.requires.0.1 table
          c.requires.0.0 bytes (omega arith) contents fits,
      image_whole a.g a.image.now c.requires.1.0,
    )

pub returns : goal.returns
returns c =
    let a = c.args in
    let good = sym c.volumes_good.ensures.good ∙ c.if-not-volumes_good.false in
    let table = c.volumes_good.ensures.table c.if-not-volumes_good.false in
    let fits = sym (content_decides a.slip.now a.image_seq a.lengths.now a.content.now a.image.now a.g
    c.requires.1.0 good
    c.requires.0.1 table c.content_fits.ensures) ∙ c.if-not-content_fits.false in
    let many = lengths_many a.slip.now a.image_seq a.lengths.now a.content.now a.image.now
    a.g c.requires.1.0 good fits in
    let q = by_plan a.image.now (planned a.slip.now a.image_seq a.lengths.now a.content.now a.image.now a.g
    c.requires.1.0
    good fits) (rw (many, table) at c.fill_image.ensures) in
    record { answer = q.0; image = q.1 }
