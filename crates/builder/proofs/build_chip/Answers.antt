-- `builder::build_chip` meets its contract. Assumes nothing.
use mathlib.Core.Path.{sym, ◌∙◌}
use native.Mathlib.Omega.{arith}
use lib.ListN.{length-take}
use Rattle.volume_table.proofs.Tables.{count_small}
use Rattle.builder.proofs.build_chip.Goals as goal

pub overflow_mul-len : goal.overflow_mul-len
overflow_mul-len c = omega (arith, count_small c.args.g.leb_size)

pub slice_bounds-build_with-end : goal.slice_bounds-build_with-end
slice_bounds-build_with-end c = omega (arith, count_small c.args.g.leb_size)

pub build_with-requires : goal.build_with-requires
build_with-requires c = (
  c.requires.0,
  (sym c.image_fits.ensures ∙ c.if-not-image_fits.false, rw length-take (omega (arith, count_small c.args.g.leb_size))),
)
