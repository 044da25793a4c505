-- `copies::matches` meets its contract. Assumes nothing.
use mathlib.Core.Path.{refl}
use native.Mathlib.Omega.{arith}
use Rattle.copies.proofs.Copies.{size_within, matches_run}
use Rattle.copies.proofs.matches.Goals as goal

pub overflow_add-at-2 : goal.overflow_add-at-2
overflow_add-at-2 c =
    omega (arith, size_within c.requires c.header_field-size.ensures)

pub slice_bounds-crc32-end : goal.slice_bounds-crc32-end
slice_bounds-crc32-end c =
    omega (arith, size_within c.requires c.header_field-size.ensures)

pub returns : goal.returns
returns c =
    matches_run c.requires _ refl c.header_field-size.ensures c.crc32.ensures
    c.header_field.ensures
