-- `builder_fill::volume::shape_of` meets its contract. Assumes nothing.
use native.Mathlib.Omega.{arith}
use Rattle.builder_fill.proofs.Lebs.{pad_read, type_read}
use Rattle.builder_fill.proofs.volume.shape_of.Goals as goal

pub overflow_sub-room : goal.overflow_sub-room
overflow_sub-room c = omega (arith, pad_read c.args.table.now c.args.v c.get_field-data_pad.ensures.0)

pub lebs_for-requires : goal.lebs_for-requires
lebs_for-requires c = omega (arith, pad_read c.args.table.now c.args.v c.get_field-data_pad.ensures.0)

pub returns : goal.returns
returns c =
    let t = c.args.table.now in
    let v = c.args.v in
    cc (c.lebs_for.ensures, pad_read t v c.get_field-data_pad.ensures.0, type_read t v c.get_field.ensures.0)
