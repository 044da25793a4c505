-- `builder_content::capacity` meets its contract. Assumes nothing.
use native.Mathlib.Omega.{arith}
use Rattle.builder_content.proofs.Laws.{pad_read, reserved_read}
use Rattle.builder_content.proofs.capacity.Goals as goal

pub overflow_sub-room : goal.overflow_sub-room
overflow_sub-room c = omega (arith, pad_read c.args.table.now c.args.v c.get_field.ensures.0)

pub returns : goal.returns
returns c =
    let t = c.args.table.now in
    let v = c.args.v in
    cc (reserved_read t v c.get_field-2.ensures.0, pad_read t v c.get_field.ensures.0)
