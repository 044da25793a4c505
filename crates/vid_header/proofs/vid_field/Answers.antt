-- `vid_header::vid_field` meets its contract. Assumes nothing.
use mathlib.Core.Path.{◌∙◌}
use Rattle.header.proofs.Laws.{vid_field_at}
use Rattle.vid_header.proofs.vid_field.Goals as goal

pub returns : goal.returns
returns c =
    c.get.ensures.0 ∙ vid_field_at c.args.i c.args.header.now c.requires.0
