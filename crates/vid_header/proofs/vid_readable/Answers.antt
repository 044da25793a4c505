-- `vid_header::vid_readable` meets its contract. Assumes nothing.
use mathlib.Core.Path.{◌∙◌}
use Rattle.header.proofs.Laws.{vid_ok}
use Rattle.vid_header.proofs.vid_readable.Goals as goal

pub returns : goal.returns
returns c = c.is_ok.ensures.value ∙ vid_ok _ _ c.judge_vid.ensures
