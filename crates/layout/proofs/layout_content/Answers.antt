-- `layout::layout_content` meets its contract. Assumes nothing.
use Rattle.layout.proofs.Contents.{no_content, content_slice}
use Rattle.layout.proofs.layout_content.Goals as goal

pub returns-in_default : goal.returns-in_default
returns-in_default c = no_content c.requires c.args.lnum c.in_default.ensures

pub returns : goal.returns
returns c = content_slice c.requires c.in-Some.ensures
