-- `listing_text::text::write_report` meets its contract. Assumes nothing.
use Rattle.listing_text.proofs.Laws.{both_written}
use Rattle.listing_text.specs.Text.{report_text}
use Rattle.listing_text.proofs.text.write_report.Goals as goal

pub returns : goal.returns
unfolding report_text
returns c =
    let w = c.vol_lines.ensures in
    both_written c.attached_line-a.ensures.text
    (both_written c.peb_lines-b.ensures.text (both_written c.map_lines-c.ensures.text w))
