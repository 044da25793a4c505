-- `peb_scan::headers::see_vid` meets its contract. Assumes nothing.
use mathlib.Core.Path.{◌≡◌, ◌∙◌, ap}
use borrow.Author.Rules.{rules}
use Rattle.base.proofs.Lists.{lent_part}
use Rattle.report.specs.View.{view_of, vid_part}
use Rattle.peb_scan.specs.Seen.{vid_seen}
use Rattle.peb_scan.proofs.Laws.{seen_from, vid_from_lem, vid_long}
use Rattle.peb_scan.proofs.headers.see_vid.Goals as goal

pub returns : goal.returns
unfolding view_of
returns c =
    let g = c.args.g in
    let p = c.args.p.now in
    let s = vid_part g p in
    let e : c.map_err.result ≡ seen_from s c.read_vid.result = rw (← lent_part g.vid_start 64 p) (search rules) in
    ap (vid_seen g p) e
    ∙ vid_from_lem g p s (vid_long c.requires.0 p c.requires.1) c.read_vid.result
    (rw (lent_part g.vid_start 64 p) at c.read_vid.ensures)
