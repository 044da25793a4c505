-- `peb_scan::headers::see_ec` meets its contract. Assumes nothing.
use mathlib.Core.Path.{◌≡◌, ◌∙◌, ap}
use borrow.Author.Rules.{rules}
use lib.ListN.{take}
use Rattle.report.specs.View.{view_of}
use Rattle.peb_scan.specs.Seen.{ec_seen}
use Rattle.peb_scan.proofs.Laws.{seen_from, ec_from_lem, ec_long}
use Rattle.peb_scan.proofs.headers.see_ec.Goals as goal

pub returns : goal.returns
unfolding view_of
returns c =
    let s = take 64 c.args.p.now in
    let e : c.map_err.result ≡ seen_from s c.read_ec.result = search rules in
    ap ec_seen e ∙ ec_from_lem s (ec_long c.requires.0 c.args.p.now c.requires.1) c.read_ec.result c.read_ec.ensures
