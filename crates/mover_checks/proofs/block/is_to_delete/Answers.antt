-- `mover_checks::block::is_to_delete` meets its contract. Assumes nothing.
use mathlib.Core.Path.{◌≡◌, ap, ◌∙◌}
use mathlib.Core.Bool.{false, not, ◌&&◌}
use borrow.Author.Rules.{rules}
use lib.Dec.{eqb}
use Rattle.std.proofs.Common.{MatchResult}
use Rattle.report.specs.View.{VidView, good_vid, is_mappable}
use Rattle.report.specs.Report.{is_internal}
use Rattle.mover_checks.proofs.Words.{seen_to_delete}
use Rattle.mover_checks.proofs.block.is_to_delete.Goals as goal

pub returns : goal.returns
returns c =
    let a = c.args in
    let told : MatchResult c.see_vid.result
    (λ h. c.is_ok_and.result ≡ (not (is_mappable h.volume) && eqb h.compat 1))
    (λ _. c.is_ok_and.result ≡ false) = search rules in
    seen_to_delete a.g a.p.now c.see_vid.result told
    ∙ ap (λ (v : VidView). is_internal 1 (good_vid v)) c.see_vid.ensures
