-- `choice::marking::mark_chosen` meets its contract: the LEBs of the PEBs passed are marked. Assumes nothing.
use mathlib.Core.Path.{◌≡◌}
use lib.ListN.{drop}
use Rattle.words.specs.Words.{peb_words_needed}
use Rattle.report.specs.View.{medium_of}
use Rattle.choice.specs.Marking.{MarkedTo}
use Rattle.choice.proofs.marking.mark_chosen.Given as goal

abbrev pub invariant-loop-i : goal.invariant-loop-i
invariant-loop-i l =
    (MarkedTo (medium_of l.g l.n l.image) l.map l.pebs l.i)
    × (drop (peb_words_needed l.n) l.pebs ≡ drop (peb_words_needed l.n) l.initial.pebs)
