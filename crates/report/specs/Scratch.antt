-- What attaching keeps in the lent words before the report is done. Contracts of inner functions cite it; no public
-- promise does. Assumes nothing.
use Rattle.std.specs.Prelude.{ℕ, cond, List, [], ◌∷◌}
use Rattle.base.specs.Below.{concat_below}
use Rattle.header.specs.declared.VidHeader.{VidHeader}
use Rattle.report.specs.View.{Copy, EcView, VidView, vid_good, vid_newer, vid_blank, vid_bad, Views, is_mappable, ecs}
use Rattle.report.specs.Class.{class_by}
use Rattle.report.specs.Volumes.{Places}
use Rattle.report.specs.Report.{counter_or, is_place}
use Rattle.words.specs.Words.{no_word}

-- volume, LEB and PEB of a copy of a user or layout LEB; else no words
abbrev pub copy_words : ℕ → VidHeader → List ℕ
copy_words i h = cond (is_mappable h.volume) (h.volume ∷ h.lnum ∷ i ∷ []) (no_word ∷ no_word ∷ no_word ∷ [])

abbrev pub key_words : ℕ → VidView → List ℕ
key_words i (vid_good c) = copy_words i c.header
key_words i vid_newer = no_word ∷ no_word ∷ no_word ∷ []
key_words i vid_blank = no_word ∷ no_word ∷ no_word ∷ []
key_words i vid_bad = no_word ∷ no_word ∷ no_word ∷ []

-- the map's words after the first pass: three for each PEB
abbrev pub keys_of : ℕ → Views → List ℕ
keys_of n vs = concat_below n (λ i. key_words i (vs i).vid)

-- the class of a PEB once the copies are chosen: 1 for a chosen copy, whether or not it stays in the map
abbrev pub marked_class : Places → ℕ → EcView → VidView → ℕ
marked_class ps i = class_by (λ (c : Copy). cond (is_place (ps c.header.volume c.header.lnum) i) 1 2)

-- class and counter of each PEB then
abbrev pub marked_words : Places → ℕ → Views → List ℕ
marked_words ps n vs = concat_below n (λ i. marked_class ps i (vs i).ec (vs i).vid ∷ counter_or no_word (ecs vs i) ∷ [])
