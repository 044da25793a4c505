-- How many words the rows of the lent tables have. Assumes nothing.
use mathlib.Core.Path.{◌≡◌, refl}
use mathlib.Core.Bool.{Bool, true, false, cond}
use mathlib.Core.List.{List, [], ◌∷◌}
use Prim.Native.Nat.{ℕ, ◌*◌}
use native.Mathlib.Omega.{arith}
use lib.ListN.{length}
use Rattle.base.proofs.Rows.{rows_length}
use Rattle.report.specs.View.{VidView, vid_good, vid_newer, vid_blank, vid_bad, Medium, is_mappable}
use Rattle.report.specs.Volumes.{Entry}
use Rattle.report.specs.Report.{class_at, counter_at}
use Rattle.words.specs.Words.{no_word}
use Rattle.report.specs.Attach.{peb_words, entry_words}
use Rattle.report.specs.Scratch.{key_words}

pub key_length : (i : ℕ) (v : VidView) → length (key_words i v) ≡ 3
key_length i (vid_good c) = go (is_mappable c.header.volume)
  where
    go : (b : Bool) → length (cond b (c.header.volume ∷ c.header.lnum ∷ i ∷ []) (no_word ∷ no_word ∷ no_word ∷ [])) ≡ 3
    go true = refl
    go false = refl
key_length i vid_newer = refl
key_length i vid_blank = refl
key_length i vid_bad = refl

pub entry_words_length : (es : List Entry) → length (entry_words es) ≡ length es * 3
entry_words_length [] = refl
entry_words_length (e ∷ es) = omega (arith, entry_words_length es)

pub peb_words_length : (m : Medium) → length (peb_words m) ≡ m.count * 2
unfolding peb_words
peb_words_length m = rows_length m.count 2 (λ (i : ℕ). class_at m i ∷ counter_at m i ∷ []) (λ i. refl)
