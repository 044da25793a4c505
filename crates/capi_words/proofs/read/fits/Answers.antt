-- `capi_words::read::fits` meets its contract. Assumes nothing.
use mathlib.Core.Path.{sym, ◌∙◌}
use borrow.Author.Tests.{lt-leb}
use lib.Dec.{leb}
use Rattle.std.proofs.Common.{ℕ, ◌<◌, length, rules, tests}
use Rattle.std.proofs.lemmas.Iterator.{YieldsList-from_slice, YieldsList-from_zip}
use Rattle.std.proofs.lemmas.Iterator.Search.{all_from_yields_List}
use Rattle.capi_words.proofs.Laws.{fits_short, fits_zip}
use Rattle.capi_words.proofs.read.fits.Goals as goal

pub returns-then-most-words : goal.returns-then-most-words
returns-then-most-words c =
    let ws = c.args.words.now in
    let ms = c.args.most.now in
    all_from_yields_List (λ (p : ℕ × ℕ). leb p.0 p.1) c.all.new.self _ _ c.all.ensures.ran
    (YieldsList-from_zip (YieldsList-from_slice ws cc) (YieldsList-from_slice ms cc)) (λ x b q k. search (rules, tests))
    ∙ sym (fits_zip ws ms c.if-most-words.true)

pub returns-else-most-words : goal.returns-else-most-words
returns-else-most-words c =
    let h : length c.args.words.now < length c.args.most.now = c.if-most-words.false in
    rw lt-leb (sym (fits_short c.args.words.now c.args.most.now h))
