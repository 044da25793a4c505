-- How long texts can be. Assumes nothing.
use mathlib.Core.Bool.{Bool, true, false, cond}
use mathlib.Core.List.{List, [], ◌++◌}
use Prim.Native.Nat.{ℕ, zero, suc, ◌+◌, ◌*◌, ◌≤◌}
use Prim.Native.String.{String}
use native.Mathlib.Omega.{arith}
use lib.Dec.{eqb}
use lib.ListN.{length, length-append}
use Rattle.base.specs.Below.{concat_below}
use Rattle.words.specs.Words.{no_word}
use Rattle.report.specs.declared.Report.{Report}
use Rattle.report.specs.Attach.{Tables}
use Rattle.listing_text.specs.Text.{ascii, labelled, pair, numbers_part, marks_part, counter_text, peb_line, map_line}
use Rattle.listing_text.specs.Text.{vol_line, peb_lines, map_lines, vol_lines}
use Rattle.listing_text.specs.Written.{peb_line_at, map_line_at, vol_line_at}
use Rattle.listing_text.specs.Text.{report_text, refused_text}
use Rattle.listing_text.proofs.Laws.{decimal_short}

labelled_short : (s : String) (n : ℕ) → length (labelled s n) ≤ length (ascii s) + 20
unfolding labelled
labelled_short s n = simp length-append (omega (arith, decimal_short n))

pair_short : (s : String) (m : ℕ) (t : String) (n : ℕ)
    → length (pair s m t n) ≤ length (ascii s) + (length (ascii t) + 40)
unfolding pair
pair_short s m t n = simp length-append (omega (arith, labelled_short s m, labelled_short t n))

numbers_short : (r : Report) → length (numbers_part r) ≤ 113
unfolding numbers_part
numbers_short r =
    let a = pair_short "attached " r.peb_count " entries " r.entries in
    simp length-append (omega (arith, a, pair_short " mean " r.mean " highest " r.highest))

marks_short : (r : Report) → length (marks_part r) ≤ 113
unfolding marks_part
marks_short r =
    let a = pair_short " readonly " (cond r.read_only 1 0) " table " r.table in
    simp length-append (omega (arith, a, pair_short " copies " r.copies_mark " grade " r.grade))

counter_short : (k : ℕ) → length (counter_text k) ≤ 21
unfolding counter_text
counter_short k = go (eqb k no_word)
  where
    go : (b : Bool) → length (cond b (ascii " lost") (labelled " " k)) ≤ 21
    go true = omega arith
    go false = labelled_short " " k

peb_short : (i c k : ℕ) → length (peb_line i c k) ≤ 67
unfolding peb_line
peb_short i c k = simp length-append (omega (arith, pair_short "peb " i " " c, counter_short k))

map_short : (v l p : ℕ) → length (map_line v l p) ≤ 67
unfolding map_line
map_short v l p = simp length-append (omega (arith, pair_short "map " v " " l, labelled_short " " p))

vol_short : (v s : ℕ) → length (vol_line v s) ≤ 46
unfolding vol_line
vol_short v s = go (eqb s 0)
  where
    go : (b : Bool) → length (cond b [] (pair "vol " v " " s ++ ascii "\n")) ≤ 46
    go true = omega arith
    go false = simp length-append (omega (arith, pair_short "vol " v " " s))

lines_short : (n k : ℕ) (f : ℕ → List ℕ) → ((i : ℕ) → length (f i) ≤ k) → length (concat_below n f) ≤ n * k
lines_short zero k f h = omega arith
lines_short (suc n) k f h = rw length-append (omega (arith, lines_short n k f h, h n))

peb_lines_short : (n : ℕ) (pebs : List ℕ) → length (peb_lines n pebs) ≤ n * 67
unfolding peb_lines
peb_lines_short n pebs = lines_short n 67 (peb_line_at pebs) (λ i. peb_short i _ _)

map_lines_short : (n : ℕ) (map : List ℕ) → length (map_lines n map) ≤ n * 67
unfolding map_lines
map_lines_short n map = lines_short n 67 (map_line_at map) (λ i. map_short _ _ _)

vol_lines_short : (n : ℕ) (states : List ℕ) → length (vol_lines n states) ≤ n * 46
unfolding vol_lines
vol_lines_short n states = lines_short n 46 (vol_line_at states) (λ v. vol_short v _)

-- a report of at most 59 PEBs and entries
pub report_short : (r : Report) (t : Tables) → r.peb_count ≤ 59 → r.entries ≤ 59 → length (report_text r t) ≤ 16384
unfolding report_text
report_short r t h k =
    let p = peb_lines_short r.peb_count t.pebs in
    let m = map_lines_short r.entries t.map in
    simp length-append (omega (arith, p, m, vol_lines_short 128 t.states, numbers_short r, marks_short r))

pub refused_short : (k p : ℕ) → length (refused_text k p) ≤ 53
unfolding refused_text
refused_short k p = simp length-append (omega (arith, pair_short "refused " k " at " p))
