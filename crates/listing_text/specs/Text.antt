-- 01 'Bench values': the text of a listing, from a report and its three tables. Assumes nothing.
use Rattle.std.specs.Prelude.{ℕ, zero, suc, ◌+◌, ◌/◌, ◌%◌, cond, List, [], ◌∷◌, ◌++◌, eqb, ltb, get_or}
use Prim.Native.Char.{code}
use Prim.Native.String.{String, [] as empty, ◌∷◌ as ◌then◌}
use Rattle.base.specs.Answers.{Answer, given, refused}
use Rattle.base.specs.Below.{concat_below}
use Rattle.report.specs.declared.Report.{Report}
use Rattle.words.specs.Words.{no_word, class_word, counter_word, volume_word, lnum_word, peb_word}
use Rattle.report.specs.Attach.{Tables}

-- the bytes of a text of ASCII characters
abbrev pub ascii : String → List ℕ
ascii empty = []
ascii (c then s) = code c ∷ ascii s

-- a number in decimal: below ten it is its digit, from ten on its tenth part and then its last digit
abbrev pub digits_up_to : ℕ → ℕ → List ℕ
digits_up_to zero n = []
digits_up_to (suc k) n = cond (ltb n 10) ((48 + n) ∷ []) (digits_up_to k (n / 10) ++ ((48 + n % 10) ∷ []))

-- no number of a report, all are below 2^64, has more than 20 digits
unfoldable pub decimal : ℕ → List ℕ
decimal n = digits_up_to 20 n

-- a word, or a blank, and a number
unfoldable pub labelled : String → ℕ → List ℕ
labelled s n = ascii s ++ decimal n

-- two of them
unfoldable pub pair : String → ℕ → String → ℕ → List ℕ
pair s m t n = labelled s m ++ labelled t n

abbrev pub line_end : List ℕ
line_end = ascii "\n"

-- "The first line names its numbers (after attached, the PEB count)"
unfoldable pub numbers_part : Report → List ℕ
numbers_part r = pair "attached " r.peb_count " entries " r.entries ++ pair " mean " r.mean " highest " r.highest

unfoldable pub marks_part : Report → List ℕ
marks_part r =
    pair " readonly " (cond r.read_only 1 0) " table " r.table
    ++ (pair " copies " r.copies_mark " grade " r.grade ++ line_end)

abbrev pub attached_line : Report → List ℕ
attached_line r = numbers_part r ++ marks_part r

-- "peb: number, class, counter or `lost`"
unfoldable pub counter_text : ℕ → List ℕ
counter_text k = cond (eqb k no_word) (ascii " lost") (labelled " " k)

unfoldable pub peb_line : ℕ → ℕ → ℕ → List ℕ
peb_line i c k = pair "peb " i " " c ++ (counter_text k ++ line_end)

-- "map: volume, LEB, PEB"
unfoldable pub map_line : ℕ → ℕ → ℕ → List ℕ
map_line v l p = pair "map " v " " l ++ (labelled " " p ++ line_end)

-- "vol: volume, state, nonzero only"
unfoldable pub vol_line : ℕ → ℕ → List ℕ
vol_line v s = cond (eqb s 0) [] (pair "vol " v " " s ++ line_end)

-- the lines of each table
unfoldable pub peb_lines : ℕ → List ℕ → List ℕ
peb_lines n pebs = concat_below n (λ i. peb_line i (class_word pebs i) (counter_word pebs i))

unfoldable pub map_lines : ℕ → List ℕ → List ℕ
map_lines k map = concat_below k (λ i. map_line (volume_word map i) (lnum_word map i) (peb_word map i))

unfoldable pub vol_lines : ℕ → List ℕ → List ℕ
vol_lines k states = concat_below k (λ v. vol_line v (get_or states v 0))

-- "prints in full"
unfoldable pub report_text : Report → Tables → List ℕ
report_text r t =
    attached_line r ++ (peb_lines r.peb_count t.pebs ++ (map_lines r.entries t.map ++ vol_lines 128 t.states))

-- "A refusal prints only `refused N at P`."
unfoldable pub refused_text : ℕ → ℕ → List ℕ
refused_text k p = pair "refused " k " at " p ++ line_end

abbrev pub text_of : Answer Report → Tables → List ℕ
text_of (given r) t = report_text r t
text_of (refused k p) t = refused_text k p
