-- What a call from C answers as one number, and the words that it leaves. Assumes nothing.
use Rattle.std.specs.Prelude.{Bool, cond, List, [], ◌∷◌, ℕ, ltb, length}
use Rattle.base.specs.Answers.{Answer, given, refused}
use Rattle.header.specs.Fields.{Verdict, good, bad, newer}
use Rattle.volume_record.specs.Record as records
use Rattle.volume_record.specs.Record.{RecordVerdict}
use Rattle.job.specs.Job.{Progress, on, done}
use Rattle.mover_rules.specs.declared.Plan.{Plan}
use Rattle.mover_next.specs.declared.NextWrite.{NextWrite}
use Rattle.mover_next.specs.declared.NextWrite.TheVariants as next
use Rattle.capi_words.specs.Structs.{plan_words, answer_words}

-- ---- the order of judging: words that are too few, refusal 4; words that do not fit; then the call itself

abbrev pub short : ℕ → List ℕ → Bool
short n lent = ltb (length lent) n

abbrev pub unfit : ℕ
unfit = 259

abbrev pub judged : Bool → Bool → ℕ → ℕ
judged isShort fits answer = cond isShort 4 (cond fits answer unfit)

-- what is lent changes only where the call itself was reached
abbrev pub changed : {A : Type 0} → Bool → Bool → A → A → A
changed isShort fits new old = cond isShort old (cond fits new old)

-- ---- answers: 0, or a refusal's number; or a number of this library's own

abbrev pub number_of : {A : Type 0} → Answer A → ℕ
number_of (given a) = 0
number_of (refused k p) = k

-- of a header: 257 where it is lost or bad. Readers answer refusal 5 for a newer one
abbrev pub verdict_number : {A : Type 0} → Answer (Verdict A) → ℕ
verdict_number (given (good h)) = 0
verdict_number (given bad) = 257
verdict_number (given newer) = 5
verdict_number (refused k p) = k

-- of a record: 257 where it is bad, 258 where it is empty
abbrev pub record_number : Answer RecordVerdict → ℕ
record_number (given records.good) = 0
record_number (given records.bad) = 257
record_number (given records.empty) = 258
record_number (refused k p) = k

-- of a step: 256 where it was carried out
abbrev pub progress_number : Answer (Progress Plan) → ℕ
progress_number (given (on p)) = 256
progress_number (given done) = 0
progress_number (refused k p) = k

-- of the next write
abbrev pub next_number : NextWrite → ℕ
next_number (next.Store at n) = 0
next_number (next.Erase at n) = 0
next_number next.Nothing = 0
next_number next.Refused = 18

-- ---- words that a call stores; where there are none, the lent words stay

abbrev pub given_words : {A : Type 0} → (A → List ℕ) → Answer A → List ℕ
given_words words (given a) = words a
given_words words (refused k p) = []

abbrev pub verdict_words : {A : Type 0} → (A → List ℕ) → Answer (Verdict A) → List ℕ
verdict_words words (given (good h)) = words h
verdict_words words (given bad) = []
verdict_words words (given newer) = []
verdict_words words (refused k p) = []

-- these, of a record that is good
abbrev pub if_good : Answer RecordVerdict → List ℕ → List ℕ
if_good (given records.good) ws = ws
if_good (given records.bad) ws = []
if_good (given records.empty) ws = []
if_good (refused k p) ws = []

-- the plan as it goes on
abbrev pub progress_words : Answer (Progress Plan) → List ℕ
progress_words (given (on p)) = answer_words plan_words (given p)
progress_words (given done) = []
progress_words (refused k p) = []

-- 1 for bytes stored, 2 for a block erased, 0 for nothing; from which byte of the image on, and how many
abbrev pub next_words : NextWrite → List ℕ
next_words (next.Store at n) = 1 ∷ at ∷ n ∷ []
next_words (next.Erase at n) = 2 ∷ at ∷ n ∷ []
next_words next.Nothing = 0 ∷ 0 ∷ 0 ∷ []
next_words next.Refused = []
