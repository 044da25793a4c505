-- 01 'Header bytes': what judging a header can say, and what both headers have in common. Assumes nothing.
use Rattle.std.specs.Prelude.{Result, Ok, Err, ℕ, Bool, true, false, ◌&&◌, cond, List, ◌++◌, eqb, ltb, length, take, drop}
use Rattle.base.specs.Answers.{Answer, given, refused, all_of}
use Rattle.base.specs.Lists.{part, eqs}
use Rattle.field.specs.Be.{to_be}
use Rattle.field.specs.Fields.{field, number_in}
use Rattle.crc32.specs.Crc.{crc_of}
use Rattle.header.specs.declared.WriteError.{WriteError}
use Rattle.header.specs.declared.WriteError.TheVariants as write

-- "CRC of bytes 0-59 at 60-63": does it match?
unfoldable pub crc_matches : List ℕ → Bool
crc_matches s = eqb (crc_of (take 60 s)) (number_in (field 60 4) s)

-- what a header is: good with its fields; bad, 01's "lost" of an EC header and "bad" of a VID header; newer, with magic
-- and CRC right and "a version above 1"
pub data Verdict (A : Type 0) : Type 0 where
  good : A → Verdict A
  bad : Verdict A
  newer : Verdict A

module _ {A : Type 0} where
  -- a header with magic and CRC right: "a version above 1 refuses the image before any other field is judged";
  -- version 0 is bad; then the rules of its other fields
  abbrev pub judged : ℕ → List Bool → A → Verdict A
  judged version rules h = cond (eqb version 1) (cond (all_of rules) (good h) bad) (cond (eqb version 0) bad newer)

  abbrev pub is_good : Verdict A → Bool
  is_good (good h) = true
  is_good bad = false
  is_good newer = false

  -- the first 64 bytes as a header: lost or bad "if magic or CRC is wrong", else by its fields
  abbrev pub read_header : List ℕ → (List ℕ → Verdict A) → List ℕ → Verdict A
  read_header magic judge s = cond (eqs (part 0 4 s) magic && crc_matches s) (judge s) bad

  -- a verdict as an answer: a newer header is refusal 5, "header version above 1"; its place is known to attaching
  abbrev pub verdict_answer : Verdict A → Answer (Verdict A)
  verdict_answer (good h) = given (good h)
  verdict_answer bad = given bad
  verdict_answer newer = refused 5 0

  -- refusal 4 where fewer than 64 bytes are lent
  abbrev pub lent_header : Verdict A → List ℕ → Answer (Verdict A)
  lent_header v s = cond (ltb (length s) 64) (refused 4 0) (verdict_answer v)

  -- refusal 4, then 19: "reader would call the header lost, bad or newer"; that the reader calls a written header what
  -- its fields make it, good or not, is `ec_judged` and `vid_judged` of proofs/RoundTrip.antt
  abbrev pub header_written : Verdict A → List ℕ → Answer (Unit {0})
  header_written v out = cond (ltb (length out) 64) (refused 4 0) (cond (is_good v) (given tt) (refused 19 0))

  -- the lent bytes afterwards: a refusal changes nothing, and bytes beyond 64 never change
  abbrev pub header_out : Verdict A → List ℕ → List ℕ → List ℕ
  header_out v bytes out = cond (ltb (length out) 64) out (cond (is_good v) (bytes ++ drop 64 out) out)

-- bytes 0-59 and "CRC of bytes 0-59 at 60-63"
abbrev pub header_bytes : List ℕ → List ℕ
header_bytes head = head ++ to_be 4 (crc_of head)

-- what each case of a writer's answer is in 01: written, refusal 4 or refusal 19
abbrev pub written : Result (Unit {0}) WriteError → Answer (Unit {0})
written (Ok u) = given u
written (Err write.Short) = refused 4 0
written (Err write.NotGood) = refused 19 0
