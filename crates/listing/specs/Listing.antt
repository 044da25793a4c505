-- The listing program's whole job: from the bytes read to the bytes printed. Assumes nothing.
use Rattle.std.specs.Prelude.{ℕ, Bool, ◌||◌, cond, List, ltb, leb, length, take, drop, replicate}
use Rattle.base.specs.Answers.{Answer, given, refused}
use Rattle.geometry.specs.declared.Geometry.{Geometry}
use Rattle.geometry.specs.Slip.{slip_geometry}
use Rattle.report.specs.Attach.{Tables, lent, Outcome, early, request, attaching_into, over, answer_of, tables_after}
use Rattle.listing_text.specs.Text.{text_of}

-- "The slip precedes the image": the slip's fields take 20 bytes
abbrev pub slip_part : List ℕ → List ℕ
slip_part input = take 20 input

abbrev pub image_part : List ℕ → List ℕ
image_part input = drop 20 input

-- "The program holds slip and image in at most 60 KiB": was there more input than that?
abbrev pub too_much : List ℕ → Bool → Bool
too_much input more = more || ltb 61440 (length input)

-- "and more input is refusal 3", after refusals 1 and 2
abbrev pub after_slip : Answer Geometry → Outcome
after_slip (refused k p) = early k
after_slip (given g) = early 3

-- the tables that the program lends: 61,420 bytes are 59 PEBs at the most, so they are never too short
-- (`tables_suffice` of proofs/Bounds.antt)
unfoldable pub program_tables : Tables
program_tables = lent (replicate 118 0) (replicate 177 0) (replicate 128 0)

-- what the input comes to
unfoldable pub judging : List ℕ → Bool → Outcome
judging input more =
    cond (too_much input more) (after_slip (slip_geometry (slip_part input)))
    (attaching_into (request (slip_part input)) (image_part input) program_tables)

-- what is printed
unfoldable pub listing_of : List ℕ → Bool → List ℕ
listing_of input more = text_of (answer_of (judging input more)) (tables_after (judging input more) program_tables)

-- the text's length, or refusal 4, here for the text's buffer
unfoldable pub listed : List ℕ → Bool → List ℕ → Answer ℕ
listed input more out =
    cond (leb (length (listing_of input more)) (length out)) (given (length (listing_of input more))) (refused 4 0)

-- the buffer then: the text at its start, or as it was
unfoldable pub listed_out : List ℕ → Bool → List ℕ → List ℕ
listed_out input more out = cond (leb (length (listing_of input more)) (length out)) (over (listing_of input more) out) out
