-- Laws of volume records. Assumes nothing.
use mathlib.Core.Path.{◌≡◌, refl, ◌∙◌}
use mathlib.Core.Bool.{Bool, true, false, not, ◌&&◌}
use mathlib.Core.List.{List, ◌++◌}
use Prim.Native.Nat.{ℕ, zero, suc, ◌+◌, ◌≤◌, ◌<◌}
use native.Mathlib.Numerals.{add-one}
use native.Mathlib.Omega.{arith}
use borrow.Author.Tests.{lt-ltb, le-ltb}
use lib.Dec.{eqb, lit≤}
use lib.ListN.{length, take, get_or, replicate}
use Rattle.std.specs.List.{list_all}
use Rattle.std.proofs.lemmas.List.Folds.{list_all_more}
use Rattle.base.specs.Answers.{given, refused}
use Rattle.base.specs.Below.{all_below}
use Rattle.base.specs.Lists.{put}
use Rattle.field.specs.Be.{to_be_on, to_be}
use Rattle.crc32.specs.Crc.{crc_of}
use Rattle.field.specs.Fields.{row}
use Rattle.field.proofs.Laws.{rows_fit}
use Rattle.base.proofs.Lists.{part_take}
use Rattle.volume_record.specs.Fields.{record_fields}
use Rattle.volume_record.specs.Record.{name_ends, record_of, record_good, empty_record}
use Rattle.volume_record.specs.Record.{is_empty, empty, good, bad, judge_record, shown_record}
use Rattle.volume_record.specs.declared.VolumeRecord.{VolumeRecord}

-- ---- the fields

-- each field lies within the 172 bytes
pub fits : (i : ℕ) → (row record_fields i).at + (row record_fields i).width ≤ 172
fits i = (rows_fit 172 128 record_fields refl i).0

-- ---- the empty record

-- 168 zeroes stored in the record, then their CRC
pub zeroes_summed : {a b : List ℕ} {k : ℕ} → k ≡ crc_of (replicate 168 0)
    → a ≡ replicate 168 0 → b ≡ put 168 (to_be 4 k) (a ++ replicate 4 0xFF) → b ≡ empty_record
unfolding empty_record to_be_on
zeroes_summed p q r = rw (r, q, p)

-- ---- the name

named : (name : List ℕ) (n : ℕ) → n ≤ length name
    → list_all (λ x. not (eqb x 0)) (take n name) ≡ all_below n (λ i. not (eqb (get_or name i 0) 0))
named name zero h = refl
named name (suc n) h =
    rw (← (add-one n), list_all_more (λ x. not (eqb x 0)) name n 0 (omega arith), named name n (omega arith))

pub name_tested : (name : List ℕ) (n : ℕ) {r : Bool} → n ≤ length name → r ≡ list_all (λ x. not (eqb x 0)) (take n name)
    → r && eqb (get_or name n 0) 0 ≡ name_ends name n
unfolding name_ends
name_tested name n h e = rw (e, named name n h)

-- ---- what a record is

-- the record at the start of a longer slice
record_start : (s : List ℕ) → record_of (take 172 s) ≡ record_of s
unfolding record_of
record_start s =
    rw (
      part_take 0 4 172 s (lit≤ tt),
      part_take 4 4 172 s (lit≤ tt),
      part_take 8 4 172 s (lit≤ tt),
      part_take 12 1 172 s (lit≤ tt),
      part_take 13 1 172 s (lit≤ tt),
      part_take 14 2 172 s (lit≤ tt),
      part_take 16 128 172 s (lit≤ tt),
      part_take 144 1 172 s (lit≤ tt),
    )

pub read_short : (size unit : ℕ) (s : List ℕ) {v : VolumeRecord} → length s < 172 → v ≡ record_of (replicate 172 0)
    → (refused 4 0 ≡ judge_record size unit s) × (v ≡ shown_record s)
unfolding judge_record shown_record
read_short size unit s h p = (rw (lt-ltb _ _ h), p ∙ rw (lt-ltb _ _ h))

-- `b` is whether the record is empty, `g` whether it is good
module _ (size unit : ℕ) (s : List ℕ) {v : VolumeRecord} {b : Bool} (h : 172 ≤ length s) (p : v ≡ record_of (take 172 s))
    (c : b ≡ is_empty (take 172 s)) where
  shown : v ≡ shown_record s
  unfolding shown_record
  shown = p ∙ rw (le-ltb _ _ h) (record_start s)

  pub read_empty : b ≡ true → (given empty ≡ judge_record size unit s) × (v ≡ shown_record s)
  unfolding judge_record
  read_empty t = (rw (le-ltb _ _ h, ← c, t), shown)

  module _ {g : Bool} (f : b ≡ false) (k : g ≡ record_good size unit (take 172 s)) where
    pub read_good : g ≡ true → (given good ≡ judge_record size unit s) × (v ≡ shown_record s)
    unfolding judge_record
    read_good t = (rw (le-ltb _ _ h, ← c, f, ← k, t), shown)

    pub read_bad : g ≡ false → (given bad ≡ judge_record size unit s) × (v ≡ shown_record s)
    unfolding judge_record
    read_bad t = (rw (le-ltb _ _ h, ← c, f, ← k, t), shown)
