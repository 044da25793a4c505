-- Laws of the volume table. Assumes nothing.
use mathlib.Core.Path.{◌≡◌, refl, sym, ◌∙◌}
use mathlib.Core.Bool.{Bool, true, false, not, ◌&&◌, and-true, and-false, and_self, cond}
use Rattle.base.specs.Answers.{Answer, given, refused}
use mathlib.Core.List.{List}
use Prim.Native.Nat.{ℕ, zero, suc, ◌+◌, ◌-◌, ◌*◌, ◌≤◌, ◌<◌}
use native.Mathlib.Nat.{add-sub_cancel_left, min-le_left, sub-zero}
use native.Mathlib.Numerals.{add-one}
use native.Mathlib.Omega.{arith}
use borrow.Author.Tests.{le-leb, lt-leb}
use lib.Bits.{bit_and, and_le_r}
use lib.Dec.{eqb}
use lib.ListN.{length, take, drop, get_or, length-take}
use lib.Seq.{take_all}
use Rattle.base.specs.Below.{any_below}
use Rattle.base.specs.Lists.{part, eqs}
use denote.Bor.{Bor}
use mathlib.Core.Logic.{⊎_elim}
use Rattle.std.specs.Prelude.{Option, Some, None}
use Rattle.std.specs.Option.{unwrap_or}
use Rattle.std.specs.Slice.{IsGetRangeResult}
use Rattle.base.proofs.Answers.{cond_yes, cond_no, one_broken}
use Rattle.base.proofs.Below.{none_intro, all_fails, all_more, not_above, above_zero}
use Rattle.base.proofs.Lists.{eqs_true}
use Rattle.volume_record.specs.Record.{record_of, is_empty}
use Rattle.volume_table.specs.Sums.{tallied, TallyOf}
use Rattle.volume_table.specs.Table.{record_count, records_part, record_at, empty_or_good, name_of, same_names}
use Rattle.volume_table.specs.Table.{autoresizes, table_rules, table_tests, table_good, taken_leb, taken_records}
use Rattle.volume_table.specs.Table.{records_taken, copies_mark_of}
use Rattle.volume_table.specs.declared.Tally.{Tally}

-- ---- the records' part

pub count_small : (size : ℕ) → record_count size ≤ 128
unfolding record_count
count_small size = min-le_left 128 _

-- the first n bytes where there are so many, else all
pub front : (s : Bor (List ℕ)) (n : ℕ) (o : Option (Bor (List ℕ))) → IsGetRangeResult s.now 0 n o
    → (unwrap_or o s).now ≡ take n s.now
front s n None h = ⊎_elim (λ l. absurd (omega arith)) (λ l. sym (take_all n s.now (omega arith))) h.0
front s n (Some p) h = h.0.2 ∙ rw sub-zero

-- a copy that is long enough for its records has them all
pub all_there : (size : ℕ) (content : List ℕ) {n : ℕ} {t : List ℕ} → n ≡ record_count size → t ≡ records_part size content
    → 172 * n ≤ length content → 172 * n ≤ length t
unfolding records_part
all_there size content p q h = rw q (omega (arith, length-take (172 * record_count size) content))

cut_short : (size : ℕ) (content : List ℕ) {n : ℕ} → n ≡ record_count size → length content < 172 * n
    → length (records_part size content) < 172 * n
unfolding records_part
cut_short size content p h = omega (arith, length-take (172 * record_count size) content)

-- ---- two records with one name

-- a record where it stands
pub empty_at : (at : ℕ) (t : List ℕ) {b : Bool} → b ≡ is_empty (take (at + 172 - at) (drop at t))
    → b ≡ is_empty (part at 172 t)
empty_at at t q = rw add-sub_cancel_left at q

module _ (t : List ℕ) (j : ℕ) where
  -- has record i the name of record j, and neither is empty?
  abbrev pub repeats : ℕ → Bool
  repeats i = same_names (record_at t i) (record_at t j)

  pub none_repeats : {b : Bool} → b ≡ is_empty (record_at t j) → b ≡ true → false ≡ any_below j repeats
  unfolding same_names
  none_repeats p q = sym (none_intro j repeats (λ i h. rw (← p, q, and-false)))

  pub repeats_as : (i : ℕ) {b r : Bool} → b ≡ is_empty (record_at t j) → b ≡ false
      → r ≡ not (is_empty (record_at t i)) && eqs (name_of (record_at t i)) (name_of (record_at t j)) → r ≡ repeats i
  unfolding same_names
  repeats_as i p q r = r ∙ rw (← p, q)

-- ---- the sums

-- a bit counts as it is
bit_counts : (n : ℕ) → n ≤ 1 → n ≡ cond (eqb n 1) 1 0
bit_counts zero h = refl
bit_counts (suc zero) h = refl
bit_counts (suc (suc n)) h = absurd (omega arith)

module _ (size unit : ℕ) (t : List ℕ) where
  abbrev fine_at : ℕ → Bool
  fine_at i = empty_or_good size unit (record_at t i)

  pub tally_none : TallyOf 0 size unit t (Some (record { reserved = 0; autoresize = 0 }))
  tally_none = record { good = refl; reserved = refl; autoresize = refl }

  module _ (i : ℕ) (s : Tally) where
    -- one record more, and it is empty or good
    pub tally_more : {u : Tally} → TallyOf i size unit t (Some s) → Some u ≡ tallied size unit s (record_at t i)
        → TallyOf (i + 1) size unit t (Some u)
    unfolding tallied autoresizes
    tally_more {u} h e =
        let y = cond_yes (fine_at i) (λ q. cc) (sym e) in
        let f = (record_of (record_at t i)).flags in
        record {
          good = sym (all_more fine_at i (sym h.good) y.0);
          reserved = rw (add-one, ← h.reserved) (cc);
          autoresize = rw (add-one, ← h.autoresize, ← (bit_counts (bit_and f 1) (and_le_r f 1))) (cc);
        }

    -- it is neither: the rest does not matter
    pub tally_stop : (n : ℕ) → i < n → None ≡ tallied size unit s (record_at t i) → TallyOf n size unit t None
    unfolding tallied
    tally_stop n h e = record {
      good = sym (all_fails n fine_at i h (cond_no (fine_at i) (λ q. cc) (sym e)).0);
      reserved = tt;
      autoresize = tt;
    }

-- ---- is the table good?

-- one rule broken is enough
one_fails : (size unit pebs : ℕ) (content : List ℕ) {n : ℕ} {t : List ℕ} → n ≡ record_count size
    → t ≡ records_part size content
    → (k : ℕ) → get_or (table_tests n size unit pebs t) k true ≡ false → false ≡ table_good size unit pebs content
unfolding table_good
one_fails size unit pebs content {n} {t} p q k e = rw (← p, ← q) (sym (one_broken (table_tests n size unit pebs t) k e))

pub no_records : (size unit pebs : ℕ) (content : List ℕ) {n : ℕ} → n ≡ record_count size → n ≡ 0
    → false ≡ table_good size unit pebs content
unfolding table_tests table_rules
no_records size unit pebs content p z = one_fails size unit pebs content p refl 0 (not_above _ z)

pub too_short : (size unit pebs : ℕ) (content : List ℕ) {n : ℕ} → n ≡ record_count size → length content < 172 * n
    → false ≡ table_good size unit pebs content
unfolding table_tests table_rules
too_short size unit pebs content p h =
    one_fails size unit pebs content p refl 1 (lt-leb _ _ (cut_short size content p h))

-- the count n, the records t and their sums s, as computed
pub record Summed (size unit : ℕ) (content : List ℕ) (n : ℕ) (t : List ℕ) (s : Option Tally) : Type 0 where
  pub count : n ≡ record_count size
  pub records : t ≡ records_part size content
  pub sums : TallyOf n size unit t s

module _ (size unit pebs : ℕ) (content : List ℕ) {n : ℕ} {t : List ℕ} where
  fails : {s : Option Tally} → Summed size unit content n t s → (k : ℕ)
      → get_or (table_tests n size unit pebs t) k true ≡ false → false ≡ table_good size unit pebs content
  fails h = one_fails size unit pebs content h.count h.records

  pub not_fine : Summed size unit content n t None → false ≡ table_good size unit pebs content
  unfolding table_tests table_rules
  not_fine h = fails h 2 (sym h.sums.good)

  module _ {s : Tally} (h : Summed size unit content n t (Some s)) where
    pub too_many : 1 < s.autoresize → false ≡ table_good size unit pebs content
    unfolding table_tests table_rules
    too_many l = fails h 4 (lt-leb _ _ (rw h.sums.autoresize at l))

    pub too_much_lem : pebs - 2 < s.reserved → false ≡ table_good size unit pebs content
    unfolding table_tests table_rules
    too_much_lem l = fails h 5 (lt-leb _ _ (rw h.sums.reserved at l))

    -- with the other rules kept, the names decide
    pub names_decide : {d : Bool} → (n ≡ 0 → ⊥) → 172 * n ≤ length t → s.autoresize ≤ 1 → s.reserved ≤ pebs - 2
        → d ≡ not (any_below n (λ (j : ℕ). any_below j (repeats t j))) → d ≡ table_good size unit pebs content
    unfolding table_good table_tests table_rules
    names_decide z l a r d =
        d
        ∙ rw (
          ← h.count,
          ← h.records,
          above_zero _ z,
          le-leb _ _ l,
          ← h.sums.good,
          ← h.sums.autoresize,
          le-leb _ _ a,
          ← h.sums.reserved,
          le-leb _ _ r,
        )
        (sym (and-true (not (any_below n (λ (j : ℕ). any_below j (repeats t j))))))

-- ---- the table taken

module _ (size unit pebs : ℕ) (copy0 copy1 : List ℕ) where
  good_as : records_part size copy0 ≡ records_part size copy1
      → table_good size unit pebs copy0 ≡ table_good size unit pebs copy1
  unfolding table_good
  good_as e = rw e

  module _ {g : Bool} {k : Answer ℕ} {m : ℕ} (p : g ≡ table_good size unit pebs copy0) where
    -- equal records are judged once
    pub chosen_equal : eqs (records_part size copy0) (records_part size copy1) ≡ true
        → k ≡ cond g (given 0) (cond g (given 1) (refused 11 0)) → m ≡ cond g 0 1
        → (k ≡ taken_leb size unit pebs copy0 copy1) × (m ≡ copies_mark_of size unit pebs copy0 copy1)
    unfolding taken_leb copies_mark_of
    chosen_equal e a b =
        let q : g ≡ table_good size unit pebs copy1 = p ∙ good_as (eqs_true _ _ e) in
        (a ∙ rw (← p, ← q), b ∙ rw (← p, ← q, e, and_self))

    pub chosen_unequal : {h : Bool} → h ≡ table_good size unit pebs copy1
        → eqs (records_part size copy0) (records_part size copy1) ≡ false
        → k ≡ cond g (given 0) (cond h (given 1) (refused 11 0)) → m ≡ cond (g && h) 2 1
        → (k ≡ taken_leb size unit pebs copy0 copy1) × (m ≡ copies_mark_of size unit pebs copy0 copy1)
    unfolding taken_leb copies_mark_of
    chosen_unequal q e a b = (a ∙ rw (← p, ← q), b ∙ rw (← p, ← q, e))

  -- a choice that names the LEB whose table is taken shows its records
  pub taken_records_lem : {k : Answer ℕ} → k ≡ taken_leb size unit pebs copy0 copy1
      → records_taken size k copy0 copy1 ≡ taken_records size unit pebs copy0 copy1
  unfolding taken_records
  taken_records_lem e = rw e
