-- Laws of refusal 21. Assumes nothing.
use mathlib.Core.Path.{◌≡◌, refl, sym, ◌∙◌}
use mathlib.Core.Logic.{◌≢◌}
use mathlib.Core.Bool.{Bool, true, false, and-true}
use mathlib.Core.List.{List}
use Rattle.std.proofs.Common.{sum}
use Prim.Native.Nat.{ℕ, zero, suc, ◌+◌, ◌-◌, ◌*◌, ◌^◌, ◌≤◌, ◌<◌}
use native.Mathlib.Numerals.{add-one}
use native.Mathlib.Omega.{arith}
use Rattle.std.proofs.lemmas.List.Sums.{sum_by_more}
use lib.Seq.{take_all}
use borrow.Author.Tests.{lt-leb, eq-eqb, ne_eqb}
use lib.Dec.{leb}
use lib.ListN.{length, take, drop, get_or}
use Rattle.base.specs.Answers.{all_of}
use Rattle.base.specs.Below.{all_below, sum_below}
use Rattle.base.proofs.Answers.{one_broken}
use Rattle.base.proofs.Below.{all_fails}
use Rattle.base.proofs.Lists.{lent_part}
use Rattle.field.specs.Fields.{row, number_in}
use Rattle.volume_record.specs.Fields.{record_fields}
use Rattle.volume_record.specs.Record.{record_of}
use Rattle.volume_table.specs.Table.{record_at}
use Rattle.builder_rules.specs.Blocks.{BuildPlan, volume_of, length_of}
use Rattle.builder_rules.specs.Build.{content_rules}

-- ---- the sum of a list

sum_before : (xs : List ℕ) (n : ℕ) → n ≤ length xs → sum (take n xs) ≡ sum_below n (λ i. get_or xs i 0)
sum_before xs zero h = refl
sum_before xs (suc n) h =
    rw add-one at (sum_by_more (λ (x : ℕ). x) xs n 0 (omega arith)) ∙ rw (sum_before xs n (omega arith))

-- numbers of 32 bits
pub sum_small : (n : ℕ) (f : ℕ → ℕ) → ((i : ℕ) → f i < 2 ^ 32) → sum_below n f ≤ n * 2 ^ 32
sum_small zero f h = omega arith
sum_small (suc n) f h = omega (arith, sum_small n f h, h n)

pub sum_is : (xs : List ℕ) → sum xs ≡ sum_below (length xs) (λ i. get_or xs i 0)
sum_is xs = rw (take_all (length xs) xs (omega arith)) at (sum_before xs (length xs) (omega arith))

-- ---- a record's numbers, read in the table

module _ (t : List ℕ) (v : ℕ) where
  abbrev there : List ℕ
  there = take (172 * v + 172 - 172 * v) (drop (172 * v) t)

  pub pad_read : {x : ℕ} → x ≡ number_in (row record_fields 2) there → x ≡ (record_of (record_at t v)).data_pad
  unfolding record_of
  pad_read e = rw lent_part at e

  pub reserved_read : {x : ℕ} → x ≡ number_in (row record_fields 0) there → x ≡ (record_of (record_at t v)).reserved
  unfolding record_of
  reserved_read e = rw lent_part at e

-- what the LEBs of volume v hold
abbrev pub holds : List ℕ → ℕ → ℕ → ℕ
holds t size v = (record_of (record_at t v)).reserved * (size - (record_of (record_at t v)).data_pad)

-- ---- all volumes

module _ (t : List ℕ) (size : ℕ) (lengths : List ℕ) where
  abbrev pub fits : ℕ → Bool
  fits v = leb (get_or lengths v 0) (holds t size v)

  pub too_long : (n v : ℕ) → v < n → holds t size v < get_or lengths v 0 → false ≡ all_below n fits
  too_long n v h k = sym (all_fails n fits v h (lt-leb (get_or lengths v 0) (holds t size v) k))

-- ---- the rules

module _ (b : BuildPlan) where
  broken : (k : ℕ) → get_or (content_rules b) k true ≡ false → false ≡ all_of (content_rules b)
  broken k e = sym (one_broken (content_rules b) k e)

  pub other_count : length b.lengths ≢ b.volumes → false ≡ all_of (content_rules b)
  unfolding content_rules
  other_count h = broken 0 (ne_eqb (length b.lengths) b.volumes h)

  pub other_sum : length b.lengths ≡ b.volumes → {x : ℕ} → x ≡ sum_below (length b.lengths) (length_of b)
      → x ≢ length b.contents → false ≡ all_of (content_rules b)
  unfolding content_rules
  other_sum e q h = broken 1 (rw (← e, ← q) (ne_eqb _ (length b.contents) h))

  pub lengths_decide : length b.lengths ≡ b.volumes → {x : ℕ} → x ≡ sum_below (length b.lengths) (length_of b)
      → x ≡ length b.contents → {r : Bool}
      → r ≡ all_below (length b.lengths) (fits b.table b.geometry.leb_size b.lengths) → r ≡ all_of (content_rules b)
  unfolding content_rules volume_of
  lengths_decide e q h d =
      d ∙ rw (← e, ← q, eq-eqb (length b.lengths) (length b.lengths) refl, eq-eqb _ (length b.contents) h)
      (sym (and-true (all_below (length b.lengths) (fits b.table b.geometry.leb_size b.lengths))))
