-- Laws of the volume fields of a slip. Assumes nothing.
use mathlib.Core.Path.{◌≡◌, refl, sym}
use mathlib.Core.Bool.{Bool, true, false, not, cond, and-false, and-true}
use mathlib.Core.Option as math
use mathlib.Core.Option.{none}
use Rattle.std.proofs.Common.{Option, Some, None}
use mathlib.Core.List.{List, [], ◌∷◌}
use Prim.Native.Nat.{ℕ, suc, ◌+◌, ◌≤◌, ◌<◌}
use native.Mathlib.Numerals.{add-one}
use native.Mathlib.Omega.{arith}
use borrow.Author.Tests.{lt-leb, le-leb, leb-true}
use lib.Dec.{leb}
use lib.ListN.{length}
use Rattle.base.specs.Answers.{refused, all_of}
use Rattle.base.specs.Below.{first_below}
use Rattle.base.specs.Lists.{part, eqs}
use Rattle.base.proofs.Answers.{by_test, by_option, none_some, and_right}
use Rattle.base.proofs.Below.{first_is, first_before}
use Rattle.geometry.specs.Slip.{head_rules, head_read, ends_at}
use Rattle.report.specs.Scan.{when}
use Rattle.builder_rules.specs.Slip.{length_at, volume_field_at, field_start, volume_count, builder_slip, builder_geometry}

-- ---- one field

module _ (s : List ℕ) (at : ℕ) where
  abbrev pub end : ℕ
  end = at + (3 + length_at s at)

  -- the slip does not hold it
  pub not_held : length s < end → volume_field_at s at ≡ false
  unfolding volume_field_at
  not_held h = rw (lt-leb end (length s) h, and-false (eqs (part at 1 s) (16 ∷ [])))

  pub other_tag : eqs (part at 1 s) (16 ∷ []) ≡ false → volume_field_at s at ≡ false
  unfolding volume_field_at
  other_tag e = rw e

  pub is_field : eqs (part at 1 s) (16 ∷ []) ≡ true → end ≤ length s → volume_field_at s at ≡ true
  unfolding volume_field_at
  is_field e h = rw (e, le-leb end (length s) h)

  -- what an end says, found or not
  abbrev told : Option ℕ
  told = cond (volume_field_at s at) (Some end) None

  pub no_end : None ≡ told → volume_field_at s at ≡ false
  no_end e = by_test (volume_field_at s at) (λ q. cc (rw q at e)) (λ q. q)

  pub record Ended (e : ℕ) : Type 0 where
    pub there : volume_field_at s at ≡ true
    pub end_is : e ≡ end
    pub held : e ≤ length s

  pub ended : {e : ℕ} → Some e ≡ told → Ended e
  unfolding volume_field_at
  ended {e} p =
      by_test (volume_field_at s at)
      (λ q.
      let z : e ≡ end = cc (rw q at p) in
      record {
        there = q;
        end_is = z;
        held = rw z (leb-true end (length s) (and_right (eqs (part at 1 s) (16 ∷ [])) (leb end (length s)) q));
      })
      (λ q. cc (rw q at p))

-- ---- all fields

module _ (s : List ℕ) where
  -- the fields that are no volume fields
  abbrev pub other : ℕ → math.Option ℕ
  other i = when (not (volume_field_at s (field_start s i))) 0

  pub none_more : (i : ℕ) → first_below i other ≡ none → volume_field_at s (field_start s i) ≡ true
      → first_below (i + 1) other ≡ none
  none_more i e q = rw (add-one, e, q)

  pub count_is : (i : ℕ) → i ≤ length s → first_below i other ≡ none → volume_field_at s (field_start s i) ≡ false
      → i ≡ volume_count s
  unfolding volume_count
  count_is i h e q = rw (first_is other (suc (length s)) i 0 (omega arith) e (rw q))

  pub next_start : (i : ℕ) → end s (field_start s i) ≡ field_start s (i + 1)
  unfolding field_start
  next_start i = rw add-one

  pub first_start : 17 ≡ field_start s 0
  unfolding field_start
  first_start = refl

  -- every field before the first that is none is a volume field
  pub before_count : (i : ℕ) → i < volume_count s → volume_field_at s (field_start s i) ≡ true
  unfolding volume_count
  before_count i h =
      by_option (first_below (suc (length s)) other) (λ q. absurd (omega (arith, rw q at h)))
      (λ x q. was_field (volume_field_at s (field_start s i)) (first_before (suc (length s)) other x q i (rw q at h)))
    where
      was_field : (b : Bool) → when (not b) 0 ≡ none → b ≡ true
      was_field true e = refl
      was_field false e = none_some (sym e)

  pub field_held : (i : ℕ) → i < volume_count s → end s (field_start s i) ≤ length s
  unfolding volume_field_at
  field_held i h =
      let a : ℕ = field_start s i in
      leb-true (end s a) (length s) (and_right (eqs (part a 1 s) (16 ∷ [])) (leb (end s a) (length s))
      (before_count i h))

  -- a slip without a head has none
  pub short_none : length s < 17 → 0 ≡ volume_count s
  short_none h = count_is 0 (omega arith) refl (not_held s (field_start s 0) (omega (arith, first_start)))

  -- the tail decides, then the head
  pub no_tail : ends_at (field_start s (volume_count s)) s ≡ false → refused 1 0 ≡ builder_geometry s
  unfolding builder_geometry builder_slip
  no_tail e = rw (e, and-false (all_of (head_rules s)))

  pub head_decides : ends_at (field_start s (volume_count s)) s ≡ true → head_read s ≡ builder_geometry s
  unfolding builder_geometry builder_slip head_read
  head_decides e = rw (e, and-true (all_of (head_rules s)))
