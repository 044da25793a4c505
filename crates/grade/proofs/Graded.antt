-- The tests of the report's words come to its grade. Assumes nothing.
use mathlib.Core.Path.{◌≡◌, refl, sym, ap, ◌∙◌}
use mathlib.Core.Bool.{Bool, true, false, not, ◌&&◌, ◌||◌, cond, true≢false}
use mathlib.Core.Option.{Option, none, some}
use mathlib.Core.List.{List, [], ◌∷◌, ◌++◌}
use Prim.Native.Nat.{ℕ, zero, suc, ◌≤◌, ◌<◌}
use native.Mathlib.Numerals.{add-one}
use Rattle.std.proofs.Common.{zero-add}
use native.Mathlib.Omega.{arith}
use borrow.Author.Tests.{ne_eqb}
use lib.Dec.{eqb}
use lib.ListN.{length, take, drop, get_or, take-append-drop}
use Rattle.std.specs.List.{list_all, range_with_len}
use Rattle.std.proofs.lemmas.List.Folds.{list_all_more}
use Rattle.std.proofs.lemmas.List.FromFn.{length-range_with_len, get_or-range_with_len}
use lib.Seq.{get_or-take, take_all}
use Rattle.base.specs.Below.{all_below, concat_below}
use Rattle.base.proofs.Below.{all_cong}
use Rattle.base.proofs.Lists.{table_at}
use Rattle.header.specs.declared.EcHeader.{EcHeader}
use Rattle.words.specs.Words.{no_word, peb_words_needed, state_words_needed}
use Rattle.words.proofs.Laws.{class_at_lem, counter_at_lem}
use Rattle.report.specs.View.{Medium, ecs}
use Rattle.report.specs.Report.{counter_or, has_counter, class_at, counter_at, state_at, mark, grade_of}
use Rattle.report.specs.Attach.{peb_words, state_words}
use Rattle.grade.specs.Words.{sound_peb, sound_state, Read}

-- ---- tests of all items of a list

all_taken : (p : ℕ → Bool) (xs : List ℕ) (n : ℕ) → n ≤ length xs
    → list_all p (take n xs) ≡ all_below n (λ i. p (get_or xs i 0))
all_taken p xs zero h = refl
all_taken p xs (suc n) h =
    rw (← add-one) (list_all_more p xs n 0 (omega arith))
    ∙ ap (λ b. b && p (get_or xs n 0)) (all_taken p xs n (omega arith))

pub all_in_range : (p : ℕ → Bool) (n : ℕ) → list_all p (range_with_len 0 n) ≡ all_below n p
all_in_range p n =
    let xs = range_with_len 0 n in
    let l : length xs ≡ n = length-range_with_len 0 n in
    rw (take_all n xs (omega arith)) at (all_taken p xs n (omega arith))
    ∙ all_cong n _ p (λ i h. ap p (get_or-range_with_len 0 n i 0 h ∙ zero-add i))

-- the first states
pub all_states : (states : List ℕ) → state_words_needed ≤ length states
    → list_all (λ s. not (eqb s 2 || eqb s 3)) (take state_words_needed states)
    ≡ all_below state_words_needed (sound_state states)
all_states states h = all_taken (λ s. not (eqb s 2 || eqb s 3)) states state_words_needed h

-- the word of a counter tells if there is one
counter_told : (o : Option EcHeader) → (counter_or no_word o ≡ no_word → has_counter o ≡ false)
    → not (eqb (counter_or no_word o) no_word) ≡ has_counter o
counter_told none h = refl
counter_told (some e) h = rw (ne_eqb e.counter no_word (λ (q : e.counter ≡ no_word). true≢false (h q)))

swap : (a b c d : Bool) → (a && b) && (c && d) ≡ (a && c) && (b && d)
swap true true c d = refl
swap true false true d = refl
swap true false false d = refl
swap false b c d = refl

-- two tests at once
all_both : (n : ℕ) (p q : ℕ → Bool) → all_below n (λ i. p i && q i) ≡ all_below n p && all_below n q
all_both zero p q = refl
all_both (suc n) p q = rw (all_both n p q) (swap (all_below n p) (all_below n q) (p n) (q n))

-- the tests in the order of the code, and in that of the definition
reorder : (a b k s : Bool) → ◌≡◌ {A = ℕ} (cond (k && ((a && b) && s)) 0 1) (cond (a && (b && (k && s))) 0 1)
reorder true true k s = refl
reorder true false true s = refl
reorder true false false s = refl
reorder false b true s = refl
reorder false b false s = refl

module _ {m : Medium} {pebs states : List ℕ} {marked : ℕ} (o : Read m pebs states marked) where
  abbrev row : ℕ → List ℕ
  row i = class_at m i ∷ counter_at m i ∷ []

  -- what is asked of a PEB, and of a state
  abbrev readable : ℕ → Bool
  readable i = not (eqb (class_at m i) 4)

  abbrev counted : ℕ → Bool
  counted i = eqb (class_at m i) 3 || has_counter (ecs m.views i)

  abbrev healthy : ℕ → Bool
  healthy v = not (eqb (state_at m v) 2 || eqb (state_at m v) 3)

  rows : pebs ≡ concat_below m.count row ++ drop (peb_words_needed m.count) pebs
  unfolding peb_words
  rows =
      let k = peb_words_needed m.count in
      sym (take-append-drop k pebs) ∙ ap (λ (x : List ℕ). x ++ drop k pebs) o.pebs_are

  peb_is : (i : ℕ) → i < m.count → sound_peb pebs i ≡ readable i && counted i
  unfolding counter_at
  peb_is i h =
      rw (
        class_at_lem m.count row _ rows (λ j. refl) i h,
        counter_at_lem m.count row _ rows (λ j. refl) i h,
        counter_told (ecs m.views i) (o.lost_only i h),
      )

  pebs_are : all_below m.count (sound_peb pebs) ≡ all_below m.count readable && all_below m.count counted
  pebs_are =
      all_cong m.count (sound_peb pebs) (λ (i : ℕ). readable i && counted i) peb_is
      ∙ all_both m.count readable counted

  state_is : (v : ℕ) → v < state_words_needed → get_or states v 0 ≡ state_at m v
  unfolding state_words
  state_is v h =
      sym (get_or-take state_words_needed states v 0 h)
      ∙ rw o.states_are (table_at (state_at m) 0 state_words_needed v h)

  states_are : all_below state_words_needed (sound_state states) ≡ all_below state_words_needed healthy
  states_are = all_cong state_words_needed (sound_state states) healthy (λ v h. rw (state_is v h))

  -- the tests of the words
  pub graded : (b : Bool)
      → eqb marked 0 && (all_below m.count (sound_peb pebs) && all_below state_words_needed (sound_state states)) ≡ b
      → cond b 0 1 ≡ grade_of m
  unfolding grade_of
  graded b e =
      let k = eqb marked 0 in
      let a : eqb (mark m) 0 ≡ k = ap (λ (x : ℕ). eqb x 0) (sym o.mark_is) in
      rw (← e, a, pebs_are, states_are) (reorder (all_below m.count readable) (all_below m.count counted) k _)
