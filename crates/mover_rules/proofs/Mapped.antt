-- Refusal 14: which LEBs are in the map, and the copy that is moved. Assumes nothing.
use mathlib.Core.Path.{◌≡◌, refl, sym, ◌∙◌, ap}
use mathlib.Core.Logic.{◌⊎◌, inl, inr, ⊎_elim}
use mathlib.Core.Bool.{true, ◌&&◌, false≢true}
use mathlib.Core.Option.{Option, none, some}
use mathlib.Core.List.Memᴰ
use mathlib.Core.List.{List, [], ◌∷◌, Memᴰ}
use Prim.Native.Nat.{ℕ}
use lib.Dec.{eqb}
use borrow.Author.Tests.{eqb-true, eq-eqb}
use Rattle.base.specs.Answers.{map_o}
use Rattle.base.proofs.Answers.{by_test, and_left, and_right, or_true_cases, or_true_right, none_some}
use Rattle.report.specs.View.{Copy, Medium, copies}
use Rattle.report.specs.Choice.{chosen}
use Rattle.report.specs.Volumes.{places_of, Entry, map_of}
use Rattle.report.specs.Report.{places, records, entries}
use Rattle.report.proofs.Choice.{chosen_at}
use Rattle.report.proofs.Map.{in_map}
use Rattle.mover_rules.specs.Begin.{is_in, mapped}

-- what is in the list has an entry there, and an entry puts its LEB in
pub in_list : (v l : ℕ) (es : List Entry) → is_in v l es ≡ true
    → (e : Entry) × Memᴰ e es × (e.volume ≡ v) × (e.lnum ≡ l)
in_list v l [] q = absurd (false≢true q)
in_list v l (e ∷ es) q =
    ⊎_elim
    (λ (h : eqb e.volume v && eqb e.lnum l ≡ true). (
      e,
      Memᴰ.head refl,
      eqb-true e.volume v (and_left (eqb e.volume v) (eqb e.lnum l) h),
      eqb-true e.lnum l (and_right (eqb e.volume v) (eqb e.lnum l) h),
    ))
    (λ (h : is_in v l es ≡ true). let r = in_list v l es h in (r.0, Memᴰ.tail r.1, r.2, r.3))
    (or_true_cases (eqb e.volume v && eqb e.lnum l) (is_in v l es) q)

pub entry_in : (e : Entry) (es : List Entry) → Memᴰ e es → is_in e.volume e.lnum es ≡ true
entry_in e [] m = absurd (Memᴰ.not-nil m)
entry_in e (x ∷ es) m = go (Memᴰ.cases_cons m) (entry_in e es)
  where
    go : (e ≡ x) ⊎ Memᴰ e es → (Memᴰ e es → is_in e.volume e.lnum es ≡ true)
        → is_in e.volume e.lnum (x ∷ es) ≡ true
    go (inl q) f = rw (← q, eq-eqb e.volume e.volume refl, eq-eqb e.lnum e.lnum refl)
    go (inr k) f = or_true_right (eqb x.volume e.volume && eqb x.lnum e.lnum) (is_in e.volume e.lnum es) (f k)

module _ (m : Medium) where
  abbrev picked : ℕ → ℕ → Option (ℕ × Copy)
  picked = chosen m.count (copies m.views)

  -- the copy of an entry's PEB is the one that is moved
  pub mapped_at : (e : Entry) → Memᴰ e (entries m) → (c : Copy) → copies m.views e.peb ≡ some c
      → mapped m e.volume e.lnum ≡ some (e.peb, c)
  unfolding mapped entries map_of places_of
  mapped_at e k c q = rw (entry_in e (entries m) k)
      (go (picked e.volume e.lnum) refl (in_map 128 2 (records m) (places m) e k).place)
    where
      go : (x : Option (ℕ × Copy)) → picked e.volume e.lnum ≡ x → map_o (λ (y : ℕ × Copy). y.0) x ≡ some e.peb
          → x ≡ some (e.peb, c)
      go none p r = none_some r
      go (some x) p r =
          let z : x.0 ≡ e.peb = cc in
          let h = chosen_at m.count (copies m.views) e.volume e.lnum x.0 x.1 p in
          let w : some x.1 ≡ some c = sym h.1 ∙ ap (copies m.views) z ∙ q in
          let y : x.1 ≡ c = cc in
          rw (← z, ← y)

  -- a LEB that no entry has is refusal 14
  pub mapped_none : (v l : ℕ) → ((e : Entry) → Memᴰ e (entries m) → e.volume ≡ v → e.lnum ≡ l → ⊥)
      → mapped m v l ≡ none
  unfolding mapped
  mapped_none v l h =
      by_test (is_in v l (entries m)) (λ q. let r = in_list v l (entries m) q in absurd (h r.0 r.1 r.2 r.3)) (λ q. rw q)
