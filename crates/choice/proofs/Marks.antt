-- Laws of choosing a LEB's copy once, and marking it. Assumes nothing.
use mathlib.Core.Path.{◌≡◌, refl, sym, ap, ap₂, ◌∙◌}
use mathlib.Core.Logic.{◌≢◌, inl, inr, ⊎_elim}
use mathlib.Core.Bool.{true}
use mathlib.Core.Option.{Option, some}
use mathlib.Core.List.{List, [], ◌∷◌, ◌++◌}
use Prim.Native.Nat.{ℕ, zero, suc, ◌+◌, ◌*◌, ◌≤◌, ◌<◌}
use native.Mathlib.Omega.{arith}
use borrow.Author.Tests.{eq-eqb}
use lib.ListN.{length, get_or, set, drop, length-set}
use Rattle.base.specs.Below.{any_below, concat_below}
use Rattle.base.proofs.Answers.{none_some, by_test}
use Rattle.base.proofs.Below.{eq_or_ne, one_more, any_hit}
use Rattle.words.specs.Words.{no_word, peb_stride, peb_words_needed, class_word, volume_word, lnum_word}
use Rattle.words.proofs.Laws.{class_set_same, class_set_other, class_set_counter, class_set_tail, class_at_lem, counter_at_lem}
use Rattle.geometry.specs.declared.Geometry.{Geometry}
use Rattle.report.proofs.Facts.{place_is}
use Rattle.report.specs.View.{Copy, EcView, VidView, vid_good, vid_newer, vid_blank, vid_bad, Views, Medium, medium_of, ecs, ec_good, ec_newer, ec_blank, ec_lost, copies, good_vid, is_mappable}
use Rattle.report.specs.Class.{class_by, first_class}
use Rattle.report.specs.Choice.{chosen}
use Rattle.report.specs.Volumes.{places_of}
use Rattle.report.specs.Report.{places, counter_or, is_place}
use Rattle.report.specs.Scratch.{marked_class, marked_words}
use Rattle.report.proofs.Choice.{chosen_at}
use Rattle.copies.specs.InPlace.{copy_at}
use Rattle.choice.specs.Keyed.{Holds, Keyed, same_leb}
use Rattle.choice.specs.Marking.{MarkedTo}
use Rattle.choice.proofs.Words.{held, has_words, same_true, mappable_word}
use Rattle.choice.proofs.Rows.{rows_there}

-- the class of a copy of a user or layout LEB
pub class_of : (f : Copy → ℕ) (e : EcView) (v : VidView) (c : Copy) → good_vid v ≡ some c
    → is_mappable c.header.volume ≡ true → class_by f e v ≡ f c
class_of f e (vid_good d) c q m = let z : d ≡ c = cc in rw (z, m)
class_of f e vid_newer c q m = none_some q
class_of f e vid_blank c q m = none_some q
class_of f e vid_bad c q m = none_some q

-- two rules that agree on them give one class
class_same : (f h : Copy → ℕ) (e : EcView) (v : VidView)
    → ((c : Copy) → good_vid v ≡ some c → is_mappable c.header.volume ≡ true → f c ≡ h c)
    → class_by f e v ≡ class_by h e v
class_same f h e (vid_good c) k = by_test (is_mappable c.header.volume) (λ m. rw m (k c refl m)) (λ m. rw m)
class_same f h e vid_newer k = refl
class_same f h (ec_good x) vid_blank k = refl
class_same f h ec_newer vid_blank k = refl
class_same f h ec_blank vid_blank k = refl
class_same f h ec_lost vid_blank k = refl
class_same f h e vid_bad k = refl

-- after the first pass
pub marked_none : {m : Medium} {map pebs : List ℕ} → peb_words_needed m.count ≤ length pebs
    → pebs ≡ concat_below m.count
    (λ i. first_class (m.views i).ec (m.views i).vid ∷ counter_or no_word (ecs m.views i) ∷ [])
    ++ drop (peb_words_needed m.count) pebs
    → MarkedTo m map pebs 0
marked_none {m} l e = record {
  long = l;
  counters = counter_at_lem m.count _ _ e (λ i. refl);
  classes = λ p h. inl (class_at_lem m.count _ _ e (λ i. refl) p h);
  chosen = λ k h. absurd (omega arith);
}

module _ {m : Medium} {map pebs : List ℕ} {i : ℕ} (o : MarkedTo m map pebs i) where
  -- the chosen copy of PEB k's LEB is marked
  abbrev Mark : List ℕ → ℕ → Type 0
  Mark ws k =
      Holds map k → (p : ℕ)
      → places m (volume_word map k) (lnum_word map k) ≡ some p → class_word ws p ≡ 1

  marked_on : Mark pebs i → MarkedTo m map pebs (i + 1)
  marked_on f = record {
    long = o.long;
    counters = o.counters;
    classes = o.classes;
    chosen = one_more (Mark pebs) i o.chosen f;
  }

  pub marked_other : volume_word map i ≡ no_word → MarkedTo m map pebs (i + 1)
  marked_other e = marked_on (λ c. absurd (c e))

  pub marked_lower : any_below i (same_leb map i) ≡ true → MarkedTo m map pebs (i + 1)
  marked_lower e =
      let k = any_hit i (same_leb map i) e in
      let s = same_true map i k.0 k.2 in
      marked_on
      (λ c p q. o.chosen k.0 k.1 (λ (z : volume_word map k.0 ≡ no_word). c (s.0 ∙ z)) p
      (sym (ap₂ (places m) s.0 s.1) ∙ q))

-- r is chosen for the LEB of PEB i
module _ {g : Geometry} {image : List ℕ} {n : ℕ} {map pebs : List ℕ} {i : ℕ}
    (o : MarkedTo (medium_of g n image) map pebs i)
    (d : Keyed g image n map) (h : i < n) (c : Holds map i) {r : ℕ}
    (e : chosen n (copies (medium_of g n image).views) (volume_word map i) (lnum_word map i) ≡ some (r, copy_at g image r))
    (l : r < n) where
  abbrev m : Medium
  m = medium_of g n image

  abbrev pebs₁ : List ℕ
  pebs₁ = set pebs (r * peb_stride) 1

  place : places m (volume_word map i) (lnum_word map i) ≡ some r
  unfolding places_of
  place = rw e

  is_one : marked_class (places m) r (m.views r).ec (m.views r).vid ≡ 1
  is_one =
      let a = chosen_at n (copies m.views) (volume_word map i) (lnum_word map i) r (copy_at g image r) e in
      let k = held d i h c in
      let w : is_mappable (copy_at g image r).header.volume ≡ true =
      ap is_mappable (a.2 ∙ sym k.volume) ∙ k.mappable in
      let p : places m (copy_at g image r).header.volume (copy_at g image r).header.lnum ≡ some r =
      ap₂ (places m) a.2 a.3 ∙ place in
      class_of _ (m.views r).ec (m.views r).vid (copy_at g image r) a.1 w ∙ rw (p, eq-eqb r r refl)

  set_here : class_word pebs₁ r ≡ 1
  set_here = class_set_same pebs r 1 (let z = o.long in omega arith)

  set_there : (p : ℕ) → p ≢ r → class_word pebs₁ p ≡ class_word pebs p
  set_there = class_set_other pebs r 1

  marked_same : MarkedTo m map pebs₁ i
  marked_same = record {
    long = let z = length-set pebs (r * peb_stride) 1 in let y = o.long in omega arith;
    counters = λ p k. class_set_counter pebs r 1 p ∙ o.counters p k;
    classes = λ p k. ⊎_elim
        (λ (q : p ≡ r). inr (rw q (set_here ∙ sym is_one)))
        (λ (q : p ≢ r). ⊎_elim (λ a. inl (set_there p q ∙ a)) (λ b. inr (set_there p q ∙ b)) (o.classes p k))
        (eq_or_ne p r);
    chosen =
        λ k q z p y. ⊎_elim (λ (x : p ≡ r). rw x set_here) (λ (x : p ≢ r). set_there p x ∙ o.chosen k q z p y)
        (eq_or_ne p r);
  }

  pub marked_one : (MarkedTo m map pebs₁ (i + 1)) × (drop (peb_words_needed n) pebs₁ ≡ drop (peb_words_needed n) pebs)
  marked_one = (
    marked_on marked_same (λ _ p q. let z : some p ≡ some r = sym q ∙ place in let y : p ≡ r = cc in rw y set_here),
    class_set_tail pebs r 1 n l,
  )

-- all are marked
module _ {g : Geometry} {image : List ℕ} {n : ℕ} {map pebs : List ℕ} (o : MarkedTo (medium_of g n image) map pebs n)
    (d : Keyed g image n map) where
  abbrev pl : ℕ → ℕ → Option ℕ
  pl = places (medium_of g n image)

  abbrev vs : Views
  vs = (medium_of g n image).views

  -- a class of the first pass is the marked one
  class_is : (p : ℕ) → p < n → class_word pebs p ≡ marked_class pl p (vs p).ec (vs p).vid
  class_is p h =
      ⊎_elim
      (λ (a : class_word pebs p ≡ first_class (vs p).ec (vs p).vid).
      a ∙ class_same _ _ (vs p).ec (vs p).vid (λ c q w. by_test (is_place (pl c.header.volume c.header.lnum) p)
      (λ b. let x = has_words d p h c q w in
      let z : Holds map p = λ z. mappable_word c.header.volume w (sym x.0 ∙ z) in
      let one = o.chosen p h z p (ap₂ pl x.0 x.1 ∙ place_is _ p b) in
      absurd (omega (arith, a ∙ class_of _ (vs p).ec (vs p).vid c q w)))
      (λ b. rw b)))
      (λ b. b) (o.classes p h)

  row_is : (i j : ℕ) → i < n → j < 2 → get_or pebs (i * 2 + j) 0
      ≡ get_or (marked_class pl i (vs i).ec (vs i).vid ∷ counter_or no_word (ecs vs i) ∷ []) j 0
  row_is i zero h k = let z : i * 2 + 0 ≡ i * 2 = omega arith in rw z (class_is i h)
  row_is i (suc zero) h k = o.counters i h
  row_is i (suc (suc j)) h k = absurd (omega arith)

  pub marked_all : (pebs₀ : List ℕ) → drop (peb_words_needed n) pebs ≡ drop (peb_words_needed n) pebs₀
      → pebs ≡ marked_words pl n vs ++ drop (peb_words_needed n) pebs₀
  marked_all pebs₀ t =
      sym (rows_there 2 _ pebs (λ i. refl) n o.long row_is) ∙ ap (λ (x : List ℕ). marked_words pl n vs ++ x) t
