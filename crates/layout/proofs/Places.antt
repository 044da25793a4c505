-- The place of a LEB is the PEB that is chosen for it in the words. Assumes nothing.
use mathlib.Core.Path.{◌≡◌, refl, sym, ap₂, ◌∙◌}
use mathlib.Core.Bool.{true, false}
use mathlib.Core.Option.{none, some}
use mathlib.Core.List.{List}
use Prim.Native.Nat.{ℕ, ◌<◌}
use native.Mathlib.Omega.{arith}
use borrow.Author.Tests.{eq-eqb, eqb-true}
use lib.Dec.{eqb}
use Rattle.base.proofs.Answers.{clash, by_test, by_option, and_left, and_right}
use Rattle.words.specs.Words.{class_word, volume_word}
use Rattle.words.proofs.Laws.{class_at_lem}
use Rattle.geometry.specs.declared.Geometry.{Geometry}
use Rattle.report.specs.View.{Copy, EcView, ec_good, ec_newer, ec_blank, ec_lost, VidView, vid_good, vid_newer, vid_blank, vid_bad, Views, medium_of, views_of, good_vid, is_mappable}
use Rattle.report.specs.Volumes.{Places}
use Rattle.report.specs.Report.{is_place, places}
use Rattle.report.specs.Scratch.{marked_class}
use Rattle.copies.specs.InPlace.{copy_at}
use Rattle.copies.proofs.Copies.{copy_at_lem}
use Rattle.choice.proofs.Words.{has_words}
use Rattle.report.proofs.Facts.{place_is}
use Rattle.choice.proofs.Marks.{class_of}
use Rattle.layout.specs.Layout.{is_chosen, FoundAt, Chosen}

-- a marked class of 1 is a chosen copy's
record MarkedCopy (ps : Places) (i : ℕ) (v : VidView) : Type 0 where
  pub copy : Copy
  pub is : good_vid v ≡ some copy
  pub mappable : is_mappable copy.header.volume ≡ true
  pub place : ps copy.header.volume copy.header.lnum ≡ some i

marked_copy : (ps : Places) (i : ℕ) (e : EcView) (v : VidView) → marked_class ps i e v ≡ 1 → MarkedCopy ps i v
marked_copy ps i e (vid_good c) q =
    by_test (is_mappable c.header.volume)
    (λ a. by_test (is_place (ps c.header.volume c.header.lnum) i)
    (λ b. record { copy = c; is = refl; mappable = a; place = place_is _ i b })
    (λ b. absurd (omega (arith, rw (a, b) at q))))
    (λ a. by_test (eqb c.header.compat 1) (λ b. absurd (omega (arith, rw (a, b) at q)))
    (λ b. absurd (omega (arith, rw (a, b) at q))))
marked_copy ps i (ec_good h) vid_blank q = absurd (omega arith)
marked_copy ps i ec_newer vid_blank q = absurd (omega arith)
marked_copy ps i ec_blank vid_blank q = absurd (omega arith)
marked_copy ps i ec_lost vid_blank q = absurd (omega arith)
marked_copy ps i e vid_newer q = absurd (omega arith)
marked_copy ps i e vid_bad q = absurd (omega arith)

module _ {g : Geometry} {image : List ℕ} {n : ℕ} {map pebs : List ℕ} (o : Chosen g image n map pebs) where
  abbrev pl : Places
  pl = places (medium_of g n image)

  abbrev vs : Views
  vs = views_of g image

  class_word_lem : (j : ℕ) → j < n → class_word pebs j ≡ marked_class pl j (vs j).ec (vs j).vid
  class_word_lem j h = class_at_lem n _ _ o.pebs_are (λ i. refl) j h

  chosen_word : (v l j : ℕ) → j < n → is_chosen pebs map v l j ≡ true → pl v l ≡ some j
  chosen_word v l j h e =
      let a = and_left (eqb (class_word pebs j) 1) _ e in
      let b = and_right (eqb (class_word pebs j) 1) _ e in
      let k = marked_copy pl j (vs j).ec (vs j).vid (sym (class_word_lem j h) ∙ eqb-true _ _ a) in
      let w = has_words o.keyed j h k.copy k.is k.mappable in
      sym (ap₂ pl (sym w.0 ∙ eqb-true _ _ (and_left (eqb (volume_word map j) v) _ b))
      (sym w.1 ∙ eqb-true _ _ (and_right (eqb (volume_word map j) v) _ b)))
      ∙ k.place

  word_chosen : (v l p : ℕ) → is_mappable v ≡ true → pl v l ≡ some p → (p < n) × (is_chosen pebs map v l p ≡ true)
  word_chosen v l p m e =
      let c = copy_at g image p in
      let a = copy_at_lem g n image v l p e in
      let mc : is_mappable c.header.volume ≡ true = rw a.volume m in
      let pc : pl c.header.volume c.header.lnum ≡ some p = ap₂ pl a.volume a.lnum ∙ e in
      let w = has_words o.keyed p a.below c a.is mc in
      let k : class_word pebs p ≡ 1 =
      class_word_lem p a.below ∙ class_of _ (vs p).ec (vs p).vid c a.is mc ∙ rw (pc, eq-eqb p p refl) in
      (a.below, rw (eq-eqb (class_word pebs p) 1 k, eq-eqb _ _ (w.0 ∙ a.volume), eq-eqb _ _ (w.1 ∙ a.lnum)))

  pub found_some : {v l r : ℕ} → FoundAt pebs map n v l r → pl v l ≡ some r
  found_some {v} {l} {r} f = chosen_word v l r f.range f.is

  pub found_none : (v l : ℕ) → is_mappable v ≡ true → ((j : ℕ) → j < n → is_chosen pebs map v l j ≡ false)
      → pl v l ≡ none
  found_none v l m f =
      by_option (pl v l) (λ q. q) (λ p q. let w = word_chosen v l p m q in clash (f p w.0) w.1)
