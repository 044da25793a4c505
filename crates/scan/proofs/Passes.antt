-- Laws of the whole pass: totals, words and refusals grow PEB by PEB. Assumes nothing.
use mathlib.Core.Path.{◌≡◌, refl, sym, ap, ◌∙◌}
use mathlib.Core.Bool.{true, false, cond}
use mathlib.Core.Option.{Option, none, some}
use mathlib.Core.List.{List, ◌++◌}
use Prim.Native.Nat.{ℕ, suc, ◌+◌, ◌*◌, ◌-◌, ◌≤◌, ◌<◌}
use native.Mathlib.Numerals.{add-one}
use native.Mathlib.Omega.{arith}
use borrow.Author.Tests.{eqb-true, eqb-false}
use lib.Dec.{eqb}
use lib.ListN.{take, drop}
use Rattle.std.specs.Prelude.{Result, Ok, Err}
use Rattle.base.specs.Below.{unless_zero, first_below}
use Rattle.base.proofs.Answers.{by_test}
use Rattle.base.proofs.Below.{zero_at, nonzero_keeps, first_is}
use Rattle.base.proofs.Lists.{lent_part}
use Rattle.base.proofs.Rows.{rows_step, rows_tail}
use Rattle.geometry.specs.declared.Geometry.{Geometry}
use Rattle.header.specs.declared.EcHeader.{EcHeader}
use Rattle.words.specs.Words.{peb_stride, entry_stride, peb_words_needed, map_words_needed}
use Rattle.report.specs.View.{EcView, ec_good, ec_newer, ec_blank, ec_lost, Views, Medium, ecs, good_ec, view_of, peb_at, medium_of}
use Rattle.report.specs.Class.{is_unused}
use Rattle.report.specs.Scan.{image_seq_or0, image_seq_of, seq_disagrees, ec_refusal, view_refusal, refusal5678}
use Rattle.report.specs.Report.{counter_or, has_counter, highest_of, read_only_of}
use Rattle.report.specs.Scratch.{key_words, keys_of}
use Rattle.report.proofs.Words.{key_length}
use Rattle.peb_scan.specs.Seen.{small_counter}
use Rattle.scan.specs.Totals.{with_ec, with_vid, refusal_of}
use Rattle.scan.specs.Pass.{TotalsOf, first_row, first_words_of, PebPassed, Passed}
use Rattle.scan.specs.declared.EcTotals.{EcTotals}
use Rattle.scan.specs.declared.ScanTotals.{ScanTotals}
use Rattle.scan.proofs.OnePeb.{small_view}

-- ---- the image sequence

-- the sequence that a nonzero one is compared with is known once it is met
module _ (g : Geometry) (n i : ℕ) (vs : Views) (h : i < n) where
  seq_known :
      seq_disagrees (image_seq_of (suc i) vs) (image_seq_or0 (ecs vs i))
      ≡ seq_disagrees (image_seq_of n vs) (image_seq_or0 (ecs vs i))
  unfolding image_seq_of
  seq_known =
      let f : ℕ → ℕ = λ j. image_seq_or0 (ecs vs j) in
      by_test (eqb (f i) 0) (λ q. rw q)
      (λ q. rw (nonzero_keeps f n (suc i) (λ z. eqb-false (f i) 0 q (zero_at f (suc i) z i (omega arith))) h))

  ec_known : (x : EcView) → good_ec x ≡ ecs vs i → ec_refusal g (image_seq_of (suc i) vs) x ≡ ec_refusal g (image_seq_of n vs) x
  ec_known (ec_good e) p = rw (rw (← p) at seq_known)
  ec_known ec_newer p = refl
  ec_known ec_blank p = refl
  ec_known ec_lost p = refl

  view_known : view_refusal g (image_seq_of (suc i) vs) (vs i) ≡ view_refusal g (image_seq_of n vs) (vs i)
  unfolding view_refusal
  view_known = rw (ec_known (vs i).ec refl)

-- ---- the totals

-- what an EC header adds, where o is the good one, if there is one
record EcAdded (s s' : EcTotals) (o : Option EcHeader) : Type 0 where
  image_seq : s'.image_seq ≡ unless_zero s.image_seq (image_seq_or0 o)
  counters : s'.counters ≡ s.counters + counter_or 0 o
  good : s'.good ≡ s.good + cond (has_counter o) 1 0
  counters_small : s'.counters ≤ s'.good * 0x7FFFFFFF
  good_few : s'.good ≤ s.good + 1

module _ (i : ℕ) (vs : Views) (s : ScanTotals) (o : TotalsOf i vs s) where
  none_added : EcAdded s.ec s.ec none
  none_added = record {
    image_seq = by_test (eqb s.ec.image_seq 0) (λ q. rw q (eqb-true _ 0 q)) (λ q. rw q);
    counters = omega arith;
    good = omega arith;
    counters_small = o.counters_small;
    good_few = omega arith;
  }

  ec_added : (x : EcView) → small_counter x → EcAdded s.ec (with_ec s.ec x) (good_ec x)
  ec_added (ec_good h) l = record {
    image_seq = refl;
    counters = refl;
    good = refl;
    counters_small = omega (arith, o.counters_small);
    good_few = omega arith;
  }
  ec_added ec_newer l = none_added
  ec_added ec_blank l = none_added
  ec_added ec_lost l = none_added

  seq_step : small_counter (vs i).ec → (with_ec s.ec (vs i).ec).image_seq ≡ image_seq_of (suc i) vs
  unfolding image_seq_of
  seq_step small = rw (← o.image_seq) (ec_added (vs i).ec small).image_seq

  totals_step : small_counter (vs i).ec → {s' : ScanTotals} → s'.ec ≡ with_ec s.ec (vs i).ec
      → s'.vid ≡ with_vid s.vid (is_unused (vs i).ec (vs i).vid) (vs i).vid → TotalsOf (suc i) vs s'
  unfolding image_seq_of highest_of read_only_of
  totals_step small e f =
      let a = ec_added (vs i).ec small in
      record {
        image_seq = rw e (seq_step small);
        counters = rw (e, ← o.counters) a.counters;
        good = rw (e, ← o.good) a.good;
        highest = rw (f, o.highest);
        read_only = rw (f, o.read_only);
        unused = rw (f, o.unused);
        counters_small = rw e a.counters_small;
        good_few = rw e (omega (arith, a.good_few, o.good_few));
      }

pub totals_none : (vs : Views) (s : ScanTotals) → s.ec.image_seq ≡ 0 → s.ec.counters ≡ 0 → s.ec.good ≡ 0
    → s.vid.highest ≡ 0 → s.vid.read_only ≡ false → s.vid.unused ≡ true → TotalsOf 0 vs s
unfolding image_seq_of highest_of read_only_of
totals_none vs s a b c d e f = record {
  image_seq = a;
  counters = b;
  good = c;
  highest = d;
  read_only = e;
  unused = f;
  counters_small = omega arith;
  good_few = omega arith;
}

-- ---- the invariant of the pass

module _ (m : Medium) where
  abbrev refusal_at : ℕ → Option ℕ
  refusal_at j = view_refusal m.geometry (image_seq_of m.count m.views) (m.views j)

  abbrev key_row : ℕ → List ℕ
  key_row j = key_words j (m.views j).vid

pub record Passing (m : Medium) (i : ℕ) (s : ScanTotals) (pebs₀ pebs map₀ map : List ℕ) : Type 0 where
  pub totals : TotalsOf i m.views s
  pub none_yet : first_below i (refusal_at m) ≡ none
  pub pebs_are : pebs ≡ first_words_of i m.views ++ drop (peb_words_needed i) pebs₀
  pub map_is : map ≡ keys_of i m.views ++ drop (map_words_needed i) map₀

-- no PEB is passed yet
pub passing_none : (m : Medium) {s : ScanTotals} {pebs map : List ℕ} → TotalsOf 0 m.views s
    → Passing m 0 s pebs pebs map map
passing_none m o = record { totals = o; none_yet = refl; pebs_are = refl; map_is = refl }

module _ {m : Medium} {i : ℕ} {s : ScanTotals} {pebs₀ pebs map₀ map : List ℕ}
    (o : Passing m i s pebs₀ pebs map₀ map) where
  -- words beyond the PEBs stay
  pebs_beyond : i ≤ m.count → drop (peb_words_needed m.count) pebs ≡ drop (peb_words_needed m.count) pebs₀
  pebs_beyond h = rw o.pebs_are (rows_tail i m.count peb_stride (λ j. first_row (m.views j)) pebs₀ (λ j. refl) h)

  map_beyond : i ≤ m.count → drop (map_words_needed m.count) map ≡ drop (map_words_needed m.count) map₀
  map_beyond h =
      rw o.map_is (rows_tail i m.count entry_stride (key_row m) map₀ (λ j. key_length j (m.views j).vid) h)

-- all PEBs are passed
pub pass_whole : {m : Medium} {s : ScanTotals} {pebs₀ pebs map₀ map : List ℕ}
    → Passing m m.count s pebs₀ pebs map₀ map → Passed m (Ok s) pebs₀ pebs map₀ map
unfolding refusal5678
pass_whole o = record {
  refusal = rw o.none_yet;
  totals = o.totals;
  pebs_are = o.pebs_are;
  map_is = o.map_is;
  pebs_tail = pebs_beyond o (omega arith);
  map_tail = map_beyond o (omega arith);
}

-- PEB i of an image, passed after those before it; what is lent is a part of the image
module _ (g : Geometry) (n : ℕ) (image : List ℕ) where
  abbrev medium : Medium
  medium = medium_of g n image

  abbrev lent_peb : ℕ → List ℕ
  lent_peb i = take (i * g.peb_size + g.peb_size - i * g.peb_size) (drop (i * g.peb_size) image)

  module _ {i : ℕ} {s : ScanTotals} {pebs₀ pebs map₀ map : List ℕ} (o : Passing medium i s pebs₀ pebs map₀ map)
      (h : i < n) {t : Result ScanTotals ℕ} {pebs' map' : List ℕ}
      (u : PebPassed g i (view_of g (lent_peb i)) s t pebs pebs' map map') where
    view_is : view_of g (lent_peb i) ≡ medium.views i
    view_is = ap (view_of g) (lent_part (i * g.peb_size) g.peb_size image)

    refusal_is : refusal_of t ≡ refusal_at medium i
    refusal_is =
        let q = seq_step i medium.views s o.totals (small_view g (peb_at g image i)) in
        u.refusal ∙ rw (view_is, q, view_known g n i medium.views h)

    -- the pass goes on
    pub pass_on : {s' : ScanTotals} → t ≡ Ok s' → Passing medium (i + 1) s' pebs₀ pebs' map₀ map'
    pass_on {s'} z =
        let w = rw (view_is, z) at u in
        rw add-one (record {
          totals = totals_step i medium.views s o.totals (small_view g (peb_at g image i)) w.ec w.vid;
          none_yet = rw (o.none_yet, ← refusal_is, z);
          pebs_are = w.pebs_are ∙ rw o.pebs_are
              (rows_step i peb_stride (λ j. first_row (medium.views j)) pebs₀ (λ j. refl));
          map_is = w.map_is ∙ rw o.map_is
              (rows_step i entry_stride (key_row medium) map₀ (λ j. key_length j (medium.views j).vid));
        })

    -- the PEB refuses the image
    pub pass_refused : {k : ℕ} → t ≡ Err k → Passed medium (Err (record { number = k; place = i })) pebs₀ pebs' map₀ map'
    unfolding refusal5678
    pass_refused {k} z =
        let w = rw z at u in
        let q : refusal_at medium i ≡ some k = sym refusal_is ∙ rw z in
        record {
          refusal = sym (rw (first_is (refusal_at medium) n i k h o.none_yet q));
          totals = tt;
          pebs_are = tt;
          map_is = tt;
          pebs_tail = rw w.pebs_are (pebs_beyond o (omega arith));
          map_tail = rw w.map_is (map_beyond o (omega arith));
        }
