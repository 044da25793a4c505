-- Laws of how attaching ends: lent words after it, the mean, refusals in their order. Assumes nothing.
use mathlib.Core.Path.{◌≡◌, refl, sym, ap, ap₂, ◌∙◌}
use mathlib.Core.Bool.{Bool, true, false, cond}
use mathlib.Core.Option.{Option, none, some}
use mathlib.Core.List.{List, ◌++◌}
use Prim.Native.Nat.{ℕ, ◌+◌, ◌-◌, ◌≤◌, ◌<◌}
use native.Mathlib.Omega.{arith}
use lib.ListN.{length, take, drop, replicate, length-append, length-drop, length-replicate}
use lib.Seq.{take-append_seam, drop-append_seam}
use Rattle.base.proofs.Answers.{by_option}
use Rattle.base.proofs.Lists.{table_length}
use Rattle.words.specs.Words.{peb_words_needed, map_words_needed, state_words_needed, no_word}
use Rattle.geometry.specs.declared.Geometry.{Geometry}
use Rattle.header.specs.declared.EcHeader.{EcHeader}
use Rattle.header.specs.Fields.{Verdict, good, bad, newer}
use Rattle.header.specs.Ec.{read_ec}
use Rattle.header.proofs.Laws.{ec_good_holds}
use Rattle.report.specs.View.{all_ff, ec_blank, ec_of, good_ec, view_of, views_of, Medium, medium_of, peb_at, ecs}
use Rattle.report.specs.Report.{counter_or, has_counter, counter_at, refusal, entries, state_at}
use Rattle.report.specs.Scan.{Refusal}
use Rattle.report.specs.Attach.{
  Tables,
  lent,
  late,
  by_refusal,
  over,
  peb_words,
  entry_words,
  map_words,
  state_words,
  tables_after,
}
use Rattle.report.specs.declared.Report.{Report}
use Rattle.refusals.specs.declared.Refused.{Refused}
use Rattle.std.specs.Prelude.{Result}
use Rattle.report.proofs.Tables.{entries_fit}
use Rattle.report.proofs.Words.{entry_words_length, peb_words_length}
use Rattle.scan.specs.declared.ScanTotals.{ScanTotals}
use Rattle.volumes.specs.Sorted.{table_refusal}
use Rattle.summary.specs.Stage.{Ended, SameBeyond, Past10}

-- ---- lent words of which the first k are given

module _ (k : ℕ) (w x : List ℕ) {x' : List ℕ} (e : x' ≡ w ++ drop k x) (s : length x' ≡ length x) (h : k ≤ length x) where
  pub words_long : length w ≡ k
  words_long =
      let q : length x' ≡ length w + length (drop k x) = ap length e ∙ length-append w (drop k x) in
      omega (arith, q, s, length-drop k x)

  pub words_over : x' ≡ over w x
  words_over = e ∙ ap (λ (j : ℕ). w ++ drop j x) (sym words_long)

  pub words_take : take k x' ≡ w
  words_take = ap₂ take (sym words_long) words_over ∙ take-append_seam w (drop (length w) x)

  pub words_tail : drop k x' ≡ drop k x
  words_tail = ap₂ drop (sym words_long) words_over ∙ drop-append_seam w (drop (length w) x)
      ∙ ap (λ (j : ℕ). drop j x) words_long

-- words that stand in place of as many lent ones
over_same : (ws a b : List ℕ) (k : ℕ) → length ws ≡ k → drop k a ≡ drop k b → over ws a ≡ over ws b
over_same ws a b k e t = ap (λ (z : List ℕ). ws ++ z) (rw e t)

pub lent_same : {p p' m m' s s' : List ℕ} → p ≡ p' → m ≡ m' → s ≡ s' → lent p m s ≡ lent p' m' s'
lent_same a b c = rw (a, b, c)

-- ---- counters

-- a good counter has 31 bits
pub counter_small : (g : Geometry) (image : List ℕ) (i : ℕ) (h : EcHeader) → ecs (views_of g image) i ≡ some h
    → h.counter ≤ 0x7FFFFFFF
unfolding view_of
counter_small g image i h e = go (all_ff (take 64 (peb_at g image i))) (read_ec (take 64 (peb_at g image i))) refl e
  where
    go : (t : Bool) (v : Verdict EcHeader) → read_ec (take 64 (peb_at g image i)) ≡ v
        → good_ec (cond t ec_blank (ec_of v)) ≡ some h → h.counter ≤ 0x7FFFFFFF
    go true v q e = absurd (let z : ◌≡◌ {A = ℕ} 0 1 = cc in omega arith)
    go false bad q e = absurd (let z : ◌≡◌ {A = ℕ} 0 1 = cc in omega arith)
    go false newer q e = absurd (let z : ◌≡◌ {A = ℕ} 0 1 = cc in omega arith)
    go false (good x) q e = let z : x ≡ h = cc in rw (← z) (ec_good_holds (take 64 (peb_at g image i)) q).1

-- so the word of a lost counter is no good counter
pub lost_word : (g : Geometry) (n : ℕ) (image : List ℕ) (i : ℕ) → i < n → counter_at (medium_of g n image) i ≡ no_word
    → has_counter (ecs (views_of g image) i) ≡ false
unfolding counter_at
lost_word g n image i l e = go (ecs (views_of g image) i) refl e
  where
    go : (o : Option EcHeader) → ecs (views_of g image) i ≡ o → counter_or no_word o ≡ no_word → has_counter o ≡ false
    go none q e = refl
    go (some h) q e = absurd (omega (arith, counter_small g image i h q, e))

-- ---- refusals in their order

pub late_refusal : {g : Geometry} {n : ℕ} {image : List ℕ} {s : ScanTotals} {t : Tables} → Past10 g n image s t
    → refusal (medium_of g n image) ≡ table_refusal (medium_of g n image)
unfolding refusal
late_refusal p = rw (p.no5678, p.no9, p.no10)

-- ---- the lent tables after an end

state_words_long : (m : Medium) → length (state_words m) ≡ state_words_needed
unfolding state_words
state_words_long m = table_length (state_at m) 0 128

module _ (m : Medium) where
  map_words_long : 2 ≤ m.count → refusal m ≡ none → length (map_words m.count (entries m)) ≡ map_words_needed m.count
  unfolding map_words
  map_words_long h e =
      let rest = map_words_needed m.count - length (entry_words (entries m)) in
      length-append (entry_words (entries m)) (replicate rest no_word)
      ∙ omega (arith, entries_fit m e h, entry_words_length (entries m), length-replicate rest no_word)

  -- they depend on the words beyond those needed alone
  tables_from : {t t₁ : Tables} → 2 ≤ m.count → SameBeyond m.count t t₁
      → tables_after (by_refusal m (refusal m)) t₁ ≡ tables_after (by_refusal m (refusal m)) t
  tables_from {t} {t₁} h s =
      by_option (refusal m)
      (λ q. rw q (lent_same (over_same (peb_words m) _ _ _ (peb_words_length m) s.pebs_tail)
      (over_same (map_words m.count (entries m)) _ _ _ (map_words_long h q) s.map_tail)
      (over_same (state_words m) _ _ _ (state_words_long m) s.states_tail)))
      (λ r q. rw q (lent_same (over_same (replicate (peb_words_needed m.count) no_word) _ _ _
      (length-replicate (peb_words_needed m.count) no_word) s.pebs_tail)
      (over_same (replicate (map_words_needed m.count) no_word) _ _ _
      (length-replicate (map_words_needed m.count) no_word) s.map_tail)
      (over_same (replicate state_words_needed no_word) t₁.states t.states state_words_needed
      (length-replicate state_words_needed no_word) s.states_tail)))

  -- what ends so from later words ends so from earlier ones
  pub ended_from : {t t₁ t' : Tables} {r : Result Report Refused} → 2 ≤ m.count → SameBeyond m.count t t₁
      → Ended (by_refusal m (refusal m)) r t₁ t' → Ended (by_refusal m (refusal m)) r t t'
  ended_from h s o = record { answer = o.answer; tables_are = o.tables_are ∙ tables_from h s }

  -- a refusal 5 to 12
  pub ended_refused : {t t' : Tables} {r : Result Report Refused} {x : Refusal} → refusal m ≡ some x
      → Ended (late m.count x) r t t' → Ended (by_refusal m (refusal m)) r t t'
  ended_refused q o = rw q o
