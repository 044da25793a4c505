-- What is known of the table taken in an image that attaches: its records, its entries, their number. Assumes nothing.
use mathlib.Core.Path.{◌≡◌, refl, sym, ◌∙◌, ap}
use mathlib.Core.Logic.{◌⊎◌, inl, inr, ⊎_elim}
use mathlib.Core.Bool.{Bool, true, false, not, ◌&&◌, ◌||◌, cond}
use mathlib.Core.Option.{none, some}
use mathlib.Core.List.{List}
use Prim.Native.Nat.{ℕ, zero, suc, ◌+◌, ◌-◌, ◌*◌, ◌≤◌, ◌<◌}
use native.Mathlib.Nat.{min-le_left}
use native.Mathlib.Omega.{arith}
use lib.Dec.{eqb, ltb}
use lib.ListN.{length, length-take, drop_of_length-le}
use borrow.Author.Tests.{eqb-true, eq-eqb, ltb-true, ltb-false, not-false}
use Rattle.base.specs.Answers.{Answer, given, refused}
use Rattle.base.specs.Below.{sum_below}
use Rattle.base.proofs.Answers.{by_test, cond_yes, none_some, map_o_none, and_left, and_right, or_left, or_right}
use Rattle.base.proofs.Below.{lt_or_le, first_none_at, first_some, sum_grows}
use Rattle.field.specs.Be.{be_from}
use Rattle.header.specs.Vid.{layout_volume}
use Rattle.volume_record.specs.Record.{record_of, record_good}
use Rattle.volume_table.specs.Table.{record_count, records_part, record_at, table_good, taken_leb, taken_records}
use Rattle.volume_record.specs.declared.VolumeRecord.{VolumeRecord}
use Rattle.volume_table.proofs.Good.{records_fine, reserved_within, empty_or_good_lem, empty_reserves_none}
use Rattle.report.specs.View.{Medium}
use Rattle.report.specs.Volumes.{
  Face,
  Faces,
  Places,
  layout_content,
  table_leb,
  table_records,
  record_for,
  reserved_of,
  map_up_to,
  map_of,
  used_of,
  differs,
  misfit,
  misfit_in,
  misfit_at,
  refusal1112,
}
use Rattle.report.specs.Report.{faces, places, records, entries, refusal}
use Rattle.report.proofs.Map.{map_length}
use Rattle.report.proofs.Facts.{when_none, parts}

-- ---- 11 and 12

module _ (a : Answer ℕ) (t : List ℕ) (fs : Faces) (ps : Places) (e : refusal1112 a t fs ps ≡ none) where
  pub table_taken : (k : ℕ) × (a ≡ given k)
  table_taken = go a e
    where
      go : (a : Answer ℕ) → refusal1112 a t fs ps ≡ none → (k : ℕ) × (a ≡ given k)
      go (refused k p) e = none_some (sym e)
      go (given k) e = (k, refl)

  pub no_misfit : misfit_at t fs ≡ none
  no_misfit = go a e
    where
      go : (a : Answer ℕ) → refusal1112 a t fs ps ≡ none → misfit_at t fs ≡ none
      go (refused k p) e = none_some (sym e)
      go (given k) e = map_o_none _ (misfit_at t fs) e

  -- where the entries lie makes no difference
  pub no_1112 : (ps' : Places) → refusal1112 a t fs ps' ≡ none
  no_1112 ps' = rw (table_taken.1, no_misfit)

-- an entry of a user volume has its record's type and pad; static, it has used LEBs as its volume's first entry has, and within reserved
pub record Fits (t : List ℕ) (fs : Faces) (v : ℕ) (r : VolumeRecord) (f : Face) : Type 0 where
  pub same_type : f.vol_type ≡ r.vol_type
  pub same_pad : f.pad ≡ r.data_pad
  pub same_used : f.vol_type ≡ 2 → used_of t fs v ≡ some f.used
  pub used_within : f.vol_type ≡ 2 → f.used ≤ r.reserved

module _ (t : List ℕ) (fs : Faces) (e : misfit_at t fs ≡ none) (v l : ℕ) (r : VolumeRecord) (f : Face)
    (k : v < 128) (is : record_for t v ≡ some r) (h : l < r.reserved) (q : fs v l ≡ some f) where
  one_fits : misfit (some r) (used_of t fs v) (some f) ≡ none
  unfolding misfit_at misfit_in
  one_fits =
      rw (is, q) at
      (first_none_at (reserved_of (record_for t v)) (λ l. misfit (record_for t v) (used_of t fs v) (fs v l))
      (map_o_none _ _ (first_none_at 128 (misfit_in t fs) e v k)) l (rw is h))

  abbrev bad_type : Bool
  bad_type = not (eqb f.vol_type r.vol_type && eqb f.pad r.data_pad)

  abbrev bad_used : Bool
  bad_used = differs (used_of t fs v) f.used || ltb r.reserved f.used

  no_bad : bad_type || (eqb f.vol_type 2 && bad_used) ≡ false
  no_bad = when_none _ 12 one_fits

  good_used : f.vol_type ≡ 2 → bad_used ≡ false
  good_used s = rw (eq-eqb _ _ s) at (or_right bad_type (eqb f.vol_type 2 && bad_used) no_bad)

  pub entry_fits : Fits t fs v r f
  unfolding used_of
  entry_fits =
      let a = not-false _ (or_left bad_type (eqb f.vol_type 2 && bad_used) no_bad) in
      let x = first_some (reserved_of (record_for t v)) (fs v) l f (rw is h) q in
      let u : used_of t fs v ≡ some x.0.1.used = rw x.1 in
      record {
        same_type = eqb-true _ _ (and_left (eqb f.vol_type r.vol_type) (eqb f.pad r.data_pad) a);
        same_pad = eqb-true _ _ (and_right (eqb f.vol_type r.vol_type) (eqb f.pad r.data_pad) a);
        same_used = λ s. u ∙ ap some (sym
            (eqb-true f.used _ (not-false _ (rw u at (or_left (differs (used_of t fs v) f.used) _ (good_used s))))));
        used_within = λ s. ltb-false r.reserved f.used (or_right (differs (used_of t fs v) f.used) _ (good_used s));
      }

-- ---- the records of the table taken

-- an empty or absent record reserves nothing
pub reserved_is : (t : List ℕ) (v : ℕ) → reserved_of (record_for t v) ≡ (record_of (record_at t v)).reserved
unfolding record_for
reserved_is t v =
    by_test (ltb 0 (record_of (record_at t v)).reserved) (λ q. rw q)
    (λ q. rw q (omega (arith, ltb-false 0 (record_of (record_at t v)).reserved q)))

-- a sum that has nothing from c on
module _ (f : ℕ → ℕ) where
  sum_most : (c : ℕ) → ((i : ℕ) → c ≤ i → f i ≡ 0) → (k : ℕ) → sum_below k f ≤ sum_below c f
  sum_most c h zero = omega arith
  sum_most c h (suc k) =
      ⊎_elim (λ (l : k < c). sum_grows f (suc k) c l) (λ (l : c ≤ k). omega (arith, h k l, sum_most c h k))
      (lt_or_le k c)

-- t are the records of the table taken from one of two copies, which is good
pub record TakenFrom (size unit pebs : ℕ) (copy0 copy1 t : List ℕ) : Type 0 where
  pub content : List ℕ
  pub from : (content ≡ copy0) ⊎ (content ≡ copy1)
  pub good : table_good size unit pebs content ≡ true
  pub is : t ≡ records_part size content

module _ (size unit pebs : ℕ) (copy0 copy1 : List ℕ) where
  pub taken : (k : ℕ) → taken_leb size unit pebs copy0 copy1 ≡ given k
      → TakenFrom size unit pebs copy0 copy1 (taken_records size unit pebs copy0 copy1)
  unfolding taken_leb taken_records
  taken k e = go (table_good size unit pebs copy0) refl (table_good size unit pebs copy1) refl e
    where
      go : (b : Bool) → table_good size unit pebs copy0 ≡ b → (c : Bool) → table_good size unit pebs copy1 ≡ c
          → cond b (given 0) (cond c (given 1) (refused 11 0)) ≡ given k
          → TakenFrom size unit pebs copy0 copy1 (taken_records size unit pebs copy0 copy1)
      go true p c q e = record { content = copy0; from = inl refl; good = p; is = rw p }
      go false p true q e = record { content = copy1; from = inr refl; good = q; is = rw (p, q) }
      go false p false q e = absurd (let z : ◌≡◌ {A = ℕ} 0 1 = cc in omega arith)

  module _ (t : List ℕ) (T : TakenFrom size unit pebs copy0 copy1 t) where
    past_count : (v : ℕ) → record_count size ≤ v → (record_of (record_at t v)).reserved ≡ 0
    unfolding record_of records_part be_from
    past_count v h =
        let l : length t ≤ 172 * v = rw (T.is, length-take)
        (omega (arith, min-le_left (172 * record_count size) (length T.content))) in
        rw (drop_of_length-le t l)

    -- a record that is not empty is one of the LEB's, and good
    reserves_good : (v : ℕ) → 0 < (record_of (record_at t v)).reserved
        → (v < record_count size) × (record_good size unit (record_at t v) ≡ true)
    reserves_good v h =
        ⊎_elim
        (λ (k : v < record_count size). (
          k,
          ⊎_elim
              (λ p. absurd (omega (arith, empty_reserves_none (record_at t v) p)))
              (λ p. p)
              (empty_or_good_lem size unit (record_at t v) (rw T.is (records_fine size unit pebs T.content T.good v k))),
        ))
        (λ (k : record_count size ≤ v). absurd (omega (arith, past_count v k)))
        (lt_or_le v (record_count size))

    pub record_good_lem : (v : ℕ) (r : VolumeRecord) → record_for t v ≡ some r
        → (v < record_count size) × (record_good size unit (record_at t v) ≡ true) × (r ≡ record_of (record_at t v))
    unfolding record_for
    record_good_lem v r e =
        let y = cond_yes (ltb 0 (record_of (record_at t v)).reserved) none_some e in
        let z = reserves_good v (ltb-true _ _ y.0) in
        let q : record_of (record_at t v) ≡ r = cc y.1 in
        (z.0, z.1, sym q)

    -- volumes reserve no more than the PEBs beside the layout volume's two
    pub reserved_sum : (k : ℕ) → sum_below k (λ v. reserved_of (record_for t v)) ≤ pebs - 2
    reserved_sum k =
        simp (reserved_is)
        (omega (
          arith,
          sum_most (λ v. (record_of (record_at t v)).reserved) (record_count size) past_count k,
          rw (← T.is) at (reserved_within size unit pebs T.content T.good),
        ))

    map_within : (k m : ℕ) (ps : Places) → length (map_up_to k m t ps) ≤ pebs - 2 + m
    map_within k m ps = omega (arith, map_length k m t ps, reserved_sum k)

-- ---- in an image that attaches

-- t are the records of a good table of one of the two layout copies
abbrev pub TakenIn : Medium → List ℕ → Type 0
TakenIn m =
    TakenFrom m.geometry.leb_size m.geometry.unit m.count
    (layout_content (faces m layout_volume 0)) (layout_content (faces m layout_volume 1))

module _ (m : Medium) (e : refusal m ≡ none) where
  pub table_good_holds : TakenIn m (records m)
  unfolding table_leb table_records
  table_good_holds =
      let k = table_taken (table_leb m (faces m)) (records m) (faces m) (places m) (parts m e).none1112 in
      taken _ _ m.count _ _ k.0 k.1

  -- the map has no more entries than there are PEBs
  pub entries_fit : 2 ≤ m.count → length (entries m) ≤ m.count
  unfolding entries map_of
  entries_fit h = omega (arith, map_within _ _ _ _ _ (records m) table_good_holds 128 2 (places m))
