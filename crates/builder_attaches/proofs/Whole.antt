-- A filled image attaches with grade 0; image sequence and map are those of the plan, and the counters 0. Assumes
-- nothing.
use mathlib.Core.Path.{◌≡◌, refl, ap₂, ◌∙◌}
use mathlib.Core.Logic.{⊎_elim}
use mathlib.Core.Bool.{true, not, ◌||◌}
use mathlib.Core.Option.{none, some}
use mathlib.Core.List.{List, [], ◌∷◌, ◌++◌}
use Prim.Native.Nat.{ℕ, ◌≤◌, ◌<◌}
use native.Mathlib.Nat.{zero-div}
use native.Mathlib.Omega.{arith}
use lib.Dec.{eqb}
use Rattle.base.specs.Answers.{map_o}
use Rattle.base.specs.Below.{concat_below}
use Rattle.base.proofs.Answers.{by_test, by_option, or_true_right}
use Rattle.base.proofs.Below.{lt_or_le, all_intro, sum_zero, nonzero_same}
use Rattle.base.proofs.Rows.{concat_short, concat_cong}
use Rattle.header.specs.declared.EcHeader.{EcHeader}
use Rattle.report.specs.View.{Copy, ec_good, ecs, VidView, vid_good, vid_blank, is_mappable}
use Rattle.report.specs.Scan.{image_seq_or0, image_seq_of, ec_refusal, vid_refusal}
use Rattle.report.specs.Volumes.{Places, places_of, entry_at, record_for, reserved_of, map_up_to, map_of}
use Rattle.report.specs.Report.{is_place, stays_in, class_of, counter_or, has_counter, mean_of, places, records, class_at}
use Rattle.report.specs.Report.{counter_at, entries, state_at, grade_of, refusal}
use Rattle.report.proofs.Facts.{of_parts, ec_unrefused, no_5678, no_10}
use Rattle.builder_rules.specs.Blocks.{BuildPlan, built_ec, lebs_of, plan_ec}
use Rattle.builder_rules.specs.Filling.{Accepted}
use Rattle.builder_rules.proofs.Accepted.{volumes_few, lebs_within}
use Rattle.builder_attaches.specs.Claim.{leb_entry, built_entries}
use Rattle.builder_attaches.proofs.Views.{filled, layout_copy, standing, peb_shows}
use Rattle.builder_attaches.proofs.Chosen.{copy_is, stands, mappable, none_9, chosen_leb, chosen_layout}
use Rattle.builder_attaches.proofs.Chosen.{unmapped}
use Rattle.builder_attaches.proofs.Faces.{taken_first, records_are, mark_zero, record_for_lem, record_none}
use Rattle.builder_attaches.proofs.Faces.{no_misfit_at, state_one, state_zero}

module _ (b : BuildPlan) (n : ℕ) (a : Accepted b n) where
  -- ---- refusals 5 to 12

  ec_is : (i : ℕ) → i < n → ((filled b n).views i).ec ≡ ec_good (plan_ec b)
  ec_is i h = (peb_shows b n a i h).ec

  ec_passes : (i : ℕ) → i < n → ec_refusal b.geometry b.image_seq ((filled b n).views i).ec ≡ none
  unfolding built_ec
  ec_passes i h = rw (ec_is i h) (ec_unrefused b.geometry (plan_ec b) refl refl)

  -- what holds where there is no copy, and of copies of user and layout LEBs
  vid_either : (P : VidView → Type 0) (i : ℕ) → i < n → P vid_blank
      → ((c : Copy) → is_mappable c.header.volume ≡ true → P (vid_good c)) → P ((filled b n).views i).vid
  vid_either P i h p q =
      rw (peb_shows b n a i h).vid
      (by_option (standing b i) (λ e. rw e p) (λ c e. rw e (q c (mappable b n a i c (stands b i c e)))))

  vid_passes : (i : ℕ) → i < n → vid_refusal ((filled b n).views i).vid ≡ none
  vid_passes i h = vid_either (λ v. vid_refusal v ≡ none) i h refl (λ c m. rw m)

  first : 0 < n
  first = omega (arith, a.pebs_least)

  pub sequence_given : image_seq_of n (filled b n).views ≡ b.image_seq
  unfolding image_seq_of built_ec
  sequence_given =
      nonzero_same (λ i. image_seq_or0 (ecs (filled b n).views i)) n b.image_seq first (λ i h. rw (ec_is i h))

  pub sequences_given : (i : ℕ) → i < n
      → map_o (λ (h : EcHeader). h.image_seq) (ecs (filled b n).views i) ≡ some b.image_seq
  unfolding built_ec
  sequences_given i h = rw (ec_is i h)

  pub attaches : refusal (filled b n) ≡ none
  unfolding standing
  attaches = of_parts (filled b n) (record {
    none5678 = no_5678 (filled b n) b.image_seq (λ i h. (ec_passes i h, vid_passes i h));
    none9 = none_9 b n a;
    none10 = no_10 (filled b n) 0 (layout_copy b 0) first (copy_is b n a 0 first);
    none1112 = rw (taken_first b n a, records_are b n a, no_misfit_at b n a);
  })

  -- ---- "counter 0 everywhere"

  pub counters_zero : (i : ℕ) → i < n → counter_at (filled b n) i ≡ 0
  unfolding counter_at built_ec
  counters_zero i h = rw (ec_is i h)

  pub mean_zero : mean_of (filled b n) ≡ 0
  unfolding mean_of built_ec
  mean_zero =
      rw (sum_zero n (λ i. counter_or 0 (ecs (filled b n).views i)) (λ i h. rw (ec_is i h))) (zero-div _)

  -- ---- the map

  volume_entries : (v : ℕ) → v < b.volumes
      → concat_below (reserved_of (record_for b.table v)) (λ l. entry_at v l (places (filled b n) v l))
      ≡ concat_below (lebs_of b v) (λ l. leb_entry b v l ∷ [])
  unfolding places_of
  volume_entries v h =
      concat_short (lebs_of b v) (reserved_of (record_for b.table v)) (λ l. entry_at v l (places (filled b n) v l))
      (rw (record_for_lem b n a v h) (lebs_within b n a v h)) (λ l k. rw (unmapped b n a v l h k))
      ∙ concat_cong (lebs_of b v) _ _ (λ l k. rw (chosen_leb b n a v l h k))

  -- with 128 as a variable, or it is written out
  map_up_to_lem : (k : ℕ) → b.volumes ≤ k → map_up_to k 2 b.table (places (filled b n)) ≡ built_entries b
  unfolding map_up_to places_of
  map_up_to_lem k h =
      ap₂ ◌++◌
      (concat_short b.volumes k
      (λ v. concat_below (reserved_of (record_for b.table v)) (λ l. entry_at v l (places (filled b n) v l)))
      h (λ v q. rw (record_none b n a v q))
      ∙ concat_cong b.volumes _ _ volume_entries)
      (rw (chosen_layout b n a 0 (omega arith), chosen_layout b n a 1 (omega arith)))

  pub map_built : entries (filled b n) ≡ built_entries b
  unfolding entries map_of
  map_built = rw (records_are b n a) (map_up_to_lem 128 (volumes_few b n a))

  -- ---- the grade

  no_class_4 : (i : ℕ) → i < n → not (eqb (class_at (filled b n) i) 4) ≡ true
  unfolding class_at
  no_class_4 i h =
      let t : List ℕ = records (filled b n) in
      let ps : Places = places (filled b n) in
      rw (ec_is i h)
      (vid_either (λ v. not (eqb (class_of t ps i (ec_good (plan_ec b)) v) 4) ≡ true) i h refl
      (λ c m.
      rw m
      (by_test (is_place (ps c.header.volume c.header.lnum) i)
      (λ q. rw q (by_test (stays_in t c.header.volume c.header.lnum) (λ r. rw r) (λ r. rw r))) (λ q. rw q))))

  counted : (i : ℕ) → i < n → eqb (class_at (filled b n) i) 3 || has_counter (ecs (filled b n).views i) ≡ true
  counted i h = rw (ec_is i h) (or_true_right (eqb (class_at (filled b n) i) 3) true refl)

  pub states_good : (v : ℕ) → v < b.volumes → state_at (filled b n) v ≡ 1
  unfolding state_at
  states_good v h = rw (records_are b n a) (state_one b n a v h)

  state_fine : (v : ℕ) → not (eqb (state_at (filled b n) v) 2 || eqb (state_at (filled b n) v) 3) ≡ true
  unfolding state_at
  state_fine v =
      ⊎_elim (λ h. rw (states_good v h)) (λ h. rw (records_are b n a, state_zero b n a v h)) (lt_or_le v b.volumes)

  pub grade_zero : grade_of (filled b n) ≡ 0
  unfolding grade_of
  grade_zero =
      rw (
        all_intro n (λ i. not (eqb (class_at (filled b n) i) 4)) no_class_4,
        all_intro n (λ i. eqb (class_at (filled b n) i) 3 || has_counter (ecs (filled b n).views i)) counted,
        mark_zero b n a,
        all_intro 128 (λ v. not (eqb (state_at (filled b n) v) 2 || eqb (state_at (filled b n) v) 3))
            (λ v _. state_fine v),
      )
