-- What attaching makes of a filled image: the table taken, the chosen copies, no misfit, the states. Assumes nothing.
use mathlib.Core.Path.{◌≡◌, refl, ap, ap₂, ◌∙◌}
use mathlib.Core.Logic.{⊎_elim}
use mathlib.Core.Bool.{Bool, true, false, not, ◌&&◌, ◌||◌, cond, and-false}
use mathlib.Core.Option.{Option, none, some}
use mathlib.Core.List.{List, ◌++◌}
use Prim.Native.Nat.{ℕ, ◌+◌, ◌-◌, ◌≤◌, ◌<◌}
use native.Mathlib.Nat.{sub-zero}
use native.Mathlib.Omega.{arith}
use borrow.Author.Tests.{eq-eqb, lt-ltb, le-ltb}
use lib.Dec.{ltb}
use lib.ListN.{length, take, replicate, length-append, length-replicate}
use lib.Seq.{take_all, take_at}
use Rattle.base.specs.Answers.{given, map_o}
use Rattle.base.proofs.Answers.{by_test}
use Rattle.base.proofs.Below.{lt_or_le, none_intro, first_none, first_is}
use Rattle.base.proofs.Lists.{eqs_refl}
use Rattle.base.proofs.Stores.{part_padded}
use Rattle.header.specs.Vid.{layout_volume}
use Rattle.volume_table.specs.Table.{records_part, table_good, taken_leb, taken_records, copies_mark_of}
use Rattle.report.specs.View.{copy_of}
use Rattle.report.specs.Volumes.{Face, Faces, face_of, faces_of, layout_content, table_leb, table_records, table_mark}
use Rattle.report.specs.Volumes.{record_for, reserved_of, used_of, misfit, misfit_in, misfit_at, faulty, asks_crc, is_missing}
use Rattle.report.specs.Volumes.{differs, lacks, state_of}
use Rattle.report.specs.Report.{faces, records, mark}
use Rattle.builder_rules.specs.Blocks.{BuildPlan, layout_vid, user_vid, volume_of, is_static, room, lebs_of, leb_data, plan_ec}
use Rattle.builder_rules.specs.Filling.{Accepted}
use Rattle.builder_rules.proofs.Accepted.{records_front, records_whole, table_fits, lebs_within, data_small}
use Rattle.builder_rules.proofs.Accepted.{data_fits}
use Rattle.builder_attaches.proofs.Views.{filled, leb_header, leb_copy, stored_body, stored_matches}
use Rattle.builder_attaches.proofs.Chosen.{chosen_leb, chosen_layout, unmapped}

-- used LEBs of a static volume are those of its first entry and within reserved; a dynamic one is not asked
used_fits : (s : Bool) (m r : ℕ) → m ≤ r
    → s && (differs (some (cond s m 0)) (cond s m 0) || ltb r (cond s m 0)) ≡ false
used_fits true m r k = rw (eq-eqb m m refl, le-ltb r m k)
used_fits false m r k = refl

module _ (b : BuildPlan) (v : ℕ) where
  -- the bytes of LEB l of a volume as they are read: 0xFF behind those of a dynamic one
  abbrev pub leb_content : ℕ → List ℕ
  leb_content l =
      cond (is_static b v) (leb_data b v l) (leb_data b v l ++ replicate (room b v - length (leb_data b v l)) 0xFF)

  -- what attaching sees of it
  abbrev pub leb_face : ℕ → Face
  leb_face l = record {
    vol_type = (volume_of b v).vol_type;
    pad = (volume_of b v).data_pad;
    used = cond (is_static b v) (lebs_of b v) 0;
    sound = true;
    right = true;
    content = leb_content l;
  }

module _ (b : BuildPlan) (n : ℕ) (a : Accepted b n) where
  abbrev size : ℕ
  size = b.geometry.leb_size

  abbrev fs : Faces
  fs = faces (filled b n)

  -- ---- the layout volume

  -- the content of either layout LEB
  abbrev table_lebs : List ℕ
  table_lebs = b.table ++ replicate (size - length b.table) 0xFF

  table_length : length table_lebs ≡ size
  table_length =
      rw (length-append, length-replicate {A = ℕ} (size - length b.table) 0xFF) (omega (arith, table_fits b n a))

  layout_content_lem : (l : ℕ) → l < 2 → layout_content (fs layout_volume l) ≡ table_lebs
  unfolding faces_of face_of copy_of layout_vid
  layout_content_lem l h =
      rw (chosen_layout b n a l h)
      (ap₂ take (sub-zero size)
      (stored_body b.geometry a.placed (plan_ec b) (layout_vid (l + 1) l) b.table (table_fits b n a))
      ∙ take_all size table_lebs (omega (arith, table_length)))

  layout_good : table_good size b.geometry.unit n table_lebs ≡ true
  unfolding table_good
  layout_good =
      rw (records_front size b.table (replicate (size - length b.table) 0xFF) a.table_length)
      (rw (records_whole size b.table a.table_length) at a.table_good_holds)

  pub taken_first : table_leb (filled b n) fs ≡ given 0
  unfolding table_leb taken_leb
  taken_first = rw (layout_content_lem 0 (omega arith), layout_good)

  pub records_are : records (filled b n) ≡ b.table
  unfolding table_records taken_records taken_leb
  records_are =
      rw (layout_content_lem 0 (omega arith), layout_good)
      (records_front size b.table (replicate (size - length b.table) 0xFF) a.table_length)

  pub mark_zero : mark (filled b n) ≡ 0
  unfolding table_mark copies_mark_of
  mark_zero =
      rw (
        layout_content_lem 0 (omega arith),
        layout_content_lem 1 (omega arith),
        layout_good,
        eqs_refl (records_part size table_lebs),
      )

  -- ---- the records

  pub record_for_lem : (v : ℕ) → v < b.volumes → record_for b.table v ≡ some (volume_of b v)
  unfolding record_for volume_of
  record_for_lem v h = rw (lt-ltb 0 _ (a.reserved_above v h))

  pub record_none : (v : ℕ) → b.volumes ≤ v → record_for b.table v ≡ none
  unfolding record_for volume_of
  record_none v h = rw (a.none_else v h)

  -- ---- the copies of a volume's LEBs

  module _ (v : ℕ) (h : v < b.volumes) where
    module _ (l : ℕ) where
      leb_body : (leb_copy b (v, l)).body ≡ leb_data b v l ++ replicate (size - length (leb_data b v l)) 0xFF
      leb_body =
          stored_body b.geometry a.placed (plan_ec b) (leb_header b v l) (leb_data b v l) (data_fits b n a v h l)

      leb_matches : is_static b v ≡ true → (leb_copy b (v, l)).matches ≡ true
      unfolding user_vid
      leb_matches e =
          stored_matches b.geometry a.placed (plan_ec b) (leb_header b v l) (leb_data b v l) (data_fits b n a v h l)
          (rw e) (rw e)

      leb_right : not (is_static b v) || (leb_copy b (v, l)).matches ≡ true
      leb_right = by_test (is_static b v) (λ e. rw (e, leb_matches e)) (λ e. rw e)

      leb_content_lem : take (cond (is_static b v) (cond (is_static b v) (length (leb_data b v l)) 0) (room b v))
          (leb_copy b (v, l)).body ≡ leb_content b v l
      leb_content_lem =
          let d : List ℕ = leb_data b v l in
          let s = data_small b n a v h l in
          rw leb_body
          (by_test (is_static b v)
          (λ e. rw e (take_at d _ (length d) refl))
          (λ e. rw e
          (part_padded 0xFF 0 (room b v) (size - length d) d (omega arith) ∙ rw (take_all (room b v) d s))))

      pub face_is : l < lebs_of b v → fs v l ≡ some (leb_face b v l)
      unfolding faces_of face_of copy_of user_vid
      face_is k = rw (chosen_leb b n a v l h k) (λ i. some (record {
        vol_type = (volume_of b v).vol_type;
        pad = (volume_of b v).data_pad;
        used = cond (is_static b v) (lebs_of b v) 0;
        sound = true;
        right = leb_right i;
        content = leb_content_lem i;
      }))

      pub face_none : lebs_of b v ≤ l → fs v l ≡ none
      unfolding faces_of
      face_none k = rw (unmapped b n a v l h k)

    -- what holds of LEBs that are there, and of those that are not, holds of all
    face_either : (P : Option Face → Type 0) (l : ℕ) → (l < lebs_of b v → P (some (leb_face b v l))) → P none
        → P (fs v l)
    face_either P l p q =
        ⊎_elim (λ k. rw (face_is l k) (p k)) (λ k. rw (face_none l k) q) (lt_or_le l (lebs_of b v))

    used_some : 0 < lebs_of b v → used_of b.table fs v ≡ some (cond (is_static b v) (lebs_of b v) 0)
    unfolding used_of
    used_some k =
        rw (first_is (fs v) (reserved_of (record_for b.table v)) 0 (leb_face b v 0)
        (rw (record_for_lem v h) (omega (arith, lebs_within b n a v h))) refl (face_is 0 k))

    used_none : lebs_of b v ≡ 0 → used_of b.table fs v ≡ none
    unfolding used_of
    used_none k =
        rw (first_none (reserved_of (record_for b.table v)) (fs v) (λ i _. face_none i (omega arith)))

    -- ---- refusal 12

    no_misfit : (l : ℕ) → misfit (some (volume_of b v)) (used_of b.table fs v) (fs v l) ≡ none
    no_misfit l =
        face_either (λ f. misfit (some (volume_of b v)) (used_of b.table fs v) f ≡ none) l
        (λ k.
        rw (
          used_some (omega arith),
          eq-eqb (volume_of b v).vol_type (volume_of b v).vol_type refl,
          eq-eqb (volume_of b v).data_pad (volume_of b v).data_pad refl,
          used_fits (is_static b v) (lebs_of b v) (volume_of b v).reserved (lebs_within b n a v h),
        ))
        refl

    no_misfit_in : misfit_in b.table fs v ≡ none
    unfolding misfit_in
    no_misfit_in =
        rw (record_for_lem v h)
        (ap (map_o (λ x. x.0))
        (first_none (volume_of b v).reserved
        (λ l. misfit (some (volume_of b v)) (used_of b.table fs v) (fs v l)) (λ l _. no_misfit l)))

    -- ---- the state

    not_faulty : (l : ℕ) → faulty (volume_of b v) (fs v l) ≡ false
    not_faulty l =
        face_either (λ f. faulty (volume_of b v) f ≡ false) l (λ k. and-false (asks_crc (volume_of b v))) refl

    no_lack : lacks (volume_of b v) (used_of b.table fs v) (fs v) ≡ false
    no_lack =
        ⊎_elim
        (λ k.
        rw (used_some k)
        (by_test (is_static b v)
        (λ e. rw e (none_intro (lebs_of b v) (λ l. is_missing (fs v l)) (λ l j. rw (face_is l j))))
        (λ e. rw e)))
        (λ k. rw (used_none (omega (arith, k))))
        (lt_or_le 0 (lebs_of b v))

    pub state_one : state_of b.table fs v ≡ 1
    unfolding state_of
    state_one =
        rw (
          record_for_lem v h,
          none_intro (volume_of b v).reserved (λ l. faulty (volume_of b v) (fs v l)) (λ l _. not_faulty l),
          no_lack,
          a.unmarked v h,
        )

  pub no_misfit_at : misfit_at b.table fs ≡ none
  unfolding misfit_at misfit_in
  no_misfit_at =
      first_none 128 (misfit_in b.table fs)
      (λ v _. ⊎_elim (λ h. no_misfit_in v h) (λ h. rw (record_none v h)) (lt_or_le v b.volumes))

  pub state_zero : (v : ℕ) → b.volumes ≤ v → state_of b.table fs v ≡ 0
  unfolding state_of
  state_zero v h = rw (record_none v h)
