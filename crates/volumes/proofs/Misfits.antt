-- Refusal 12 by a search volume by volume. Assumes nothing.
use mathlib.Core.Path.{◌≡◌, refl, sym, ap, ◌∙◌}
use mathlib.Core.Logic.{⊎_elim}
use mathlib.Core.Bool.{Bool, false}
use mathlib.Core.Option.{Option, none, some}
use mathlib.Core.List.{List}
use Prim.Native.Nat.{ℕ, ◌<◌}
use native.Mathlib.Omega.{arith}
use borrow.Author.Tests.{eqb-true, eq-eqb}
use Rattle.base.proofs.Answers.{clash, and_left, and_right}
use Rattle.base.proofs.Below.{first_none, first_lowest}
use Rattle.geometry.specs.declared.Geometry.{Geometry}
use Rattle.volume_record.specs.Record.{record_of}
use Rattle.volume_table.specs.Table.{record_at}
use Rattle.volume_record.specs.declared.VolumeRecord.{VolumeRecord}
use Rattle.report.specs.View.{medium_of, copy_of}
use Rattle.report.specs.Scan.{when}
use Rattle.report.specs.Volumes.{face_of, record_for, used_of, misfit, misfit_in, misfit_at}
use Rattle.report.specs.Report.{taken}
use Rattle.report.proofs.Tables as tables
use Rattle.copies.specs.InPlace.{header_at}
use Rattle.volumes.specs.declared.RecordNumbers.{RecordNumbers}
use Rattle.words.specs.Words.{volume_word, lnum_word, peb_word}
use Rattle.volumes.specs.Sorted.{numbers_of, is_of, misfit_by, misfit_entry, FirstBelow, FirstMisfit, VolumeMisfit, table_refusal, misfit_refusal, SortedMap, NoMisfit}
use Rattle.std.specs.declared.option.Option as rust
use Rattle.std.specs.Prelude.{Some, None, MatchOption}
use Rattle.std.proofs.lemmas.Option.{none-some}
use Rattle.volumes.proofs.Words.{fs, ps, rs, place_is, lower_first}
use Rattle.volumes.proofs.Faces.{record_not, most, leb_within, face_here, record_here, EntryOf, face_or, used_first}

no_misfit : (r : Option VolumeRecord) (u : Option ℕ) → misfit r u none ≡ none
no_misfit none u = refl
no_misfit (some r) u = refl

module _ {g : Geometry} {n : ℕ} {image map table : List ℕ} {count : ℕ} (s : SortedMap g n image map table count) where
  -- in one volume
  module _ {v : ℕ} (hv : v < 128) {r : RecordNumbers} (is : r ≡ numbers_of (record_of (record_at table v))) where
    abbrev test : ℕ → Option ℕ
    test l = misfit (record_for (rs s) v) (used_of (rs s) (fs s) v) (fs s v l)

    -- a LEB with no face is none
    no_face : (l : ℕ) → fs s v l ≡ none → test l ≡ none
    no_face l q = rw q (no_misfit (record_for (rs s) v) (used_of (rs s) (fs s) v))

    no_entry_in : ((j : ℕ) → j < count → is_of map v j ≡ false) → misfit_in (rs s) (fs s) v ≡ none
    unfolding misfit_in
    no_entry_in b =
        rw (first_none (most s hv) test
        (λ l q. ⊎_elim (no_face l)
        (λ (e : EntryOf map count v l). clash (b e.at e.below) (eq-eqb (volume_word map e.at) v e.volume))
        (face_or s hv q)))

    module _ {first : ℕ} (f : FirstBelow count (is_of map v) (Some first)) where
      abbrev named : ℕ → Bool
      named = misfit_entry g image map v r first

      abbrev told : ℕ → Bool
      told j = misfit_by r (header_at g image (peb_word map first)).used_lebs (header_at g image (peb_word map j))

      -- the test on a copy's header is the one on its face
      test_entry : {j : ℕ} → j < count → volume_word map j ≡ v → {b : Bool} → told j ≡ b
          → test (lnum_word map j) ≡ when b 12
      unfolding copy_of face_of numbers_of misfit_by
      test_entry h e {b} z =
          let q : r ≡ numbers_of (record_of (record_at (rs s) v)) =
          is ∙ ap (λ (x : List ℕ). numbers_of (record_of (record_at x v))) s.table_is in
          rw (record_here s hv h e, used_first s hv f, face_here s hv h e) (ap (λ (b : Bool). when b 12) (rw q at z))

      -- a LEB is no misfit if its entry is none
      fine : {l : ℕ} → l < most s hv
          → ((j : ℕ) → j < count → volume_word map j ≡ v → lnum_word map j ≡ l → named j ≡ false) → test l ≡ none
      fine {l} h z =
          ⊎_elim (no_face l)
          (λ (q : EntryOf map count v l). let j = q.at in
          ap test (sym q.leb) ∙ test_entry q.below q.volume
          (rw (eq-eqb (volume_word map j) v q.volume) at (z j q.below q.volume q.leb)))
          (face_or s hv h)

      none_told : FirstBelow count named None → misfit_in (rs s) (fs s) v ≡ none
      unfolding misfit_in
      none_told b = rw (first_none (most s hv) test (λ l q. fine q (λ j a _ _. b j a)))

      some_told : {k : ℕ} → FirstBelow count named (Some k) → VolumeMisfit (medium_of g n image) map count v (Some k)
      unfolding misfit_in
      some_told {k} b =
          let e = eqb-true (volume_word map k) v (and_left (is_of map v k) (told k) b.1) in
          let c = leb_within s hv b.0 e in
          let t : test (lnum_word map k) ≡ some 12 = test_entry b.0 e (and_right (is_of map v k) (told k) b.1) in (
            b.0,
            e,
            rw
                (first_lowest (most s hv) test (lnum_word map k) 12 c t
                (λ l q. fine (omega (arith, c))
                (λ j x y z. b.2 j (lower_first s x b.0 (y ∙ sym e) (omega (arith, z)))))),
          )

    pub misfit_told : (k : rust.Option ℕ) → FirstMisfit g image map count v r k
        → VolumeMisfit (medium_of g n image) map count v k
    misfit_told k f = go k f.first f.is_first f.is
      where
        go : (k first : rust.Option ℕ) → FirstBelow count (is_of map v) first
            → MatchOption first (k ≡ None) (λ f. FirstBelow count (misfit_entry g image map v r f) k)
            → VolumeMisfit (medium_of g n image) map count v k
        go None None b e = no_entry_in b
        go None (Some first) b e = none_told b e
        go (Some k) None b e = absurd (none-some k (sym e))
        go (Some k) (Some first) b e = some_told b e

  -- a volume with no record has no entry
  pub no_record : (v : ℕ) → (record_of (record_at table v)).reserved ≡ 0 → misfit_in (rs s) (fs s) v ≡ none
  unfolding misfit_in
  no_record v e =
      rw (record_not (rs s) v (ap (λ (x : List ℕ). (record_of (record_at x v)).reserved) (sym s.table_is) ∙ e))

  -- ---- in the map

  -- an entry of a volume is the first of the map if the volumes below have none
  pub refused_here : {v : ℕ} → v < 128 → {k : ℕ} → VolumeMisfit (medium_of g n image) map count v (Some k)
      → ((w : ℕ) → w < v → misfit_in (rs s) (fs s) w ≡ none)
      → misfit_refusal map (Some k) ≡ table_refusal (medium_of g n image)
  unfolding misfit_at
  refused_here {v} hv {k} m z =
      let p : ps s v (lnum_word map k) ≡ some (peb_word map k) = rw m.1 at (place_is s m.0) in
      rw (s.taken_is, first_lowest 128 (misfit_in (rs s) (fs s)) v (lnum_word map k) hv m.2 z, p)

  pub not_refused : ((w : ℕ) → w < 128 → misfit_in (rs s) (fs s) w ≡ none)
      → misfit_refusal map None ≡ table_refusal (medium_of g n image)
  unfolding misfit_at
  not_refused z = rw (s.taken_is, first_none 128 (misfit_in (rs s) (fs s)) z)

  -- so where the search finds none, no entry is a misfit
  pub none_misfits : misfit_refusal map None ≡ table_refusal (medium_of g n image) → NoMisfit g n image map table count
  none_misfits e =
      record { sorted = s; none12 = tables.no_misfit (taken (medium_of g n image)) (rs s) (fs s) (ps s) (sym e) }
