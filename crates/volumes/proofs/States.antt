-- The states of volumes, told from the words of the map. Assumes nothing.
use mathlib.Core.Path.{◌≡◌, refl, sym, ap, ◌∙◌}
use mathlib.Core.Logic.{⊎_elim}
use mathlib.Core.Bool.{Bool, true, false, not, ◌||◌, cond, false≢true}
use mathlib.Core.Option.{Option, none, some}
use mathlib.Core.List.{List}
use Prim.Native.Nat.{ℕ, ◌≤◌, ◌<◌}
use native.Mathlib.Omega.{arith}
use borrow.Author.Tests.{eqb-true, eq-eqb, ne_eqb}
use lib.Dec.{eqb, ltb}
use Rattle.base.specs.Answers.{map_o}
use Rattle.base.specs.Below.{any_below, count_below}
use Rattle.base.proofs.Answers.{clash, and_left, and_right, same_test, by_option}
use Rattle.base.proofs.Below.{any_intro, any_cong, first_none, any_hit}
use Rattle.geometry.specs.declared.Geometry.{Geometry}
use Rattle.volume_record.specs.Record.{record_of}
use Rattle.volume_table.specs.Table.{record_at}
use Rattle.volume_record.specs.declared.VolumeRecord.{VolumeRecord}
use Rattle.report.specs.View.{medium_of, copy_of}
use Rattle.report.specs.Volumes.{Face, face_of, record_for, used_of, map_of, asks_crc, faulty, is_missing, lacks, state_of}
use Rattle.report.specs.Report.{entries, state_at}
use Rattle.report.proofs.Tables.{Fits, entry_fits, reserved_is}
use Rattle.copies.specs.InPlace.{header_at, copy_at, face_at}
use Rattle.copies.proofs.Copies.{static_below, copy_at_lem, face_is}
use Rattle.volumes.specs.declared.RecordNumbers.{RecordNumbers}
use Rattle.words.specs.Words.{volume_word, lnum_word, peb_word}
use Rattle.volumes.specs.Sorted.{faulty_by, numbers_of, asks_by, is_of, fault_at, FirstBelow, fewer_than_used, LacksLeb, SortedMap, NoMisfit}
use Rattle.std.specs.declared.option.Option as rust
use Rattle.std.specs.Prelude.{Some, None}
use Rattle.volumes.proofs.Counts.{count_cong, count_upto, fewer, has, count_map}
use Rattle.volumes.proofs.Words.{fs, ps, rs, es, nth, volume_is}
use Rattle.volumes.proofs.Faces.{record_there, record_not, most, leb_within, face_here, EntryOf, face_or}

lacks_dynamic : (r : VolumeRecord) (u : Option ℕ) (f : ℕ → Option Face) → (r.vol_type ≡ 2 → ⊥) → lacks r u f ≡ false
lacks_dynamic r none f n = refl
lacks_dynamic r (some u) f n = rw (ne_eqb r.vol_type 2 n)

missing_has : (F : ℕ → Face) (o : Option ℕ) → is_missing (map_o F o) ≡ not (has o)
missing_has F none = refl
missing_has F (some p) = refl

module _ {g : Geometry} {n : ℕ} {image map table : List ℕ} {count : ℕ} (d : NoMisfit g n image map table count) {v : ℕ}
    (hv : v < 128) where
  abbrev s : SortedMap g n image map table count
  s = d.sorted

  abbrev rec : VolumeRecord
  rec = record_of (record_at (rs s) v)

  module _ (there : 0 < rec.reserved) where
    is_record : record_for (rs s) v ≡ some rec
    is_record = record_there (rs s) v there

    reserves : most s hv ≡ rec.reserved
    reserves = reserved_is (rs s) v

    -- ---- entries at fault

    abbrev bad_entry : ℕ → Bool
    bad_entry = fault_at g image map v (asks_crc rec)

    abbrev bad_leb : ℕ → Bool
    bad_leb l = faulty rec (fs s v l)

    fault_leb : any_below count bad_entry ≡ true → any_below rec.reserved bad_leb ≡ true
    fault_leb e =
        let r = any_hit count bad_entry e in
        let k = r.0 in
        let b = faulty_by (asks_crc rec) (face_at g image (peb_word map k)) in
        let q : volume_word map k ≡ v = eqb-true (volume_word map k) v (and_left (is_of map v k) b r.2) in
        any_intro rec.reserved bad_leb (lnum_word map k) (rw reserves at (leb_within s hv r.1 q))
        (rw (face_here s hv r.1 q) (and_right (is_of map v k) b r.2))

    leb_fault : any_below rec.reserved bad_leb ≡ true → any_below count bad_entry ≡ true
    leb_fault e =
        let r = any_hit rec.reserved bad_leb e in
        ⊎_elim (λ (z : fs s v r.0 ≡ none). absurd (false≢true (rw z at r.2)))
        (λ (z : EntryOf map count v r.0). let a : bad_leb (lnum_word map z.at) ≡ true = rw z.leb r.2 in
        let b = rw (face_here s hv z.below z.volume) at a in
        any_intro count bad_entry z.at z.below (rw (eq-eqb (volume_word map z.at) v z.volume) b))
        (face_or s hv (rw reserves r.1))

    -- ---- missing LEBs

    entry_count : count_below count (is_of map v) ≡ count_below rec.reserved (λ l. has (ps s v l))
    unfolding entries map_of
    entry_count =
        let p : ℕ → Bool = λ k. eqb (nth (es s) k).volume v in
        count_cong count (is_of map v) p (λ k h. rw (volume_is s h)) ∙ ap (λ (c : ℕ). count_below c p) s.count_is
        ∙ rw reserves at (count_map (ps s) v 128 2 (rs s) (record { volume = 0; lnum = 0; peb = 0 }) hv (omega arith))

    module _ (static : rec.vol_type ≡ 2) where
      fits : (l : ℕ) (f : Face) → l < rec.reserved → fs s v l ≡ some f → Fits (rs s) (fs s) v rec f
      fits l f h e = entry_fits (rs s) (fs s) d.none12 v l rec f hv is_record h e

      module _ (u : ℕ) (is-used : used_of (rs s) (fs s) v ≡ some u) where
        -- past used LEBs nothing is mapped
        past : (l : ℕ) → u ≤ l → l < rec.reserved → has (ps s v l) ≡ false
        unfolding copy_of face_of
        past l a h =
            by_option (ps s v l) (λ q. rw q)
            (λ p q. let f = fits l (face_at g image p) h (face_is g n image v l ∙ ap (map_o (face_at g image)) q) in
            let k = f.same_type ∙ static in
            let c = copy_at_lem g n image v l p q in
            let w : some u ≡ some (header_at g image p).used_lebs = sym is-used ∙ f.same_used k in
            let x : u ≡ (header_at g image p).used_lebs = cc in
            absurd (omega (arith, static_below g image p (copy_at g image p) c.is k, x, c.lnum)))

        missing : u ≤ rec.reserved
            → ltb (count_below count (is_of map v)) u ≡ lacks rec (used_of (rs s) (fs s) v) (fs s v)
        missing h =
            rw (
              entry_count ∙ count_upto u rec.reserved (λ l. has (ps s v l)) h past,
              is-used,
              eq-eqb rec.vol_type 2 static,
            )
            (fewer u (λ l. has (ps s v l))
            ∙ any_cong u (λ l. not (has (ps s v l))) (λ l. is_missing (fs s v l))
            (λ l _. sym (ap is_missing (face_is g n image v l) ∙ missing_has (face_at g image) (ps s v l))))

      -- nothing is mapped
      unmapped : FirstBelow count (is_of map v) None → lacks rec (used_of (rs s) (fs s) v) (fs s v) ≡ false
      unfolding used_of
      unmapped b =
          rw (first_none (most s hv) (fs s v) (λ l k. ⊎_elim (λ (q : fs s v l ≡ none). q)
          (λ (q : EntryOf map count v l). clash (b q.at q.below) (eq-eqb (volume_word map q.at) v q.volume))
          (face_or s hv k)))

      lacking_from : (first : rust.Option ℕ) → FirstBelow count (is_of map v) first
          → fewer_than_used g image map count v first ≡ lacks rec (used_of (rs s) (fs s) v) (fs s v)
      unfolding copy_of face_of
      lacking_from None b = sym (unmapped b)
      lacking_from (Some k) b =
          let e = eqb-true (volume_word map k) v b.1 in
          let f = fits (lnum_word map k) (face_at g image (peb_word map k)) (rw reserves at (leb_within s hv b.0 e))
          (face_here s hv b.0 e) in
          let z = f.same_type ∙ static in
          missing (header_at g image (peb_word map k)).used_lebs (f.same_used z) (f.used_within z)

      lacking : {b : Bool} → LacksLeb g image map count v b → b ≡ lacks rec (used_of (rs s) (fs s) v) (fs s v)
      lacking x = x.is ∙ lacking_from x.first x.is_first

  -- ---- the state, as it is told from the record that was read

  pub state_none : (record_of (record_at table v)).reserved ≡ 0 → 0 ≡ state_at (medium_of g n image) v
  unfolding state_at state_of
  state_none e =
      rw (record_not (rs s) v (ap (λ (x : List ℕ). (record_of (record_at x v)).reserved) (sym s.table_is) ∙ e))

  module _ {r : RecordNumbers} (is : r ≡ numbers_of (record_of (record_at table v))) where
    number : {A : Type 0} (f : RecordNumbers → A) → f r ≡ f (numbers_of rec)
    number f = ap f (is ∙ ap (λ (x : List ℕ). numbers_of (record_of (record_at x v))) s.table_is)

    module _ (n0 : r.reserved ≡ 0 → ⊥) where
      there : 0 < rec.reserved
      unfolding numbers_of
      there = omega (arith, n0, number (λ k. k.reserved))

      pub state_marked : r.marker ≡ 1 → 2 ≡ state_at (medium_of g n image) v
      unfolding numbers_of state_at state_of
      state_marked e = rw (is_record there, ← (number (λ k. k.marker)), e)

      module _ (n1 : r.marker ≡ 1 → ⊥) {asks : Bool} (a : asks ≡ asks_by r) {bad : Bool}
          (b : bad ≡ any_below count (fault_at g image map v asks)) where
        pub state_is : state_at (medium_of g n image) v ≡ cond (bad || lacks rec (used_of (rs s) (fs s) v) (fs s v)) 3 1
        unfolding numbers_of state_at state_of
        state_is =
            let e : bad ≡ any_below rec.reserved (bad_leb there) =
            b ∙ ap (λ (x : Bool). any_below count (fault_at g image map v x)) (a ∙ number asks_by)
            ∙ same_test _ _ (fault_leb there) (leb_fault there) in
            rw (is_record there, ne_eqb rec.update_marker 1 (λ q. n1 (number (λ k. k.marker) ∙ q)), e)

        pub state_faulty : bad ≡ true → 3 ≡ state_at (medium_of g n image) v
        state_faulty e = sym (state_is ∙ rw e)

        module _ (fine : bad ≡ false) where
          pub state_dynamic : (r.vol_type ≡ 2 → ⊥) → 1 ≡ state_at (medium_of g n image) v
          unfolding numbers_of
          state_dynamic k =
              sym (state_is ∙ rw (
                fine,
                lacks_dynamic rec (used_of (rs s) (fs s) v) (fs s v) (λ q. k (number (λ k. k.vol_type) ∙ q)),
              ))

          pub state_static : r.vol_type ≡ 2 → {short x : Bool} → LacksLeb g image map count v short → short ≡ x
              → cond x 3 1 ≡ state_at (medium_of g n image) v
          unfolding numbers_of
          state_static k l e =
              sym (state_is ∙ rw (fine, ← (lacking there (sym (number (λ k. k.vol_type)) ∙ k) l), e))
