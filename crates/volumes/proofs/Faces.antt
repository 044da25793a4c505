-- What an entry of a user volume says of its LEB, by the report's definitions. Assumes nothing.
use mathlib.Core.Path.{◌≡◌, refl, sym, ap, ◌∙◌}
use mathlib.Core.Logic.{◌⊎◌, inl, inr}
use mathlib.Core.Option.{none, some}
use mathlib.Core.List.{List}
use Prim.Native.Nat.{ℕ, ◌<◌}
use native.Mathlib.Omega.{arith}
use borrow.Author.Tests.{lt-ltb, eq-eqb, eqb-true}
use Rattle.base.specs.Answers.{map_o}
use Rattle.base.specs.Below.{first_below}
use Rattle.geometry.specs.declared.Geometry.{Geometry}
use Rattle.volume_record.specs.Record.{record_of}
use Rattle.volume_table.specs.Table.{record_at}
use Rattle.report.specs.View.{copy_of}
use Rattle.report.specs.Volumes.{face_of, record_for, reserved_of, used_of}
use Rattle.report.proofs.Tables.{reserved_is}
use Rattle.copies.specs.InPlace.{header_at, face_at}
use Rattle.copies.proofs.Copies.{face_is}
use Rattle.words.specs.Words.{volume_word, lnum_word, peb_word}
use Rattle.std.specs.Prelude.{Some}
use Rattle.volumes.specs.Sorted.{is_of, FirstBelow, SortedMap}
use Rattle.base.proofs.Answers.{clash, by_option}
use Rattle.base.proofs.Below.{first_lowest}
use Rattle.volumes.proofs.Words.{fs, ps, rs, place_is, leb_below, index_of, lower_first}

pub used_is : (g : Geometry) (image : List ℕ) (i : ℕ) → (face_at g image i).used ≡ (header_at g image i).used_lebs
unfolding copy_of face_of
used_is g image i = refl

-- a record that reserves something is there
pub record_there : (t : List ℕ) (v : ℕ) → 0 < (record_of (record_at t v)).reserved
    → record_for t v ≡ some (record_of (record_at t v))
unfolding record_for
record_there t v h = rw (lt-ltb 0 (record_of (record_at t v)).reserved h)

pub record_not : (t : List ℕ) (v : ℕ) → (record_of (record_at t v)).reserved ≡ 0 → record_for t v ≡ none
unfolding record_for
record_not t v e = rw e

-- an entry of a volume's LEB
pub record EntryOf (map : List ℕ) (count v l : ℕ) : Type 0 where
  pub at : ℕ
  pub below : at < count
  pub volume : volume_word map at ≡ v
  pub leb : lnum_word map at ≡ l

module _ {g : Geometry} {n : ℕ} {image map table : List ℕ} {count : ℕ} (s : SortedMap g n image map table count) {v : ℕ}
    (hv : v < 128) where
  abbrev pub most : ℕ
  most = reserved_of (record_for (rs s) v)

  module _ {k : ℕ} (h : k < count) (e : volume_word map k ≡ v) where
    pub leb_within : lnum_word map k < most
    leb_within = rw e at (leb_below s h (rw e hv))

    pub face_here : fs s v (lnum_word map k) ≡ some (face_at g image (peb_word map k))
    face_here = face_is g n image v (lnum_word map k) ∙ ap (map_o (face_at g image)) (rw e at (place_is s h))

    pub record_here : record_for (rs s) v ≡ some (record_of (record_at (rs s) v))
    record_here = record_there (rs s) v (omega (arith, leb_within, reserved_is (rs s) v))

  -- a LEB of this volume has no face, or an entry
  pub face_or : {l : ℕ} → l < most → (fs s v l ≡ none) ⊎ EntryOf map count v l
  face_or {l} h =
      by_option (ps s v l) (λ q. inl (face_is g n image v l ∙ ap (map_o (face_at g image)) q))
      (λ p q. let r = index_of s hv h q in inr (record { at = r.0; below = r.1; volume = r.2; leb = r.3 }))

  module _ {first : ℕ} (f : FirstBelow count (is_of map v) (Some first)) where
    -- below the LEB of the first entry there is none
    pub used_first : used_of (rs s) (fs s) v ≡ some (header_at g image (peb_word map first)).used_lebs
    unfolding used_of
    used_first =
        let h = f.0 in
        let e : volume_word map first ≡ v = eqb-true (volume_word map first) v f.1 in
        let w : first_below most (fs s v) ≡ some (lnum_word map first, face_at g image (peb_word map first)) =
        first_lowest most (fs s v) (lnum_word map first) (face_at g image (peb_word map first)) (leb_within h e)
        (face_here h e)
        (λ l k. below k (face_or (omega (arith, leb_within h e)))) in
        rw (w, used_is g image (peb_word map first))
      where
        below : {l : ℕ} → l < lnum_word map first → (fs s v l ≡ none) ⊎ EntryOf map count v l → fs s v l ≡ none
        below k (inl q) = q
        below k (inr q) =
            let e = eqb-true (volume_word map first) v f.1 in
            let z = lower_first s q.below f.0 (q.volume ∙ sym e) (omega (arith, q.leb)) in
            clash (f.2 q.at z) (eq-eqb (volume_word map q.at) v q.volume)
