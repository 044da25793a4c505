-- What is found in the tables that attaching leaves is the report's. Assumes nothing.
use mathlib.Core.Path.{◌≡◌, refl, sym, ap, ap₂, ◌∙◌}
use mathlib.Core.Option.{some}
use mathlib.Core.List.Memᴰ
use mathlib.Core.List.{List, [], ◌∷◌, ◌++◌, append_assoc, Memᴰ}
use mathlib.Core.Logic.{◌⊎◌, inl, inr}
use Prim.Native.Nat.{ℕ, zero, suc, ◌+◌, ◌*◌, ◌-◌, ◌≤◌, ◌<◌}
use native.Mathlib.Omega.{arith}
use borrow.Author.Tests.{eq-eqb, eqb-true, le-leb}
use lib.Dec.{eqb}
use lib.ListN.{length, drop, replicate, length-append}
use Rattle.base.specs.Answers.{map_o}
use Rattle.base.specs.Below.{first_below, concat_below}
use Rattle.base.proofs.Answers.{and_left, and_right, none_some, map_o_some, by_test, by_option}
use Rattle.base.proofs.Below.{first_none_at, first_hit}
use Rattle.words.specs.Words.{no_word, entry_stride, map_words_needed, volume_word, lnum_word, peb_word}
use Rattle.words.proofs.Laws.{class_at_lem, counter_at_lem}
use Rattle.report.specs.View.{Medium}
use Rattle.report.specs.Volumes.{Entry, map_of}
use Rattle.report.specs.Report.{records, places, entries, class_at, counter_at}
use Rattle.report.specs.Attach.{Tables, whole, peb_words, entry_words, map_words, tables_after}
use Rattle.report.proofs.Map.{Listed, in_map}
use Rattle.report.proofs.Words.{entry_words_length, peb_words_length}
use Rattle.lookup.specs.Lookup.{peb_in, is_entry, place_at, place_in}
use Rattle.lookup.proofs.Laws.{peb_there}

-- ---- one PEB

-- the class and counter found are those of the report
pub peb_reported : (m : Medium) (lent : Tables) (i : ℕ) → i < m.count
    → peb_in (tables_after (whole m) lent).pebs m.count i ≡ some (class_at m i, counter_at m i)
unfolding peb_words
peb_reported m lent i h =
    let row : ℕ → List ℕ = λ i. class_at m i ∷ counter_at m i ∷ [] in
    let rows = concat_below m.count row in
    let rest = drop (length rows) lent.pebs in
    sym (peb_there (rows ++ rest) m.count i h (simp length-append (omega (arith, peb_words_length m))))
    ∙ rw (class_at_lem m.count row rest refl (λ j. refl) i h, counter_at_lem m.count row rest refl (λ j. refl) i h)

-- ---- one LEB

-- the words of entry i are those of e
record Holds (map : List ℕ) (i : ℕ) (e : Entry) : Type 0 where
  pub volume_is : volume_word map i ≡ e.volume
  pub lnum_is : lnum_word map i ≡ e.lnum
  pub peb_is : peb_word map i ≡ e.peb

-- an entry in front moves the others by three words
moved : (a b c : ℕ) (l : List ℕ) (i : ℕ) (e : Entry) → Holds l i e → Holds (a ∷ b ∷ c ∷ l) (suc i) e
moved a b c l i e h =
    let p : suc i * entry_stride ≡ suc (suc (suc (i * entry_stride))) = omega arith in
    let q : suc i * entry_stride + 1 ≡ suc (suc (suc (i * entry_stride + 1))) = omega arith in
    let r : suc i * entry_stride + 2 ≡ suc (suc (suc (i * entry_stride + 2))) = omega arith in
    record { volume_is = rw p h.volume_is; lnum_is = rw q h.lnum_is; peb_is = rw r h.peb_is }

module _ (r : List ℕ) where
  -- each entry has its words, and all words are an entry's
  words_of : (es : List Entry) (e : Entry) → Memᴰ e es → (i : ℕ) × (i < length es) × Holds (entry_words es ++ r) i e
  words_of [] e m = absurd (Memᴰ.not-nil m)
  words_of (x ∷ es) e m = go (Memᴰ.cases_cons m) (words_of es e)
    where
      go : (e ≡ x) ⊎ Memᴰ e es → (Memᴰ e es → (i : ℕ) × (i < length es) × Holds (entry_words es ++ r) i e)
          → (i : ℕ) × (i < suc (length es)) × Holds (entry_words (x ∷ es) ++ r) i e
      go (inl q) f = (0, omega arith, rw q (record { volume_is = refl; lnum_is = refl; peb_is = refl }))
      go (inr q) f =
          let w = f q in
          (suc w.0, omega (arith, w.1), moved x.volume x.lnum x.peb (entry_words es ++ r) w.0 e w.2)

  entry_of : (es : List Entry) (i : ℕ) → i < length es → (e : Entry) × Memᴰ e es × Holds (entry_words es ++ r) i e
  entry_of [] i h = absurd (omega arith)
  entry_of (x ∷ es) zero h = (x, Memᴰ.head refl, record { volume_is = refl; lnum_is = refl; peb_is = refl })
  entry_of (x ∷ es) (suc i) h =
      let w = entry_of es i (omega arith) in
      (w.0, Memᴰ.tail w.1, moved x.volume x.lnum x.peb (entry_words es ++ r) i w.0 w.2)

-- what a place that is found says of its entry
found_words : (map : List ℕ) (v l i p : ℕ) → place_at map v l i ≡ some p
    → (volume_word map i ≡ v) × (lnum_word map i ≡ l) × (peb_word map i ≡ p)
found_words map v l i p e =
    by_test (is_entry map v l i)
    (λ q.
    let y : some (peb_word map i) ≡ some p = rw q at e in
    (eqb-true _ _ (and_left _ (eqb (lnum_word map i) l) q), eqb-true _ _ (and_right (eqb (volume_word map i) v) _ q), cc))
    (λ q. none_some {a = p} (rw q at e))

module _ (m : Medium) (lent : Tables) where
  abbrev es : List Entry
  es = entries m

  -- the map as attaching leaves it, and as it begins with the words of the entries
  abbrev map' : List ℕ
  map' = (tables_after (whole m) lent).map

  abbrev rest : List ℕ
  rest =
      replicate (map_words_needed m.count - length (entry_words es)) no_word
      ++ drop (length (map_words m.count es)) lent.map

  abbrev words : List ℕ
  words = entry_words es ++ rest

  place_is : (v l : ℕ) → place_in map' (length es) v l ≡ map_o (λ x. x.1) (first_below (length es) (place_at words v l))
  unfolding place_in map_words
  place_is v l =
      let long : length es * entry_stride ≤ length words = simp length-append (omega (arith, entry_words_length es)) in
      let beyond = drop (length (map_words m.count es)) lent.map in
      rw (append_assoc (entry_words es) _ beyond, le-leb _ (length words) long)

  -- an entry at which a place is found
  entry_found : (v l : ℕ) (x : ℕ × ℕ) → first_below (length es) (place_at words v l) ≡ some x
      → (e : Entry) × Memᴰ e es × (e.volume ≡ v) × (e.lnum ≡ l) × (e.peb ≡ x.1)
  entry_found v l x a =
      let h = first_hit (length es) (place_at words v l) x.0 x.1 a in
      let w = entry_of rest es x.0 h.0 in
      let f = found_words words v l x.0 x.1 h.1 in
      (w.0, w.1, sym w.2.volume_is ∙ f.0, sym w.2.lnum_is ∙ f.1, sym w.2.peb_is ∙ f.2)

  -- what is found is in the map
  pub found_in_map : (v l p : ℕ) → place_in map' (length es) v l ≡ some p
      → (e : Entry) × Memᴰ e es × (e.volume ≡ v) × (e.lnum ≡ l) × (e.peb ≡ p)
  found_in_map v l p q =
      let x = map_o_some (λ x. x.1) (first_below (length es) (place_at words v l)) p (sym (place_is v l) ∙ q) in
      let w = entry_found v l x.0 x.1 in
      (w.0, w.1, w.2, w.3, w.4 ∙ x.2)

  -- two entries of one LEB name one PEB
  one_place : (d e : Entry) → Memᴰ d es → Memᴰ e es → d.volume ≡ e.volume → d.lnum ≡ e.lnum
      → some d.peb ≡ some e.peb
  unfolding entries map_of
  one_place d e k j v l =
      let listed : (x : Entry) → Memᴰ x es → Listed 128 2 (records m) (places m) x = in_map 128 2 _ (places m) in
      sym (listed d k).place ∙ ap₂ (places m) v l ∙ (listed e j).place

  -- what is in the map is found
  pub in_map_found : (e : Entry) → Memᴰ e es → place_in map' (length es) e.volume e.lnum ≡ some e.peb
  in_map_found e k =
      let at = place_at words e.volume e.lnum in
      place_is e.volume e.lnum
      ∙ by_option (first_below (length es) at)
      (λ a.
      let w = words_of rest es e k in
      none_some {a = peb_word words w.0}
      (sym (first_none_at (length es) at a w.0 w.1)
      ∙ rw (eq-eqb _ _ w.2.volume_is, eq-eqb _ _ w.2.lnum_is)))
      (λ x a.
      let u = entry_found e.volume e.lnum x a in
      rw a (ap some (sym u.4) ∙ one_place u.0 e u.1 k u.2 u.3))
