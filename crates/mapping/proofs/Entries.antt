-- What the settled words come to: the report's classes and counters, and, by way of the slots, the words of the map.
-- Assumes nothing.
use mathlib.Core.Path.{◌≡◌, refl, sym, ap, ap₂, ◌∙◌}
use mathlib.Core.Logic.{inl, inr, ⊎_elim}
use mathlib.Core.Bool.{Bool, true, false, cond, or-true}
use mathlib.Core.Option.{Option, none, some}
use mathlib.Core.List.{List, [], ◌∷◌, ◌++◌, append_assoc}
use Prim.Native.Nat.{ℕ, ◌+◌, ◌-◌, ◌≤◌, ◌<◌}
use native.Mathlib.Omega.{arith}
use borrow.Author.Tests.{eq-eqb, ne_eqb, eqb-true, ltb-true, lt-ltb}
use lib.Dec.{eqb, ltb}
use lib.ListN.{length, take, drop, get_or, replicate}
use lib.Seq.{length-take-le, drop-drop}
use Rattle.base.specs.Answers.{map_o}
use Rattle.base.specs.Below.{sum_below, concat_below}
use Rattle.base.proofs.Answers.{or_true_cases, none_some, by_option}
use Rattle.base.proofs.Rows.{rows_tail, concat_cong}
use Rattle.header.specs.Vid.{layout_volume}
use Rattle.words.specs.Words.{no_word, entry_stride, most_pebs, map_words_needed, class_word, counter_word, volume_word, lnum_word, peb_word}
use Rattle.words.proofs.Laws.{class_at_lem, counter_at_lem, volume_at, lnum_at, peb_at_lem}
use Rattle.report.proofs.Facts.{place_is}
use Rattle.report.specs.View.{Copy, EcView, ec_good, ec_newer, ec_blank, ec_lost, VidView, vid_good, vid_newer, vid_blank, vid_bad, Medium, ecs, copies, good_vid, is_mappable}
use Rattle.report.specs.Choice.{chosen}
use Rattle.report.specs.Volumes.{Places, places_of, record_for, reserved_of, map_up_to, map_of}
use Rattle.report.specs.Report.{counter_or, is_place, stays_in, class_of, places, entries, class_at, counter_at}
use Rattle.report.specs.Attach.{entry_words, peb_words, map_words}
use Rattle.report.specs.Scratch.{key_words, marked_class}
use Rattle.report.proofs.Choice.{chosen_at}
use Rattle.report.proofs.Words.{entry_words_length}
use Rattle.mapping.specs.Settle.{settled_class, settled_key, class_from, peb_row, map_row, Settled, Marked, Mapped}
use Rattle.map_slots.specs.Slots.{first_slots, slot_of, row_slot, slot_word, Slots, in_slot, all_entries, Collected}
use Rattle.map_slots.proofs.Reserved.{reserved_fit}
use Rattle.map_slots.proofs.SlotLaws.{HasSlot, slot_within, slot_apart, none_there, one_there, entries_from}

-- ---- classes

-- a marked class, settled, is the report's
class_is : (t : List ℕ) (ps : Places) (i : ℕ) (e : EcView) (v : VidView)
    → settled_class t (marked_class ps i e v) (get_or (key_words i v) 0 0) (get_or (key_words i v) 1 0) ≡ class_of t ps i e v
class_is t ps i e (vid_good c) = go (is_mappable c.header.volume) (is_place at i) (eqb c.header.compat 1)
  where
    at : Option ℕ
    at = ps c.header.volume c.header.lnum

    words : Bool → List ℕ
    words m = cond m (c.header.volume ∷ c.header.lnum ∷ i ∷ []) (no_word ∷ no_word ∷ no_word ∷ [])

    go : (m p k : Bool) → settled_class t (cond m (cond p 1 2) (cond k 5 6)) (get_or (words m) 0 0) (get_or (words m) 1 0)
        ≡ cond m (cond p (cond (stays_in t c.header.volume c.header.lnum) 1 5) 2) (cond k 5 6)
    go true true k = refl
    go true false k = refl
    go false p true = refl
    go false p false = refl
class_is t ps i (ec_good h) vid_blank = refl
class_is t ps i ec_newer vid_blank = refl
class_is t ps i ec_blank vid_blank = refl
class_is t ps i ec_lost vid_blank = refl
class_is t ps i e vid_newer = refl
class_is t ps i e vid_bad = refl

-- ---- which PEBs are in the map

place_chosen : (x : Option (ℕ × Copy)) (p : ℕ) → map_o (λ (y : ℕ × Copy). y.0) x ≡ some p
    → (c : Copy) × (x ≡ some (p, c))
place_chosen none p e = none_some e
place_chosen (some y) p e = (y.1, ap (λ (q : ℕ). some (q, y.1)) (let z : y.0 ≡ p = cc in z))

good_inv : (v : VidView) (c : Copy) → good_vid v ≡ some c → v ≡ vid_good c
good_inv (vid_good d) c e = ap vid_good (let z : d ≡ c = cc in z)
good_inv vid_newer c e = none_some e
good_inv vid_blank c e = none_some e
good_inv vid_bad c e = none_some e

-- the row of PEB i, and that of a PEB that is not in the map
abbrev row_at : List ℕ → ℕ → List ℕ
row_at rows i = volume_word rows i ∷ lnum_word rows i ∷ peb_word rows i ∷ []

abbrev unused : List ℕ
unused = no_word ∷ no_word ∷ no_word ∷ []

module _ (m : Medium) where
  abbrev key_row : ℕ → List ℕ
  key_row i = key_words i (m.views i).vid

  abbrev marked_row : ℕ → List ℕ
  marked_row i = marked_class (places m) i (m.views i).ec (m.views i).vid ∷ counter_or no_word (ecs m.views i) ∷ []

  -- the row of PEB i, settled
  abbrev settled_row : List ℕ → ℕ → List ℕ
  settled_row t i =
      settled_key (class_of t (places m) i (m.views i).ec (m.views i).vid) (get_or (key_row i) 0 0) (get_or (key_row i) 1 0)

-- ---- the rows in their slots

module _ (t : List ℕ) (m : Medium)
    (layout_small : (i : ℕ) (c : Copy) → copies m.views i ≡ some c → c.header.volume ≡ layout_volume
    → c.header.lnum < 2)
    (two : 2 ≤ m.count) (few : m.count ≤ most_pebs)
    (fits : (v : ℕ) → sum_below v (λ (v : ℕ). reserved_of (record_for t v)) ≤ m.count - 2) (rows : List ℕ)
    (row : (i : ℕ) → i < m.count → row_at rows i ≡ settled_row m t i) where
  abbrev ps : Places
  ps = places m

  abbrev firsts : List ℕ
  firsts = first_slots m.count t

  has_slot : (i : ℕ) (c : Copy) → copies m.views i ≡ some c → is_mappable c.header.volume ≡ true
      → stays_in t c.header.volume c.header.lnum ≡ true → HasSlot t c.header.volume c.header.lnum
  has_slot i c e k s =
      let v = c.header.volume in
      ⊎_elim
      (λ (u : ltb v 128 ≡ true).
      let l : v < 128 = ltb-true _ _ u in
      inl (l, ltb-true _ _ (rw (ne_eqb v layout_volume (λ (z : v ≡ layout_volume). absurd (omega arith))) at s)))
      (λ (u : eqb v layout_volume ≡ true). let l : v ≡ layout_volume = eqb-true _ _ u in inr (l, layout_small i c e l))
      (or_true_cases (ltb v 128) (eqb v layout_volume) k)

  -- a row with the slot of a LEB is that of the LEB's PEB
  placed : (v l i : ℕ) → HasSlot t v l → i < m.count → row_slot firsts rows i ≡ slot_of firsts v l → ps v l ≡ some i
  placed v l i h j e = go (m.views i).vid refl
    where
      not_unused : row_at rows i ≡ unused → ps v l ≡ some i
      not_unused q =
          let x : volume_word rows i ≡ no_word = cc in
          let y : lnum_word rows i ≡ no_word = cc in
          absurd (omega (arith, rw (x, y) at e, slot_within m.count t two fits v l h))

      none_of : (b : Bool) → cond b no_word no_word ∷ cond b no_word no_word ∷ no_word ∷ [] ≡ unused
      none_of true = refl
      none_of false = refl

      same_leb_lem : (v' l' : ℕ) → HasSlot t v' l' → ps v' l' ≡ some i → row_at rows i ≡ v' ∷ l' ∷ no_word ∷ []
          → ps v l ≡ some i
      same_leb_lem v' l' k p q =
          let x : volume_word rows i ≡ v' = cc in
          let y : lnum_word rows i ≡ l' = cc in
          let z = slot_apart m.count t two fits v' l' v l k h (rw (x, y) at e) in
          ap₂ ps (sym z.0) (sym z.1) ∙ p

      go : (w : VidView) → (m.views i).vid ≡ w → ps v l ≡ some i
      go (vid_good c) q = at (is_mappable cv) refl (is_place (ps cv cl) i) refl (stays_in t cv cl) refl
        where
          cv : ℕ
          cv = c.header.volume

          cl : ℕ
          cl = c.header.lnum

          at : (a : Bool) → is_mappable cv ≡ a → (b : Bool) → is_place (ps cv cl) i ≡ b → (s : Bool) → stays_in t cv cl ≡ s
              → ps v l ≡ some i
          at true x true y true z =
              same_leb_lem cv cl (has_slot i c (ap good_vid q) x z) (place_is _ i y) (row i j ∙ rw (q, x, y, z))
          at true x true y false z = not_unused (row i j ∙ rw (q, x, y, z))
          at true x false y s z = not_unused (row i j ∙ rw (q, x, y))
          at false x b y s z = not_unused (row i j ∙ rw (q, x) (none_of (eqb (cond (eqb c.header.compat 1) 5 6) 1)))
      go vid_blank q = not_unused (row i j ∙ rw q (none_of (eqb (class_of t ps i (m.views i).ec vid_blank) 1)))
      go vid_newer q = not_unused (row i j ∙ rw q)
      go vid_bad q = not_unused (row i j ∙ rw q)

  maps_stays : (v l : ℕ) → HasSlot t v l → (is_mappable v ≡ true) × (stays_in t v l ≡ true)
  maps_stays v l (inl h) = (rw (lt-ltb _ _ h.0), rw (lt-ltb _ _ h.1) (or-true (eqb v layout_volume)))
  maps_stays v l (inr h) = (rw (eq-eqb _ _ h.0) (or-true (ltb v 128)), rw (eq-eqb _ _ h.0))

  -- and the PEB of a LEB has its slot
  has : (v l p : ℕ) → HasSlot t v l → ps v l ≡ some p → (p < m.count) × (row_slot firsts rows p ≡ slot_of firsts v l)
  unfolding places_of
  has v l p h e =
      let x = place_chosen (chosen m.count (copies m.views) v l) p e in
      let a = chosen_at m.count (copies m.views) v l p x.0 x.1 in
      let k = maps_stays v l h in
      let g = good_inv (m.views p).vid x.0 a.1 in
      let w : row_at rows p ≡ v ∷ l ∷ no_word ∷ [] = row p a.0 ∙ rw (g, a.2, a.3, k.0, e, eq-eqb p p refl, k.1) in
      let y : volume_word rows p ≡ v = cc in
      let z : lnum_word rows p ≡ l = cc in
      (a.0, rw (y, z))

  -- what a slot holds is the place of its LEB
  slot_holds : (map : List ℕ) → Slots m.count (slot_word firsts rows m.count) rows map → (v l : ℕ) → HasSlot t v l
      → in_slot map (slot_of firsts v l) ≡ ps v l
  slot_holds map o v l h =
      let s = slot_of firsts v l in
      let within = slot_within m.count t two fits v l h in
      by_option (ps v l)
      (λ q.
      let z : peb_word rows s ≡ no_word = cc (row s within) in
      let n = none_there firsts rows s m.count (λ i b e. none_some (sym q ∙ placed v l i h b e)) in
      rw (eq-eqb _ _ (o.holds s within ∙ n ∙ z), q))
      (λ p q.
      let a = has v l p h q in
      let only : (i : ℕ) → i < m.count → row_slot firsts rows i ≡ s → i ≡ p = λ i b e.
      let z : some i ≡ some p = sym (placed v l i h b e) ∙ q in cc in
      let w = o.holds s within ∙ one_there firsts rows s m.count p a.0 a.1 only in
      rw (w, ne_eqb p no_word (λ y. omega (arith, a.0)), q))

  slots_are : (map : List ℕ) → Slots m.count (slot_word firsts rows m.count) rows map
      → all_entries firsts m.count map ≡ map_up_to 128 2 t ps
  slots_are map o = entries_from m.count t two fits map ps (slot_holds map o)

-- ---- both tables

module _ {m : Medium} {t pebs map : List ℕ} (o : Marked m t pebs map) where
  class_word_lem : (i : ℕ) → i < m.count
      → class_word pebs i ≡ marked_class (places m) i (m.views i).ec (m.views i).vid
  class_word_lem = class_at_lem m.count (marked_row m) _ o.pebs_are (λ j. refl)

  counter_word_lem : (i : ℕ) → i < m.count → counter_word pebs i ≡ counter_or no_word (ecs m.views i)
  counter_word_lem = counter_at_lem m.count (marked_row m) _ o.pebs_are (λ j. refl)

  class_settled : (i : ℕ) → i < m.count
      → class_from t pebs map i ≡ class_of t (places m) i (m.views i).ec (m.views i).vid
  class_settled i h =
      rw (class_word_lem i h, o.volumes i h, o.lnums i h) (class_is t (places m) i (m.views i).ec (m.views i).vid)

  peb_row_lem : (i : ℕ) → i < m.count → peb_row t pebs map i ≡ class_at m i ∷ counter_at m i ∷ []
  unfolding class_at counter_at
  peb_row_lem i h = rw (class_settled i h, counter_word_lem i h, o.table_is)

  peb_words_lem : concat_below m.count (peb_row t pebs map) ≡ peb_words m
  unfolding peb_words
  peb_words_lem = concat_cong m.count _ _ peb_row_lem

  -- settled, and then through the slots, with the rows behind the last entry left unused
  module _ {pebs' map₁ map₂ map₃ fs : List ℕ} {k : ℕ} (s : Settled t m.count pebs pebs' map map₁)
      (two : 2 ≤ m.count) (few : m.count ≤ most_pebs) (q : fs ≡ first_slots m.count t)
      (long : map_words_needed m.count ≤ length map₃)
      (f : Slots m.count (slot_word fs map₁ m.count) map₁ map₂)
      (x : Collected (all_entries fs m.count map₂) 0 m.count k map₂ map₃) where
    row : (i : ℕ) → i < m.count → row_at map₁ i ≡ settled_row m t i
    row i h =
        let r = map_row t pebs map in
        let d = drop (map_words_needed m.count) map in
        rw (
          volume_at m.count r d s.map_is (λ j. refl) i h,
          lnum_at m.count r d s.map_is (λ j. refl) i h,
          peb_at_lem m.count r d s.map_is (λ j. refl) i h,
          class_settled i h,
          o.volumes i h,
          o.lnums i h,
        )

    collected : take (map_words_needed k) map₃ ≡ entry_words (entries m)
    unfolding entries map_of
    collected =
        x.words
        ∙ ap entry_words
        (ap (λ (a : List ℕ). all_entries a m.count map₂) q
        ∙ slots_are t m o.layout_small two few (λ v. rw o.table_is (reserved_fit m v)) map₁ row map₂ (rw q at f)
        ∙ ap (λ (r : List ℕ). map_up_to 128 2 r (places m)) o.table_is)

    words_long : map_words_needed k ≡ length (entry_words (entries m))
    words_long = sym (length-take-le (map_words_needed k) map₃ (omega (arith, x.within))) ∙ ap length collected

    tail_is : drop (map_words_needed m.count) map₃ ≡ drop (map_words_needed m.count) map
    tail_is =
        x.rest ∙ f.rest
        ∙ rw s.map_is (rows_tail m.count m.count entry_stride (map_row t pebs map) map (λ j. refl) (omega arith))

    -- the words behind the entries
    abbrev behind : ℕ
    behind = map_words_needed m.count - map_words_needed k

    pub mapped : {w : List ℕ} → w ≡ replicate behind no_word
        → Mapped m k pebs pebs' map
        (take (map_words_needed k) map₃ ++ (w ++ drop behind (drop (map_words_needed k) map₃)))
    unfolding map_words
    mapped e =
        let at = map_words_needed k in
        let b : at + behind ≡ map_words_needed m.count = omega (arith, x.within) in
        record {
          pebs_are = rw (← peb_words_lem) s.pebs_are;
          map_is = rw (e, drop-drop behind at map₃, b)
              (rw (tail_is, collected, words_long)
              (sym (append_assoc (entry_words (entries m)) _ (drop (map_words_needed m.count) map))));
          count_is = omega (arith, words_long, entry_words_length (entries m));
        }
