-- The words of the sorted map: what each entry says, where a mapped LEB's entry is, their order. Assumes nothing.
use mathlib.Core.Path.{◌≡◌, refl, sym, ap, ◌∙◌}
use mathlib.Core.Logic.{inl, ⊎_elim}
use mathlib.Core.Option.{some}
use mathlib.Core.List.{List, [], ◌∷◌}
use Prim.Native.Nat.{ℕ, zero, suc, ◌+◌, ◌*◌, ◌≤◌, ◌<◌}
use native.Mathlib.Nat.{mul-le-mul_right, min-le_left}
use native.Mathlib.Omega.{arith}
use borrow.Author.Tests.{leb-true, ltb-true, ltb-false}
use lib.Dec.{ltb}
use lib.ListN.{length, get_or, length-append, length-take, get_or-append}
use lib.Seq.{get_or-take}
use Rattle.base.specs.Answers.{given}
use Rattle.base.proofs.Answers.{each_holds, by_test}
use Rattle.geometry.specs.declared.Geometry.{Geometry}
use Rattle.header.specs.Vid.{layout_volume}
use Rattle.volume_table.specs.Table.{record_count, records_part, table_tests, table_good}
use Rattle.report.specs.View.{Medium, medium_of}
use Rattle.report.specs.Volumes.{Faces, Places, table_leb, table_records, record_for, reserved_of, Entry, map_of}
use Rattle.report.specs.Report.{faces, places, records, entries, taken}
use Rattle.report.specs.Attach.{entry_words, map_words}
use Rattle.report.proofs.Map.{Ascending, Before, Listed, in_map, map_has, map_ascends}
use Rattle.report.proofs.Tables as tables
use Rattle.report.proofs.Words.{entry_words_length}
use Rattle.copies.specs.InPlace.{HasCopy}
use Rattle.copies.proofs.Copies.{copy_at_lem}
use Rattle.words.specs.Words.{volume_word, lnum_word, peb_word}
use Rattle.volumes.specs.Sorted.{Entries, SortedMap}
use Rattle.base.proofs.Lists.{get_d_mem, mem_get_d}

-- ---- a list of entries, by number

abbrev no_entry : Entry
no_entry = record { volume = 0; lnum = 0; peb = 0 }

abbrev pub nth : List Entry → ℕ → Entry
nth es k = get_or es k no_entry

nth_before : (es : List Entry) → Ascending Before es → (i j : ℕ) → i < j → j < length es → Before (nth es i) (nth es j)
nth_before [] a i j h k = absurd (omega arith)
nth_before (e ∷ es) a i zero h k = absurd (omega arith)
nth_before (e ∷ es) a zero (suc j) h k = a.0 (nth es j) (get_d_mem no_entry es j (omega arith))
nth_before (e ∷ es) a (suc i) (suc j) h k = nth_before es a.1 i j (omega arith) (omega arith)

abbrev triple : Entry → List ℕ
triple e = e.volume ∷ e.lnum ∷ e.peb ∷ []

words_at : (es : List Entry) (k j : ℕ) → k < length es → j < 3
    → get_or (entry_words es) (k * 3 + j) 0 ≡ get_or (triple (nth es k)) j 0
words_at [] k j h l = absurd (omega arith)
words_at (e ∷ es) zero zero h l = refl
words_at (e ∷ es) zero (suc zero) h l = refl
words_at (e ∷ es) zero (suc (suc zero)) h l = refl
words_at (e ∷ es) zero (suc (suc (suc j))) h l = absurd (omega arith)
words_at (e ∷ es) (suc k) j h l =
    let q : suc k * 3 + j ≡ suc (suc (suc (k * 3 + j))) = omega arith in
    rw q (words_at es k j (omega arith) l)

-- the records of the table taken are whole
pub records_long : (m : Medium) {l : ℕ} → taken m ≡ given l
    → length (records m) ≡ 172 * record_count m.geometry.leb_size
unfolding table_leb table_records table_good table_tests records_part
records_long m e =
    let g = m.geometry in
    let f = tables.taken g.leb_size g.unit m.count _ _ _ e in
    let c = record_count g.leb_size in
    let p = records_part g.leb_size f.content in
    let a : 172 * c ≤ length p =
    leb-true (172 * c) (length p) (each_holds (table_tests c g.leb_size g.unit m.count p) f.good 1) in
    let b : length p ≤ 172 * c = rw length-take (min-le_left (172 * c) (length f.content)) in
    rw f.is (omega arith)

module _ {g : Geometry} {n : ℕ} {image map table : List ℕ} {count : ℕ} (s : SortedMap g n image map table count) where
  abbrev pub fs : Faces
  fs = faces (medium_of g n image)

  abbrev pub ps : Places
  ps = places (medium_of g n image)

  abbrev pub rs : List ℕ
  rs = records (medium_of g n image)

  abbrev pub es : List Entry
  es = entries (medium_of g n image)

  -- the table is whole
  pub table_long : length table ≡ 172 * record_count g.leb_size
  table_long = ap length s.table_is ∙ records_long (medium_of g n image) s.taken_is

  -- ---- the words of the map

  pub within : (count * 3 ≤ length map) × (count ≤ n)
  unfolding map_words
  within =
      let e = simp (length-take, length-append) at (ap length s.words) in
      omega (arith, e, entry_words_length es, s.count_is)

  word : (k j : ℕ) → k < count → j < 3 → get_or map (k * 3 + j) 0 ≡ get_or (triple (nth es k)) j 0
  unfolding map_words
  word k j h l =
      sym (get_or-take (n * 3) map (k * 3 + j) 0 (omega (arith, within)))
      ∙ ap (λ (w : List ℕ). get_or w (k * 3 + j) 0) s.words
      ∙ get_or-append (entry_words es) _ 0 (k * 3 + j) (omega (arith, entry_words_length es, s.count_is))
      ∙ words_at es k j (omega (arith, s.count_is)) l

  module _ {k : ℕ} (h : k < count) where
    pub volume_is : volume_word map k ≡ (nth es k).volume
    volume_is = let e : k * 3 ≡ k * 3 + 0 = omega arith in rw e (word k 0 h (omega arith))

    leb_is : lnum_word map k ≡ (nth es k).lnum
    leb_is = word k 1 h (omega arith)

    peb_is : peb_word map k ≡ (nth es k).peb
    peb_is = word k 2 h (omega arith)

    -- entry k is listed
    listed : Listed 128 2 rs ps (nth es k)
    unfolding entries map_of
    listed = in_map 128 2 rs ps (nth es k) (get_d_mem no_entry es k (omega (arith, s.count_is)))

    pub place_is : ps (volume_word map k) (lnum_word map k) ≡ some (peb_word map k)
    place_is = rw (volume_is, leb_is, peb_is) listed.place

    -- a user volume's LEBs are below reserved
    pub leb_below : volume_word map k < 128 → lnum_word map k < reserved_of (record_for rs (volume_word map k))
    leb_below l =
        rw (volume_is, leb_is)
        (⊎_elim (λ q. q.1)
        (λ (q : ((nth es k).volume ≡ layout_volume) × ((nth es k).lnum < 2)). absurd (omega (arith, q.0, volume_is)))
        listed.key)

    pub mapped_here : HasCopy g image (peb_word map k)
    mapped_here =
        let c = copy_at_lem g n image (volume_word map k) (lnum_word map k) (peb_word map k) place_is in
        let b = mul-le-mul_right g.peb_size c.below in
        record { placed = s.placed; bytes = omega (arith, s.whole, b); is = c.is }

  pub entries_there : Entries g image map count
  entries_there = record { words = within.0; mapped = λ k h. mapped_here h }

  -- the entry of a mapped LEB
  pub index_of : {v l p : ℕ} → v < 128 → l < reserved_of (record_for rs v) → ps v l ≡ some p
      → (k : ℕ) × (k < count) × (volume_word map k ≡ v) × (lnum_word map k ≡ l) × (peb_word map k ≡ p)
  unfolding entries map_of
  index_of {v} {l} {p} hv hl e =
      let x : Entry = record { volume = v; lnum = l; peb = p } in
      let m = mem_get_d no_entry es x (map_has 128 2 rs ps x (record { key = inl (hv, hl); place = e })) in
      let h : m.0 < count = omega (arith, s.count_is, m.1) in (
        m.0,
        h,
        volume_is h ∙ ap (λ (y : Entry). y.volume) m.2,
        leb_is h ∙ ap (λ (y : Entry). y.lnum) m.2,
        peb_is h ∙ ap (λ (y : Entry). y.peb) m.2,
      )

  -- of one volume, the lower LEB comes first
  pub lower_first : {i j : ℕ} → i < count → j < count → volume_word map i ≡ volume_word map j
      → lnum_word map i < lnum_word map j → i < j
  unfolding entries map_of
  lower_first {i} {j} hi hj e l =
      by_test (ltb i j) (λ p. ltb-true i j p) (λ p. by_test (ltb j i)
      (λ q. ⊎_elim
      (λ (z : (nth es j).volume < (nth es i).volume). absurd (omega (arith, volume_is hi, volume_is hj)))
      (λ z. absurd (omega (arith, z.0, z.1, leb_is hi, leb_is hj)))
      (nth_before es (map_ascends 128 2 rs ps (omega arith)) j i (ltb-true j i q) (omega (arith, s.count_is))))
      (λ q. let z : i ≡ j = omega (arith, ltb-false i j p, ltb-false j i q) in
      let y : lnum_word map i ≡ lnum_word map j = ap (lnum_word map) z in
      absurd (omega arith)))
