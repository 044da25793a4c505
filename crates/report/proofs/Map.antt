-- The map: its members, its order, that these two fix it, and what it is after a LEB's place changed. Assumes nothing.
use mathlib.Core.Path.{◌≡◌, refl, sym, ◌∙◌, ap, ap₂, subst}
use mathlib.Core.Logic.{◌⊎◌, inl, inr, ⊎_elim}
use mathlib.Core.Bool.{Bool, true, false, ◌&&◌, cond}
use mathlib.Core.Option.{Option, none, some}
use mathlib.Core.List.Memᴰ
use mathlib.Core.List.{
  List,
  [],
  ◌∷◌,
  ◌++◌,
  map,
  Memᴰ,
}
use Prim.Native.Nat.{ℕ, zero, suc, ◌+◌, ◌≤◌, ◌<◌}
use native.Mathlib.Omega.{arith}
use lib.Dec.{eqb}
use lib.ListN.{length, length-append}
use borrow.Author.Tests.{eqb-true}
use Rattle.base.specs.Below.{sum_below, concat_below}
use Rattle.base.proofs.Rows.{concat_cong}
use Rattle.base.proofs.Answers.{and_left, and_right, none_some}
use Rattle.base.proofs.Below.{below_suc}
use Rattle.header.specs.Vid.{layout_volume}
use Rattle.report.specs.Volumes.{Places, record_for, reserved_of, Entry, entry_at, map_up_to, map_of, place_written}

-- ---- joined lists

module _ {A : Type 0} where
  mem_concat : (n : ℕ) (f : ℕ → List A) (x : A) → Memᴰ x (concat_below n f) → (i : ℕ) × (i < n) × Memᴰ x (f i)
  mem_concat zero f x m = absurd (Memᴰ.not-nil m)
  mem_concat (suc n) f x m =
      ⊎_elim
      (λ h. let r = mem_concat n f x h in (r.0, omega (arith, r.1), r.2))
      (λ h. (n, omega arith, h))
      (Memᴰ.append_cases (concat_below n f) m)

  concat_mem : (n : ℕ) (f : ℕ → List A) (x : A) (i : ℕ) → i < n → Memᴰ x (f i) → Memᴰ x (concat_below n f)
  concat_mem zero f x i h m = absurd (omega arith)
  concat_mem (suc n) f x i h m =
      ⊎_elim
      (λ k. Memᴰ.append_left (f n) (concat_mem n f x i k m))
      (λ e. Memᴰ.append_right (concat_below n f) (subst (λ j. Memᴰ x (f j)) e m))
      (below_suc n i h)

module _ {A B : Type 0} (f : A → B) where
  map_append : (s t : List A) → map f (s ++ t) ≡ map f s ++ map f t
  map_append [] t = refl
  map_append (x ∷ s) t = ap (λ l. f x ∷ l) (map_append s t)

  pub map_concat : (n : ℕ) (h : ℕ → List A) → map f (concat_below n h) ≡ concat_below n (λ i. map f (h i))
  map_concat zero h = refl
  map_concat (suc n) h = map_append (concat_below n h) (h n) ∙ rw (map_concat n h)

-- ---- lengths

module _ {A : Type 0} where
  concat_length : (n : ℕ) (f : ℕ → List A) (h : ℕ → ℕ) → ((i : ℕ) → length (f i) ≤ h i)
      → length (concat_below n f) ≤ sum_below n h
  concat_length zero f h e = omega arith
  concat_length (suc n) f h e = rw length-append (omega (arith, concat_length n f h e, e n))

  concat_ones : (n : ℕ) (f : ℕ → List A) → ((i : ℕ) → length (f i) ≤ 1) → length (concat_below n f) ≤ n
  concat_ones zero f e = omega arith
  concat_ones (suc n) f e = rw length-append (omega (arith, concat_ones n f e, e n))

-- ---- ascending lists

module _ {A : Type 0} (R : A → A → Type 0) where
  abbrev pub Ascending : List A → Type 0
  Ascending [] = Unit {0}
  Ascending (x ∷ l) = ((y : A) → Memᴰ y l → R x y) × Ascending l

  ascending_append : (s t : List A) → Ascending s → Ascending t → ((x y : A) → Memᴰ x s → Memᴰ y t → R x y)
      → Ascending (s ++ t)
  ascending_append [] t a b h = b
  ascending_append (x ∷ s) t a b h = (
    λ y m. ⊎_elim (λ k. a.0 y k) (λ k. h x y (Memᴰ.head refl) k) (Memᴰ.append_cases s m),
    ascending_append s t a.1 b (λ u w k j. h u w (Memᴰ.tail k) j),
  )

  ascending_concat : (n : ℕ) (f : ℕ → List A) → ((i : ℕ) → i < n → Ascending (f i))
      → ((i j : ℕ) → i < j → j < n → (x y : A) → Memᴰ x (f i) → Memᴰ y (f j) → R x y)
      → Ascending (concat_below n f)
  ascending_concat zero f a h = tt
  ascending_concat (suc n) f a h =
      ascending_append (concat_below n f) (f n)
      (ascending_concat n f (λ i k. a i (omega arith)) (λ i j k q. h i j k (omega arith))) (a n (omega arith))
      (λ x y m k. let r = mem_concat n f x m in h r.0 n r.1 (omega arith) x y r.2 k)

  -- two ascending lists with the same members are one
  module _ (irreflexive : (x : A) → R x x → ⊥) (asymmetric : (x y : A) → R x y → R y x → ⊥) where
    ascending_unique : (s t : List A) → Ascending s → Ascending t
        → ((x : A) → Memᴰ x s → Memᴰ x t) → ((x : A) → Memᴰ x t → Memᴰ x s) → s ≡ t
    ascending_unique [] [] a b f h = refl
    ascending_unique [] (y ∷ t) a b f h = absurd (Memᴰ.not-nil (h y (Memᴰ.head refl)))
    ascending_unique (x ∷ s) [] a b f h = absurd (Memᴰ.not-nil (f x (Memᴰ.head refl)))
    ascending_unique (x ∷ s) (y ∷ t) a b f h =
        ap₂ ◌∷◌ heads
        (ascending_unique s t a.1 b.1
        (λ z m. fore z m (Memᴰ.cases_cons (f z (Memᴰ.tail m))))
        (λ z m. back z m (Memᴰ.cases_cons (h z (Memᴰ.tail m)))))
      where
        heads : x ≡ y
        heads =
            ⊎_elim (λ e. e)
            (λ m. ⊎_elim (λ e. sym e) (λ k. absurd (asymmetric x y (a.0 y k) (b.0 x m)))
            (Memᴰ.cases_cons (h y (Memᴰ.head refl))))
            (Memᴰ.cases_cons (f x (Memᴰ.head refl)))

        fore : (z : A) → Memᴰ z s → (z ≡ y) ⊎ Memᴰ z t → Memᴰ z t
        fore z m (inl e) = absurd (irreflexive x (subst (R x) (e ∙ sym heads) (a.0 z m)))
        fore z m (inr k) = k

        back : (z : A) → Memᴰ z t → (z ≡ x) ⊎ Memᴰ z s → Memᴰ z s
        back z m (inl e) = absurd (irreflexive y (subst (R y) (e ∙ heads) (b.0 z m)))
        back z m (inr k) = k

-- ---- the map's members and order

-- "by volume then LEB"
abbrev pub Before : Entry → Entry → Type 0
Before x y = (x.volume < y.volume) ⊎ ((x.volume ≡ y.volume) × (x.lnum < y.lnum))

before_irreflexive : (x : Entry) → Before x x → ⊥
before_irreflexive x (inl h) = omega arith
before_irreflexive x (inr h) = omega arith

before_asymmetric : (x y : Entry) → Before x y → Before y x → ⊥
before_asymmetric x y (inl h) (inl k) = omega arith
before_asymmetric x y (inl h) (inr k) = omega arith
before_asymmetric x y (inr h) (inl k) = omega arith
before_asymmetric x y (inr h) (inr k) = omega arith

-- the map has the entry: a LEB below reserved of a volume below k, or a layout LEB below m, and its place
pub record Listed (k m : ℕ) (t : List ℕ) (ps : Places) (e : Entry) : Type 0 where
  pub key : ((e.volume < k) × (e.lnum < reserved_of (record_for t e.volume))) ⊎ ((e.volume ≡ layout_volume) × (e.lnum < m))
  pub place : ps e.volume e.lnum ≡ some e.peb

entry_mem : (v l : ℕ) (o : Option ℕ) (e : Entry) → Memᴰ e (entry_at v l o)
    → (e.volume ≡ v) × (e.lnum ≡ l) × (o ≡ some e.peb)
entry_mem v l none e m = absurd (Memᴰ.not-nil m)
entry_mem v l (some p) e m =
    let q = Memᴰ.eq_of_singleton m in
    (ap (λ (x : Entry). x.volume) q, ap (λ (x : Entry). x.lnum) q, sym (ap (λ (x : Entry). some x.peb) q))

entry_in : (v l : ℕ) (o : Option ℕ) (p : ℕ) → o ≡ some p
    → Memᴰ (record { volume = v; lnum = l; peb = p }) (entry_at v l o)
entry_in v l o p e = rw e (Memᴰ.head refl)

-- the entries of one volume, of its LEBs below r
abbrev entries_of : Places → ℕ → ℕ → List Entry
entries_of ps v r = concat_below r (λ l. entry_at v l (ps v l))

-- the entries of a user volume, and those of the first m layout LEBs
abbrev users : List ℕ → Places → ℕ → List Entry
users t ps v = entries_of ps v (reserved_of (record_for t v))

abbrev layout : ℕ → Places → List Entry
layout m ps = entries_of ps layout_volume m

module _ (ps : Places) (v r : ℕ) where
  in_volume : (e : Entry) → Memᴰ e (entries_of ps v r) → (e.volume ≡ v) × (e.lnum < r) × (ps v e.lnum ≡ some e.peb)
  in_volume e h = let s = mem_concat r (λ l. entry_at v l (ps v l)) e h in at s.0 s.1 (entry_mem v s.0 (ps v s.0) e s.2)
    where
      at : (l : ℕ) → l < r → (e.volume ≡ v) × (e.lnum ≡ l) × (ps v l ≡ some e.peb)
          → (e.volume ≡ v) × (e.lnum < r) × (ps v e.lnum ≡ some e.peb)
      at l h q = (q.0, rw q.1 h, rw q.1 q.2)

  volume_has : (l p : ℕ) → l < r → ps v l ≡ some p
      → Memᴰ (record { volume = v; lnum = l; peb = p }) (entries_of ps v r)
  volume_has l p h q = concat_mem r (λ l. entry_at v l (ps v l)) (record { volume = v; lnum = l; peb = p }) l h
      (entry_in v l (ps v l) p q)

  volume_length : length (entries_of ps v r) ≤ r
  volume_length = concat_ones r (λ l. entry_at v l (ps v l)) (λ l. one l (ps v l))
    where
      one : (l : ℕ) (o : Option ℕ) → length (entry_at v l o) ≤ 1
      one l none = omega arith
      one l (some p) = omega arith

  volume_ascends : Ascending Before (entries_of ps v r)
  volume_ascends =
      ascending_concat Before r (λ l. entry_at v l (ps v l)) (λ l _. one l (ps v l))
      (λ i j h _ x y a b.
      let p = entry_mem v i (ps v i) x a in
      let q = entry_mem v j (ps v j) y b in
      inr (p.0 ∙ sym q.0, omega (arith, p.1, q.1)))
    where
      one : (l : ℕ) (o : Option ℕ) → Ascending Before (entry_at v l o)
      one l none = tt
      one l (some p) = (λ y m. absurd (Memᴰ.not-nil m), tt)

module _ (k m : ℕ) (t : List ℕ) (ps : Places) where
  -- what is in the map is listed, and what is listed is in the map
  pub in_map : (e : Entry) → Memᴰ e (map_up_to k m t ps) → Listed k m t ps e
  unfolding map_up_to
  in_map e h =
      ⊎_elim
      (λ a. let r = mem_concat k (users t ps) e a in user r.0 r.1
      (in_volume ps r.0 (reserved_of (record_for t r.0)) e r.2))
      (λ a. let q = in_volume ps layout_volume m e a in record { key = inr (q.0, q.1); place = rw q.0 q.2 })
      (Memᴰ.append_cases (concat_below k (users t ps)) h)
    where
      user : (v : ℕ) → v < k → (e.volume ≡ v) × (e.lnum < reserved_of (record_for t v)) × (ps v e.lnum ≡ some e.peb)
          → Listed k m t ps e
      user v hv q = record { key = inl (rw q.0 hv, rw q.0 q.1); place = rw q.0 q.2 }

  pub map_has : (e : Entry) → Listed k m t ps e → Memᴰ e (map_up_to k m t ps)
  unfolding map_up_to
  map_has e q =
      ⊎_elim
      (λ h. Memᴰ.append_left (layout m ps)
      (concat_mem k (users t ps) e e.volume h.0
      (volume_has ps e.volume (reserved_of (record_for t e.volume)) e.lnum e.peb h.1 q.place)))
      (λ h. Memᴰ.append_right (concat_below k (users t ps))
      (subst (λ v. Memᴰ e (entries_of ps v m)) h.0 (volume_has ps e.volume m e.lnum e.peb h.1 q.place)))
      q.key

  -- as many entries as PEBs are reserved at most, and m for the layout volume
  pub map_length : length (map_up_to k m t ps) ≤ sum_below k (λ v. reserved_of (record_for t v)) + m
  unfolding map_up_to
  map_length =
      rw length-append
      (omega (
        arith,
        concat_length k (users t ps) (λ v. reserved_of (record_for t v))
            (λ v. volume_length ps v (reserved_of (record_for t v))),
        volume_length ps layout_volume m,
      ))

  -- strictly ascending by volume, then LEB
  pub map_ascends : k ≤ layout_volume → Ascending Before (map_up_to k m t ps)
  unfolding map_up_to
  map_ascends h =
      ascending_append Before (concat_below k (users t ps)) (layout m ps)
      (ascending_concat Before k (users t ps) (λ v _. volume_ascends ps v (reserved_of (record_for t v)))
      (λ i j h _ x y a b.
      let p = in_volume ps i (reserved_of (record_for t i)) x a in
      let q = in_volume ps j (reserved_of (record_for t j)) y b in
      inl (omega (arith, p.0, q.0))))
      (volume_ascends ps layout_volume m)
      (λ x y a b.
      let r = mem_concat k (users t ps) x a in
      let p = in_volume ps r.0 (reserved_of (record_for t r.0)) x r.2 in
      let q = in_volume ps layout_volume m y b in inl (omega (arith, r.1, p.0, q.0)))

  -- whatever makes an ascending list of just the entries makes the map
  pub map_unique : k ≤ layout_volume → (es : List Entry) → Ascending Before es
      → ((e : Entry) → Memᴰ e es → Listed k m t ps e) → ((e : Entry) → Listed k m t ps e → Memᴰ e es)
      → es ≡ map_up_to k m t ps
  map_unique h es ascends only all =
      ascending_unique Before before_irreflexive before_asymmetric es (map_up_to k m t ps) ascends (map_ascends h)
      (λ e q. map_has e (only e q)) (λ e q. all e (in_map e q))

-- ---- after a LEB's place changed

-- the places with PEB p written for the LEB (v, l)
abbrev pub places_with : ℕ → ℕ → ℕ → Places → Places
places_with v l p ps v' l' = cond (eqb v v' && eqb l l') (some p) (ps v' l')

module _ (v l p : ℕ) (ps : Places) (o : ℕ) (has : ps v l ≡ some o) where
  -- an entry that is there stays there; its place changes
  entry_moved : (v' l' : ℕ) → place_written v l p (entry_at v' l' (ps v' l')) ≡ entry_at v' l' (places_with v l p ps v' l')
  entry_moved v' l' = go (ps v' l') (eqb v v' && eqb l l') refl refl
    where
      go : (x : Option ℕ) (b : Bool) → eqb v v' && eqb l l' ≡ b → ps v' l' ≡ x
          → place_written v l p (entry_at v' l' x) ≡ entry_at v' l' (cond (eqb v v' && eqb l l') (some p) x)
      go none true q k =
          let a : v ≡ v' = eqb-true v v' (and_left _ (eqb l l') q) in
          let b : l ≡ l' = eqb-true l l' (and_right (eqb v v') _ q) in
          none_some (sym (rw (a, b) k) ∙ has)
      go none false q k = rw q
      go (some r) true q k = rw q
      go (some r) false q k = rw q

  entries_moved : (v' r : ℕ) → place_written v l p (entries_of ps v' r) ≡ entries_of (places_with v l p ps) v' r
  entries_moved v' r = map_concat _ r (λ l. entry_at v' l (ps v' l)) ∙ concat_cong r _ _ (λ l' _. entry_moved v' l')

  map_moved_upto : (k m : ℕ) (t : List ℕ) → map_up_to k m t (places_with v l p ps) ≡ place_written v l p (map_up_to k m t ps)
  unfolding map_up_to
  map_moved_upto k m t =
      sym
      (map_append _ (concat_below k (users t ps)) (layout m ps)
      ∙ ap₂ ◌++◌
      (map_concat _ k (users t ps) ∙ concat_cong k _ _ (λ v' _. entries_moved v' (reserved_of (record_for t v'))))
      (entries_moved layout_volume m))

  pub map_moved : (t : List ℕ) → map_of t (places_with v l p ps) ≡ place_written v l p (map_of t ps)
  unfolding map_of
  map_moved t = map_moved_upto 128 2 t
