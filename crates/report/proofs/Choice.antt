-- Which copy counts: the choice is the one of 01's words, and what a new copy of one LEB does to the choices. Assumes nothing.
use mathlib.Core.Path.{◌≡◌, refl, sym, ◌∙◌, ap, subst}
use mathlib.Core.Logic.{◌≢◌, ◌⊎◌, inl, inr, ⊎_elim}
use mathlib.Core.Bool.{Bool, true, false, ◌&&◌, ◌||◌, cond, true≢false, false≢true, and-false}
use mathlib.Core.Option.{Option, none, some}
use Prim.Native.Nat.{ℕ, ◌+◌, ◌≤◌, ◌<◌}
use native.Mathlib.Omega.{arith}
use lib.Dec.{ltb, eqb}
use borrow.Author.Tests.{ltb-true, ltb-false, eqb-true, eq-eqb, lt-ltb, le-ltb}
use Rattle.base.specs.Below.{any_below}
use Rattle.base.proofs.Answers.{and_left, and_right, clash, not_so, none_some}
use Rattle.base.proofs.Below.{eq_or_ne, none_at, none_intro, any_intro, any_cong, first_none_at, first_cong, first_only, first_hit}
use Rattle.report.specs.View.{Copy}
use Rattle.report.specs.Choice.{sound, of_key, beats, unbeaten, pick, chosen}
use Rattle.report.proofs.First.{First, first}

-- ---- `beats` is a strict order

-- soundness and sequence of two copies, the first before the second: with k 1 it beats it, with k 0 the second does not beat it
Before : ℕ → Bool → ℕ → Bool → ℕ → Type 0
Before k true d true c = k + c ≤ d
Before k true d false c = Unit {0}
Before k false d true c = ⊥
Before k false d false c = k + d ≤ c

before_trans : (k : ℕ) (se sd sc : Bool) (e d c : ℕ) → Before k se e sd d → Before k sd d sc c → Before k se e sc c
unfolding Before
before_trans k true true true e d c p q = omega arith
before_trans k true true false e d c p q = tt
before_trans k true false true e d c p q = absurd q
before_trans k true false false e d c p q = tt
before_trans k false true sc e d c p q = absurd p
before_trans k false false true e d c p q = absurd q
before_trans k false false false e d c p q = omega arith

-- `beats` of soundness and sequence
abbrev test : Bool → ℕ → Bool → ℕ → Bool
test sd d sc c = cond sc (sd && ltb c d) (sd || ltb d c)

test_true : (sd sc : Bool) (d c : ℕ) → test sd d sc c ≡ true → Before 1 sd d sc c
unfolding Before
test_true true true d c e = omega (arith, ltb-true c d e)
test_true true false d c e = tt
test_true false true d c e = absurd (false≢true e)
test_true false false d c e = omega (arith, ltb-true d c e)

true_test : (sd sc : Bool) (d c : ℕ) → Before 1 sd d sc c → test sd d sc c ≡ true
unfolding Before
true_test true true d c h = lt-ltb c d (omega arith)
true_test true false d c h = refl
true_test false true d c h = absurd h
true_test false false d c h = lt-ltb d c (omega arith)

test_false : (sd sc : Bool) (d c : ℕ) → test sd d sc c ≡ false → Before 0 sc c sd d
unfolding Before
test_false true true d c e = omega (arith, ltb-false c d e)
test_false true false d c e = absurd (true≢false e)
test_false false true d c e = tt
test_false false false d c e = omega (arith, ltb-false d c e)

false_test : (sd sc : Bool) (d c : ℕ) → Before 0 sc c sd d → test sd d sc c ≡ false
unfolding Before
false_test true true d c h = le-ltb c d (omega arith)
false_test true false d c h = absurd h
false_test false true d c h = refl
false_test false false d c h = le-ltb d c (omega arith)

pub beats_irreflexive : (c : Copy) → beats (some c) c ≡ false
beats_irreflexive c = rw (le-ltb c.header.sequence c.header.sequence (omega arith)) (go (sound c))
  where
    go : (s : Bool) → cond s (s && false) (s || false) ≡ false
    go true = refl
    go false = refl

pub beats_trans : (e d c : Copy) → beats (some e) d ≡ true → beats (some d) c ≡ true → beats (some e) c ≡ true
beats_trans e d c p q =
    true_test (sound e) (sound c) _ _
    (before_trans 1 (sound e) (sound d) (sound c) _ d.header.sequence _
    (test_true (sound e) (sound d) _ _ p) (test_true (sound d) (sound c) _ _ q))

-- ---- a copy is chosen wherever there is one

-- the second does not beat the first
abbrev Stands : Copy → Copy → Type 0
Stands c d = beats (some d) c ≡ false

stands_total : (c d : Copy) → Stands c d ⊎ Stands d c
stands_total c d = go (beats (some d) c) (beats (some c) d) refl refl
  where
    go : (p q : Bool) → beats (some d) c ≡ p → beats (some c) d ≡ q → Stands c d ⊎ Stands d c
    go false q e f = inl e
    go true false e f = inr f
    go true true e f = clash (beats_irreflexive c) (beats_trans c d c f e)

stands_trans : (c d e : Copy) → Stands c d → Stands d e → Stands c e
stands_trans c d e p q =
    false_test (sound e) (sound c) _ _
    (before_trans 0 (sound c) (sound d) (sound e) _ d.header.sequence _
    (test_false (sound d) (sound c) _ _ p) (test_false (sound e) (sound d) _ _ q))

pub pick_some : (n : ℕ) (f : ℕ → Option Copy) (i : ℕ) (c : Copy) → i < n → f i ≡ some c → pick n f ≢ none
unfolding pick
pick_some n f i c h e q = none_some (sym (first_none_at n (λ i. unbeaten n f (f i)) q b.at b.below) ∙ is)
  where
    b : First f Stands n
    b = first f Stands stands_total stands_trans n i c h e

    safe : (x : Option Copy) → ((d : Copy) → x ≡ some d → Stands b.value d) → beats x b.value ≡ false
    safe none h = refl
    safe (some d) h = h d refl

    is : unbeaten n f (f b.at) ≡ some b.value
    is = rw (b.is, none_intro n (λ j. beats (f j) b.value) (λ j k. safe (f j) (b.leads j k)))

-- ---- 01's words

-- "choose the highest sequence that is sound; if none is sound, the lowest sequence"
pub record IsChoice (n : ℕ) (f : ℕ → Option Copy) (c : Copy) : Type 0 where
  pub highest_sound : (j : ℕ) (d : Copy) → j < n → f j ≡ some d → sound d ≡ true
      → (sound c ≡ true) × (d.header.sequence ≤ c.header.sequence)
  pub else_lowest : ((j : ℕ) (d : Copy) → j < n → f j ≡ some d → sound d ≡ false)
      → (j : ℕ) (d : Copy) → j < n → f j ≡ some d → c.header.sequence ≤ d.header.sequence

-- these words fix the sequence
pub choice_sequence : (n : ℕ) (f : ℕ → Option Copy) (i j : ℕ) (c d : Copy) → i < n → j < n → f i ≡ some c → f j ≡ some d
    → IsChoice n f c → IsChoice n f d → c.header.sequence ≡ d.header.sequence
choice_sequence n f i j c d hi hj p q x y = go (sound c) (sound d) refl refl
  where
    none_sound : (e : Copy) → IsChoice n f e → sound e ≡ false → (k : ℕ) (a : Copy) → k < n → f k ≡ some a
        → sound a ≡ false
    none_sound e z s k a h r = not_so (sound a) (λ t. true≢false (sym (z.highest_sound k a h r t).0 ∙ s))

    go : (b t : Bool) → sound c ≡ b → sound d ≡ t → c.header.sequence ≡ d.header.sequence
    go true t u w =
        let k = y.highest_sound i c hi p u in
        omega (arith, k.1, (x.highest_sound j d hj q k.0).1)
    go false true u w = clash u (x.highest_sound j d hj q w).0
    go false false u w = omega (
      arith,
      x.else_lowest (none_sound c x u) j d hj q,
      y.else_lowest
          (none_sound d y w) i c hi p,
    )

-- what is unbeaten is the copy, and none beats it
unbeaten_is : (n : ℕ) (f : ℕ → Option Copy) (x : Option Copy) (c : Copy) → unbeaten n f x ≡ some c
    → (x ≡ some c) × (any_below n (λ j. beats (f j) c) ≡ false)
unbeaten_is n f none c e = none_some e
unbeaten_is n f (some d) c e = go (any_below n (λ j. beats (f j) d)) refl e
  where
    go : (b : Bool) → any_below n (λ j. beats (f j) d) ≡ b → cond b none (some d) ≡ some c
        → (some d ≡ some c) × (any_below n (λ j. beats (f j) c) ≡ false)
    go true q e = none_some e
    go false q e = let r : d ≡ c = cc in (e, subst (λ y. any_below n (λ j. beats (f j) y) ≡ false) r q)

pub pick_literal : (n : ℕ) (f : ℕ → Option Copy) (i : ℕ) (c : Copy) → pick n f ≡ some (i, c)
    → (i < n) × (f i ≡ some c) × IsChoice n f c
unfolding pick
pick_literal n f i c e =
    let h = first_hit n (λ i. unbeaten n f (f i)) i c e in
    let u = unbeaten_is n f (f i) c h.1 in (
      h.0,
      u.0,
      record {
        highest_sound = λ j d k q s. high d s (sound c) refl (at u.1 j d k q);
        else_lowest = λ all j d k q. low d (all i c h.0 u.0) (all j d k q) (at u.1 j d k q);
      },
    )
  where
    at : any_below n (λ j. beats (f j) c) ≡ false → (j : ℕ) (d : Copy) → j < n → f j ≡ some d → beats (some d) c ≡ false
    at u j d k q = rw q at (none_at n (λ j. beats (f j) c) u j k)

    high : (d : Copy) → sound d ≡ true → (b : Bool) → sound c ≡ b → beats (some d) c ≡ false
        → (sound c ≡ true) × (d.header.sequence ≤ c.header.sequence)
    high d s true q b = (q, ltb-false c.header.sequence d.header.sequence (rw (q, s) at b))
    high d s false q b = absurd (true≢false (rw (q, s) at b))

    low : (d : Copy) → sound c ≡ false → sound d ≡ false → beats (some d) c ≡ false
        → c.header.sequence ≤ d.header.sequence
    low d q s b = ltb-false d.header.sequence c.header.sequence (rw (q, s) at b)

-- ---- a new copy, with a sequence above all others

pub pick_cong : (n : ℕ) (f f' : ℕ → Option Copy) → ((i : ℕ) → i < n → f' i ≡ f i) → pick n f' ≡ pick n f
unfolding pick
pick_cong n f f' h = first_cong n _ _ λ i k. rw (h i k) (same (f i))
  where
    same : (o : Option Copy) → unbeaten n f' o ≡ unbeaten n f o
    same none = refl
    same (some c) = rw (any_cong n (λ j. beats (f' j) c) (λ j. beats (f j) c) (λ j k. rw (h j k)))

-- unsound, it beats nothing
no_beat : (new c : Copy) → sound new ≡ false → c.header.sequence < new.header.sequence → beats (some new) c ≡ false
no_beat new c u h = rw (u, le-ltb new.header.sequence c.header.sequence (omega arith)) (go (sound c))
  where
    go : (b : Bool) → cond b false false ≡ false
    go true = refl
    go false = refl

-- sound, it beats everything, and nothing beats it
all_beat : (new c : Copy) → sound new ≡ true → c.header.sequence < new.header.sequence → beats (some new) c ≡ true
all_beat new c u h = rw (u, lt-ltb c.header.sequence new.header.sequence h) (go (sound c))
  where
    go : (b : Bool) → cond b true true ≡ true
    go true = refl
    go false = refl

not_beaten : (new d : Copy) → sound new ≡ true → d.header.sequence ≤ new.header.sequence → beats (some d) new ≡ false
not_beaten new d u h = rw (u, le-ltb new.header.sequence d.header.sequence h, and-false (sound d))

module _ (n : ℕ) (f f' : ℕ → Option Copy) (t : ℕ) (new : Copy) (at-t : f' t ≡ some new) where
  -- beside a sound copy, an unsound one with a higher sequence is passed over
  pub pick_unsound : f t ≡ none → ((i : ℕ) → i < n → i ≢ t → f' i ≡ f i)
      → ((i : ℕ) → i < n → (c : Copy) → f i ≡ some c → c.header.sequence < new.header.sequence)
      → sound new ≡ false → (o : ℕ) (old : Copy) → o < n → f o ≡ some old → sound old ≡ true
      → pick n f' ≡ pick n f
  unfolding pick
  pick_unsound free same above u o old o<n at_o s = first_cong n _ _ λ i k. go i k (eq_or_ne i t)
    where
      o_stays : f' o ≡ some old
      o_stays = ⊎_elim (λ (e : o ≡ t). none_some (sym free ∙ ap f (sym e) ∙ at_o))
          (λ (ne : o ≢ t). same o o<n ne ∙ at_o) (eq_or_ne o t)

      at_target : unbeaten n f' (some new) ≡ none
      at_target = rw (any_intro n (λ j. beats (f' j) new) o o<n (rw (o_stays, u, s)))

      one : (c : Copy) → c.header.sequence < new.header.sequence → (j : ℕ) → j < n → (j ≡ t) ⊎ (j ≢ t)
          → beats (f' j) c ≡ beats (f j) c
      one c h j k (inl e) = rw (e, at-t, free) (no_beat new c u h)
      one c h j k (inr ne) = rw (same j k ne)

      elsewhere : (x : Option Copy) → ((c : Copy) → x ≡ some c → c.header.sequence < new.header.sequence)
          → unbeaten n f' x ≡ unbeaten n f x
      elsewhere none h = refl
      elsewhere (some c) h = rw (any_cong n (λ j. beats (f' j) c) (λ j. beats (f j) c)
          (λ j k. one c (h c refl) j k (eq_or_ne j t)))

      go : (i : ℕ) → i < n → (i ≡ t) ⊎ (i ≢ t) → unbeaten n f' (f' i) ≡ unbeaten n f (f i)
      go i k (inl e) = rw (e, at-t, free) at_target
      go i k (inr ne) = rw (same i k ne) (elsewhere (f i) (above i k))

  -- a sound copy above all others is chosen
  pub pick_sound : t < n → sound new ≡ true
      → ((i : ℕ) → i < n → i ≢ t → (c : Copy) → f' i ≡ some c → c.header.sequence < new.header.sequence)
      → pick n f' ≡ some (t, new)
  unfolding pick
  pick_sound t<n s above = first_only n (λ i. unbeaten n f' (f' i)) t new t<n at_target
      (λ j k ne. elsewhere (f' j) (above j k ne))
    where
      other : (x : Option Copy) → ((c : Copy) → x ≡ some c → c.header.sequence < new.header.sequence)
          → beats x new ≡ false
      other none h = refl
      other (some d) h = not_beaten new d s (let l = h d refl in omega arith)

      one : (j : ℕ) → j < n → (j ≡ t) ⊎ (j ≢ t) → beats (f' j) new ≡ false
      one j k (inl e) = rw (e, at-t) (beats_irreflexive new)
      one j k (inr ne) = other (f' j) (above j k ne)

      at_target : unbeaten n f' (f' t) ≡ some new
      at_target = rw (at-t, none_intro n (λ j. beats (f' j) new) (λ j k. one j k (eq_or_ne j t)))

      elsewhere : (x : Option Copy) → ((c : Copy) → x ≡ some c → c.header.sequence < new.header.sequence)
          → unbeaten n f' x ≡ none
      elsewhere none h = refl
      elsewhere (some c) h = rw (any_intro n (λ j. beats (f' j) c) t t<n (rw at-t (all_beat new c s (h c refl))))

-- ---- the copies of one volume and LEB

pub of_key_hit : (v l : ℕ) (c : Copy) → c.header.volume ≡ v → c.header.lnum ≡ l → of_key v l (some c) ≡ some c
of_key_hit v l c p q = rw (eq-eqb c.header.volume v p, eq-eqb c.header.lnum l q)

pub of_key_some : (v l : ℕ) (x : Option Copy) (c : Copy) → of_key v l x ≡ some c
    → (x ≡ some c) × (c.header.volume ≡ v) × (c.header.lnum ≡ l)
of_key_some v l none c e = none_some e
of_key_some v l (some d) c e = go (eqb d.header.volume v && eqb d.header.lnum l) refl e
  where
    go : (b : Bool) → eqb d.header.volume v && eqb d.header.lnum l ≡ b → cond b (some d) none ≡ some c
        → (some d ≡ some c) × (c.header.volume ≡ v) × (c.header.lnum ≡ l)
    go true q e =
        let p : d ≡ c = cc in (
          e,
          rw p at (eqb-true d.header.volume v (and_left _ (eqb d.header.lnum l) q)),
          rw p at (eqb-true d.header.lnum l (and_right (eqb d.header.volume v) _ q)),
        )
    go false q e = none_some e

pub of_key_miss : (v l : ℕ) (c : Copy) → (c.header.volume ≡ v → c.header.lnum ≡ l → ⊥) → of_key v l (some c) ≡ none
of_key_miss v l c h = go (of_key v l (some c)) refl
  where
    go : (x : Option Copy) → of_key v l (some c) ≡ x → of_key v l (some c) ≡ none
    go none e = e
    go (some d) e = let r = of_key_some v l (some c) d e in let p : c ≡ d = cc r.0 in absurd (h (rw p r.1) (rw p r.2))

pub chosen_at : (n : ℕ) (cs : ℕ → Option Copy) (v l o : ℕ) (c : Copy) → chosen n cs v l ≡ some (o, c)
    → (o < n) × (cs o ≡ some c) × (c.header.volume ≡ v) × (c.header.lnum ≡ l)
unfolding chosen
chosen_at n cs v l o c e =
    let h = pick_literal n (λ i. of_key v l (cs i)) o c e in
    let k = of_key_some v l (cs o) c h.1 in
    (h.0, k.0, k.1, k.2)

pub chosen_cong : (n : ℕ) (cs cs' : ℕ → Option Copy) → ((i : ℕ) → i < n → cs' i ≡ cs i) → (v l : ℕ)
    → chosen n cs' v l ≡ chosen n cs v l
unfolding chosen
chosen_cong n cs cs' h v l = pick_cong n (λ i. of_key v l (cs i)) (λ i. of_key v l (cs' i)) (λ i k. rw (h i k))

-- is it the same volume and LEB?
pub key_or : (v l v₀ l₀ : ℕ) → ((v₀ ≡ v) × (l₀ ≡ l)) ⊎ ((v₀ ≡ v) → (l₀ ≡ l) → ⊥)
key_or v l v₀ l₀ = go (eq_or_ne v₀ v) (eq_or_ne l₀ l)
  where
    go : (v₀ ≡ v) ⊎ (v₀ ≢ v) → (l₀ ≡ l) ⊎ (l₀ ≢ l) → ((v₀ ≡ v) × (l₀ ≡ l)) ⊎ ((v₀ ≡ v) → (l₀ ≡ l) → ⊥)
    go (inl p) (inl q) = inl (p, q)
    go (inl p) (inr q) = inr (λ _. q)
    go (inr p) q = inr (λ e _. p e)

-- ---- a move, seen on the copies

-- at t a new copy of the LEB that is chosen at o, with a sequence above all that there were; other PEBs than o and t are as before
pub record Moving (n : ℕ) (cs cs' : ℕ → Option Copy) (v l o t : ℕ) (old new : Copy) : Type 0 where
  pub t<n : t < n
  pub chosen_here : chosen n cs v l ≡ some (o, old)
  pub was : cs t ≡ none
  pub is : cs' t ≡ some new
  pub rest : (i : ℕ) → i < n → i ≢ t → i ≢ o → cs' i ≡ cs i
  pub volume : new.header.volume ≡ v
  pub lnum : new.header.lnum ≡ l
  pub above : (i : ℕ) → i < n → (c : Copy) → cs i ≡ some c → c.header.sequence < new.header.sequence

module _ (n : ℕ) (cs cs' : ℕ → Option Copy) (v l o t : ℕ) (old new : Copy) (m : Moving n cs cs' v l o t old new) where
  at_o : (o < n) × (cs o ≡ some old) × (old.header.volume ≡ v) × (old.header.lnum ≡ l)
  at_o = chosen_at n cs v l o old m.chosen_here

  -- the new copy is of no other LEB
  new_elsewhere : (v' l' : ℕ) → ((v ≡ v') → (l ≡ l') → ⊥) → of_key v' l' (some new) ≡ none
  new_elsewhere v' l' ne = of_key_miss v' l' new (λ p q. ne (sym m.volume ∙ p) (sym m.lnum ∙ q))

  -- while it is unsound nothing changes
  pub chosen_unsound : sound new ≡ false → sound old ≡ true → cs' o ≡ cs o → (v' l' : ℕ)
      → chosen n cs' v' l' ≡ chosen n cs v' l'
  unfolding chosen
  chosen_unsound u s stays v' l' = go (key_or v' l' v l)
    where
      rest : (i : ℕ) → i < n → i ≢ t → cs' i ≡ cs i
      rest i k ne = ⊎_elim (λ (e : i ≡ o). rw e stays) (λ (ne' : i ≢ o). m.rest i k ne ne') (eq_or_ne i o)

      go : ((v ≡ v') × (l ≡ l')) ⊎ ((v ≡ v') → (l ≡ l') → ⊥)
          → pick n (λ i. of_key v' l' (cs' i)) ≡ pick n (λ i. of_key v' l' (cs i))
      go (inl e) =
          pick_unsound n (λ i. of_key v' l' (cs i)) (λ i. of_key v' l' (cs' i)) t new
          (rw m.is (of_key_hit v' l' new (m.volume ∙ e.0) (m.lnum ∙ e.1)))
          (rw m.was)
          (λ i k ne. rw (rest i k ne))
          (λ i k c q. m.above i k c (of_key_some v' l' (cs i) c q).0)
          u o old at_o.0
          (rw at_o.1 (of_key_hit v' l' old (at_o.2 ∙ e.0) (at_o.3 ∙ e.1)))
          s
      go (inr ne) =
          pick_cong n (λ i. of_key v' l' (cs i)) (λ i. of_key v' l' (cs' i))
          (λ i k. ⊎_elim (λ (e : i ≡ t). rw (e, m.is, m.was) (new_elsewhere v' l' ne))
          (λ (ni : i ≢ t). rw (rest i k ni)) (eq_or_ne i t))

  -- once it is sound it is chosen, and the other LEBs' choices stay; the old copy may be gone, but has no other header
  module _ (s : sound new ≡ true) (left : (c : Copy) → cs' o ≡ some c → c.header ≡ old.header) where
    pub chosen_moved : chosen n cs' v l ≡ some (t, new)
    unfolding chosen
    chosen_moved =
        pick_sound n (λ i. of_key v l (cs' i)) (λ i. of_key v l (cs' i)) t new
        (rw m.is (of_key_hit v l new m.volume m.lnum))
        (m.t<n) s
        (λ i k ne c q. low i k ne c (of_key_some v l (cs' i) c q).0 (eq_or_ne i o))
      where
        low : (i : ℕ) → i < n → i ≢ t → (c : Copy) → cs' i ≡ some c → (i ≡ o) ⊎ (i ≢ o)
            → c.header.sequence < new.header.sequence
        low i k ne c q (inl e) = rw (left c (rw e at q)) (m.above o at_o.0 old at_o.1)
        low i k ne c q (inr nq) = m.above i k c (sym (m.rest i k ne nq) ∙ q)

    pub chosen_other : (v' l' : ℕ) → ((v ≡ v') → (l ≡ l') → ⊥) → chosen n cs' v' l' ≡ chosen n cs v' l'
    unfolding chosen
    chosen_other v' l' ne = pick_cong n (λ i. of_key v' l' (cs i)) (λ i. of_key v' l' (cs' i))
        (λ i k. go i k (eq_or_ne i t) (eq_or_ne i o))
      where
        gone : (x : Option Copy) → ((c : Copy) → x ≡ some c → c.header ≡ old.header) → of_key v' l' x ≡ none
        gone none h = refl
        gone (some c) h =
            of_key_miss v' l' c
            (λ p q. ne (sym at_o.2 ∙ ap (λ x. x.volume) (sym (h c refl)) ∙ p)
            (sym at_o.3 ∙ ap (λ x. x.lnum) (sym (h c refl)) ∙ q))

        go : (i : ℕ) → i < n → (i ≡ t) ⊎ (i ≢ t) → (i ≡ o) ⊎ (i ≢ o) → of_key v' l' (cs' i) ≡ of_key v' l' (cs i)
        go i k (inl e) d = rw (e, m.is, m.was) (new_elsewhere v' l' ne)
        go i k (inr ni) (inl e) = rw (e, at_o.1)
            (gone (cs' o) left ∙ sym (gone (some old) (λ c q. let r : old ≡ c = cc in rw r)))
        go i k (inr ni) (inr nq) = rw (m.rest i k ni nq)
