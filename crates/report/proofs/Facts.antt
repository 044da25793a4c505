-- What is known of an image that attaches, refusal by refusal, and what is enough for it to attach. Assumes nothing.
use mathlib.Core.Path.{◌≡◌, refl, sym, ◌∙◌, ap}
use mathlib.Core.Logic.{◌≢◌, ⊎_elim}
use mathlib.Core.Bool.{Bool, true, false, false≢true}
use mathlib.Core.Option.{Option, none, some}
use Prim.Native.Nat.{ℕ, ◌≤◌, ◌<◌}
use native.Mathlib.Omega.{arith}
use lib.Dec.{eqb}
use borrow.Author.Tests.{eqb-true, eqb-false, eq-eqb, ne_eqb, not-false}
use Rattle.base.specs.Below.{all_below, any_below, first_nonzero}
use Rattle.base.proofs.Answers.{clash, by_test, none_some, and_left, and_right, or_else_none, map_o_none}
use Rattle.base.proofs.Below.{eq_or_ne, lt_or_le, all_at, none_at, none_intro, first_none_at, first_none}
use Rattle.base.proofs.Below.{nonzero_hit, zero_at, nonzero_all, nonzero_first}
use Rattle.geometry.specs.declared.Geometry.{Geometry}
use Rattle.header.specs.declared.EcHeader.{EcHeader}
use Rattle.report.specs.View.{Copy, EcView, ec_good, ec_newer, ec_blank, ec_lost, VidView, vid_good, vid_newer}
use Rattle.report.specs.View.{vid_blank, vid_bad, Views, Medium, good_ec, ecs, good_vid, copies, is_mappable}
use Rattle.report.specs.Scan.{when, image_seq_or0, image_seq_of, other_starts, seq_disagrees, ec_refusal, vid_refusal}
use Rattle.report.specs.Scan.{view_refusal, at_peb, refusal5678, refusal10}
use Rattle.report.specs.Class.{is_unused}
use Rattle.report.specs.Choice.{of_key, repeats, refusal9, pick, chosen}
use Rattle.report.specs.Volumes.{table_leb, refusal1112}
use Rattle.report.specs.Report.{is_place, faces, places, records, refusal}
use Rattle.report.proofs.Choice.{IsChoice, choice_sequence, pick_some, pick_literal, of_key_some}

-- ---- answers and tests

pub when_none : (b : Bool) (k : ℕ) → when b k ≡ none → b ≡ false
when_none true k e = none_some (sym e)
when_none false k e = refl

pub place_is : (x : Option ℕ) (i : ℕ) → is_place x i ≡ true → x ≡ some i
place_is none i e = absurd (false≢true e)
place_is (some p) i e = ap some (eqb-true p i e)

-- ---- the four parts of attaching

pub record Parts (m : Medium) : Type 0 where
  pub none5678 : refusal5678 m ≡ none
  pub none9 : refusal9 m.count (copies m.views) ≡ none
  pub none10 : refusal10 m ≡ none
  pub none1112 : refusal1112 (table_leb m (faces m)) (records m) (faces m) (places m) ≡ none

pub parts : (m : Medium) → refusal m ≡ none → Parts m
unfolding refusal
parts m e =
    let a = or_else_none (refusal5678 m) _ e in
    let b = or_else_none (refusal9 m.count (copies m.views)) _ a.1 in
    let c = or_else_none (refusal10 m) _ b.1 in
    record { none5678 = a.0; none9 = b.0; none10 = c.0; none1112 = c.1 }

pub of_parts : (m : Medium) → Parts m → refusal m ≡ none
unfolding refusal
of_parts m p = rw (p.none5678, p.none9, p.none10) p.none1112

-- ---- 5 to 8

module _ (m : Medium) where
  -- the image sequence that refusal 7 compares with
  abbrev pub seq_in : ℕ
  seq_in = image_seq_of m.count m.views

  pub none5678_at : refusal5678 m ≡ none → (i : ℕ) → i < m.count
      → (ec_refusal m.geometry seq_in (m.views i).ec ≡ none) × (vid_refusal (m.views i).vid ≡ none)
  unfolding refusal5678 view_refusal
  none5678_at e i h =
      or_else_none (ec_refusal m.geometry seq_in (m.views i).ec) (vid_refusal (m.views i).vid)
      (first_none_at m.count (λ i. view_refusal m.geometry seq_in (m.views i)) (map_o_none at_peb _ e) i h)

-- 02 2026-02, the image sequence in its words: "that of the lowest PEB that has one", "or zero if there is none"
module _ (n : ℕ) (vs : Views) where
  pub seq_of_lowest : (i : ℕ) (h : EcHeader) → i < n → ecs vs i ≡ some h → h.image_seq ≢ 0
      → ((j : ℕ) → j < i → image_seq_or0 (ecs vs j) ≡ 0) → image_seq_of n vs ≡ h.image_seq
  unfolding image_seq_of
  seq_of_lowest i h k e ne below =
      nonzero_first (λ j. image_seq_or0 (ecs vs j)) n i k (λ z. ne (rw e at z)) below ∙ rw e

  pub seq_of_none : ((i : ℕ) → i < n → image_seq_or0 (ecs vs i) ≡ 0) → image_seq_of n vs ≡ 0
  unfolding image_seq_of
  seq_of_none all = nonzero_all (λ i. image_seq_or0 (ecs vs i)) (λ x. x ≡ 0) n refl all

-- what is not refused is zero, or the one compared with
not_disagrees : (s x : ℕ) → seq_disagrees s x ≡ false → x ≢ 0 → x ≡ s
not_disagrees s x e ne = eqb-true x s (not-false (eqb x s) (rw (ne_eqb x 0 ne) at e))

-- zero agrees, and so does the one compared with
pub zero_agrees : (s x : ℕ) → x ≡ 0 → seq_disagrees s x ≡ false
zero_agrees s x e = rw (eq-eqb x 0 e)

agrees : (s : ℕ) → seq_disagrees s s ≡ false
agrees s = by_test (eqb s 0) (λ q. rw q) (λ q. rw (q, eq-eqb s s refl))

-- a good EC with the geometry's starts and the one compared with is not refused
pub ec_unrefused : (g : Geometry) (h : EcHeader) → h.vid_start ≡ g.vid_start → h.data_start ≡ g.data_start
    → ec_refusal g h.image_seq (ec_good h) ≡ none
ec_unrefused g h v d = rw (eq-eqb _ _ v, eq-eqb _ _ d, agrees h.image_seq)

-- where all agree with a number, zeroes aside, they agree with the first of them
agree_first : (n s : ℕ) (f : ℕ → ℕ) → ((i : ℕ) → i < n → seq_disagrees s (f i) ≡ false)
    → (i : ℕ) → i < n → seq_disagrees (first_nonzero n f) (f i) ≡ false
agree_first n s f all i h = by_test (eqb (f i) 0) (λ q. rw q) (λ q. go (eqb-false (f i) 0 q))
  where
    go : f i ≢ 0 → seq_disagrees (first_nonzero n f) (f i) ≡ false
    go ne =
        let top : first_nonzero n f ≢ 0 = λ z. ne (zero_at f n z i h) in
        let r = nonzero_hit f n top in
        let t : f r.0 ≡ s = not_disagrees s (f r.0) (all r.0 r.1) (λ z. top (sym r.2 ∙ z)) in
        rw (← r.2, t, not_disagrees s (f i) (all i h) ne) (agrees s)

-- a good EC that is not refused names the geometry's starts, and agrees; one that agrees with another number as well is
-- not refused under that either
module _ (g : Geometry) (s : ℕ) where
  ec_starts : (v : EcView) (h : EcHeader) → ec_refusal g s v ≡ none → good_ec v ≡ some h
      → (h.vid_start ≡ g.vid_start) × (h.data_start ≡ g.data_start)
  ec_starts (ec_good x) h r q =
      let p : x ≡ h = cc in
      let t = not-false _ (when_none _ 6 (or_else_none (when (other_starts g x) 6) _ r).0) in
      rw (← p) (
        eqb-true x.vid_start _ (and_left _ (eqb x.data_start g.data_start) t),
        eqb-true x.data_start _ (and_right (eqb x.vid_start g.vid_start) _ t),
      )
  ec_starts ec_newer h r q = none_some q
  ec_starts ec_blank h r q = none_some q
  ec_starts ec_lost h r q = none_some q

  ec_agrees : (v : EcView) → ec_refusal g s v ≡ none → seq_disagrees s (image_seq_or0 (good_ec v)) ≡ false
  ec_agrees (ec_good h) r = when_none _ 7 (or_else_none (when (other_starts g h) 6) _ r).1
  ec_agrees ec_newer r = refl
  ec_agrees ec_blank r = refl
  ec_agrees ec_lost r = refl

  ec_passes : (q : ℕ) (v : EcView) → ec_refusal g s v ≡ none → seq_disagrees q (image_seq_or0 (good_ec v)) ≡ false
      → ec_refusal g q v ≡ none
  ec_passes q (ec_good h) r e = rw ((or_else_none (when (other_starts g h) 6) _ r).0, e)
  ec_passes q ec_newer r e = r
  ec_passes q ec_blank r e = refl
  ec_passes q ec_lost r e = refl

module _ (m : Medium) where
  -- enough for no refusal 5 to 8: one number that every good EC agrees with
  pub no_5678 : (s : ℕ)
      → ((i : ℕ) → i < m.count → (ec_refusal m.geometry s (m.views i).ec ≡ none) × (vid_refusal (m.views i).vid ≡ none))
      → refusal5678 m ≡ none
  unfolding image_seq_of refusal5678 view_refusal
  no_5678 s all = rw (first_none m.count (λ i. view_refusal m.geometry (seq_in m) (m.views i)) passes)
    where
      agree : (i : ℕ) → i < m.count → seq_disagrees (seq_in m) (image_seq_or0 (ecs m.views i)) ≡ false
      agree = agree_first m.count s (λ i. image_seq_or0 (ecs m.views i))
          (λ i k. ec_agrees m.geometry s (m.views i).ec (all i k).0)

      passes : (i : ℕ) → i < m.count → view_refusal m.geometry (seq_in m) (m.views i) ≡ none
      passes i k = rw (
        ec_passes m.geometry s (seq_in m) (m.views i).ec (all i k).0 (agree i k),
        (all i k).1,
      )

  -- every good EC of an image that attaches; 02 2026-02: "only nonzero values must agree"
  pub good_ec_lem : refusal5678 m ≡ none → (i : ℕ) (h : EcHeader) → i < m.count → ecs m.views i ≡ some h
      → (h.vid_start ≡ m.geometry.vid_start) × (h.data_start ≡ m.geometry.data_start)
      × (h.image_seq ≢ 0 → h.image_seq ≡ seq_in m)
  good_ec_lem e i h k q =
      let r = (none5678_at m e i k).0 in
      let a = ec_starts m.geometry (seq_in m) (m.views i).ec h r q in
      let d = rw q at (ec_agrees m.geometry (seq_in m) (m.views i).ec r) in
      (a.0, a.1, not_disagrees (seq_in m) h.image_seq d)

-- ---- 9

module _ (n : ℕ) (cs : ℕ → Option Copy) where
  pub none9_at : refusal9 n cs ≡ none → (i j : ℕ) → i < n → j < i → repeats (cs i) (cs j) ≡ false
  unfolding refusal9
  none9_at e i j h k =
      none_at i (λ j. repeats (cs i) (cs j))
      (when_none _ 9 (first_none_at n (λ i. when (any_below i (λ j. repeats (cs i) (cs j))) 9)
      (map_o_none at_peb _ e) i h)) j k

  -- enough for no refusal 9
  pub no_9 : ((i j : ℕ) → i < n → j < i → repeats (cs i) (cs j) ≡ false) → refusal9 n cs ≡ none
  unfolding refusal9
  no_9 h =
      rw
      (first_none n (λ i. when (any_below i (λ j. repeats (cs i) (cs j))) 9)
      (λ i k. rw (none_intro i (λ j. repeats (cs i) (cs j)) (λ j l. h i j k l))))

  -- two good VID headers of one user or layout LEB that share a sequence are one
  pub one_sequence : refusal9 n cs ≡ none → (i j : ℕ) (c d : Copy) → i < n → j < n → cs i ≡ some c → cs j ≡ some d
      → is_mappable c.header.volume ≡ true → c.header.volume ≡ d.header.volume → c.header.lnum ≡ d.header.lnum
      → c.header.sequence ≡ d.header.sequence → i ≡ j
  one_sequence e i j c d hi hj p q m v l s = ⊎_elim (λ z. z) go (eq_or_ne i j)
    where
      go : i ≢ j → i ≡ j
      go ne =
          ⊎_elim
          (λ (b : j < i). clash (rw (p, q) at (none9_at e i j hi b)) (rw (m, eq-eqb _ _ v, eq-eqb _ _ l, eq-eqb _ _ s)))
          (λ (b : i ≤ j). clash (rw (p, q) at (none9_at e j i hj (omega arith)))
          (rw (← v, m, eq-eqb _ _ (sym l), eq-eqb _ _ (sym s), eq-eqb c.header.volume c.header.volume refl)))
          (lt_or_le j i)

  -- so 01's words leave one choice, whatever the order of the PEBs
  module _ (e : refusal9 n cs ≡ none) (v l : ℕ) (m : is_mappable v ≡ true) where
    abbrev here : ℕ → Option Copy
    here i = of_key v l (cs i)

    pub choice_unique : (i : ℕ) (c : Copy) → i < n → here i ≡ some c → IsChoice n here c → chosen n cs v l ≡ some (i, c)
    unfolding chosen
    choice_unique i c h p is = go (pick n here) refl
      where
        same : (j : ℕ) (d : Copy) → pick n here ≡ some (j, d) → here j ≡ some d → i ≡ j → pick n here ≡ some (i, c)
        same j d q r z =
            let y : some c ≡ some d = sym p ∙ ap here z ∙ r in
            let k : c ≡ d = cc in
            rw (z, k) q

        go : (o : Option (ℕ × Copy)) → pick n here ≡ o → pick n here ≡ some (i, c)
        go none q = absurd (pick_some n here i c h p q)
        go (some x) q =
            let r = pick_literal n here x.0 x.1 q in
            let a = of_key_some v l (cs i) c p in
            let b = of_key_some v l (cs x.0) x.1 r.1 in
            same x.0 x.1 q r.1
            (one_sequence e i x.0 c x.1 h r.0 a.0 b.0 (rw a.1 m) (a.1 ∙ sym b.1) (a.2 ∙ sym b.2)
            (choice_sequence n here i x.0 c x.1 h r.0 p r.1 is r.2))

-- ---- 10

-- a copy is of class 1, 2, 5 or 6
pub copy_unused : (e : EcView) (c : Copy) → is_unused e (vid_good c) ≡ false
copy_unused e c =
    by_test (is_mappable c.header.volume) (λ q. rw q)
    (λ q. rw q (by_test (eqb c.header.compat 1) (λ r. rw r) (λ r. rw r)))

some_not_unused : (e : EcView) (v : VidView) (c : Copy) → good_vid v ≡ some c → is_unused e v ≡ false
some_not_unused e (vid_good d) c q = copy_unused e d
some_not_unused e vid_newer c q = none_some q
some_not_unused e vid_blank c q = none_some q
some_not_unused e vid_bad c q = none_some q

abbrev unused_in : Medium → ℕ → Bool
unused_in m i = is_unused (m.views i).ec (m.views i).vid

-- enough for no refusal 10: a copy
pub no_10 : (m : Medium) (i : ℕ) (c : Copy) → i < m.count → copies m.views i ≡ some c → refusal10 m ≡ none
unfolding refusal10
no_10 m i c h e =
    by_test (all_below m.count (unused_in m))
    (λ q. clash (some_not_unused (m.views i).ec (m.views i).vid c e) (all_at m.count (unused_in m) q i h)) (λ q. rw q)
