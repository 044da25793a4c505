-- What the beginning of an accepted move has established. Assumes nothing.
use mathlib.Core.Path.{◌≡◌, refl, sym, subst}
use mathlib.Core.Logic.{◌≢◌, ◌⊎◌, inl, inr}
use mathlib.Core.Bool.{Bool, true, false, not, ◌&&◌, ◌||◌, cond}
use mathlib.Core.Option.{Option, none, some}
use mathlib.Core.List.{List}
use Prim.Native.Nat.{ℕ, ◌+◌, ◌-◌, ◌^◌, ◌<◌}
use native.Mathlib.Omega.{arith}
use lib.Dec.{eqb, ltb}
use borrow.Author.Tests.{eqb-true, eqb-false, ltb-true, lt-ltb, eq-eqb, not-false}
use Rattle.base.specs.Answers.{Answer, given}
use Rattle.base.proofs.Answers.{by_test, or_left, or_right, or_true_right, none_some}
use Rattle.base.proofs.Highest.{max_at}
use Rattle.header.specs.Vid.{layout_volume}
use Rattle.header.specs.declared.EcHeader.{EcHeader}
use Rattle.report.specs.View.{Copy, EcView, ec_good, ec_newer, ec_blank, ec_lost, VidView, vid_good, vid_newer, vid_blank, vid_bad, Medium, copies, is_mappable}
use Rattle.report.specs.Choice.{sound, chosen}
use Rattle.report.specs.Volumes.{Places, record_for, reserved_of, map_of}
use Rattle.report.specs.Report.{is_place, stays_in, class_of, highest_of, sequence_or0, places, records, class_at, entries}
use Rattle.report.proofs.Facts.{when_none}
use Rattle.report.proofs.Map.{in_map}
use Rattle.mover_rules.specs.Headers.{is_static, old_counter}
use Rattle.mover_rules.specs.Begin.{is_in, unless_refused, refusal13, mapped, refusal15, refusal16, refusal17, make_plan, plan_for, plan_of}
use Rattle.mover_rules.specs.declared.Plan.{Plan}
use Rattle.mover_rules.proofs.Mapped.{in_list}

-- ---- the map

-- a LEB in the map is a user LEB below reserved, or a layout LEB
abbrev pub InMap : List ℕ → ℕ → ℕ → Type 0
InMap t v l = ((v < 128) × (l < reserved_of (record_for t v))) ⊎ ((v ≡ layout_volume) × (l < 2))

pub in_map_is : (m : Medium) (v l : ℕ) → is_in v l (entries m) ≡ true → InMap (records m) v l
unfolding entries map_of
in_map_is m v l q =
    let r = in_list v l (entries m) q in
    subst (λ x. InMap (records m) v x) r.3
    (subst (λ x. InMap (records m) x r.0.lnum) r.2 (in_map 128 2 (records m) (places m) r.0 r.1).key)

pub in_map_mappable : (t : List ℕ) (v l : ℕ) → InMap t v l → is_mappable v ≡ true
in_map_mappable t v l (inl h) = rw (lt-ltb v 128 h.0)
in_map_mappable t v l (inr h) = or_true_right (ltb v 128) (eqb v layout_volume) (eq-eqb v layout_volume h.0)

-- ---- a free block

abbrev pub Free : EcView → VidView → Type 0
Free e v = (v ≡ vid_blank) × ((h : EcHeader) × (e ≡ ec_good h))

pub class_free : (t : List ℕ) (ps : Places) (i : ℕ) (e : EcView) (v : VidView) → class_of t ps i e v ≡ 0 → Free e v
class_free t ps i e (vid_good c) q =
    let h = c.header in
    absurd (go (is_mappable h.volume) (is_place (ps h.volume h.lnum) i) (stays_in t h.volume h.lnum) (eqb h.compat 1) q)
  where
    go : (a b c d : Bool) → cond {A = ℕ} a (cond b (cond c 1 5) 2) (cond d 5 6) ≡ 0 → ⊥
    go true true true d e = omega arith
    go true true false d e = omega arith
    go true false c d e = omega arith
    go false b c true e = omega arith
    go false b c false e = omega arith
class_free t ps i (ec_good h) vid_blank q = (refl, (h, refl))
class_free t ps i ec_blank vid_blank q = absurd (omega arith)
class_free t ps i ec_lost vid_blank q = absurd (omega arith)
class_free t ps i ec_newer vid_blank q = absurd (omega arith)
class_free t ps i e vid_bad q = absurd (omega arith)
class_free t ps i e vid_newer q = absurd (omega arith)

-- ---- the highest sequence

pub below_next : (n : ℕ) (cs : ℕ → Option Copy) (i : ℕ) (c : Copy) → i < n → cs i ≡ some c
    → c.header.sequence < highest_of n cs + 1
unfolding highest_of
below_next n cs i c h e =
    let r = max_at n (λ i. sequence_or0 (cs i)) i h in
    let q : sequence_or0 (cs i) ≡ c.header.sequence = rw e in
    omega arith

-- ---- the accepted move

-- of the copy c of the LEB, at PEB o
pub record Accepted (m : Medium) (v l t o : ℕ) (c : Copy) : Type 0 where
  pub chosen_here : chosen m.count (copies m.views) v l ≡ some (o, c)
  pub in_map : InMap (records m) v l
  pub is_sound : sound c ≡ true
  pub is_right : not (is_static c) || c.matches ≡ true
  pub target_there : t < m.count
  pub target_free : Free (m.views t).ec (m.views t).vid
  pub target_clean : (m.views t).clean ≡ true
  pub sequence_left : highest_of m.count (copies m.views) ≢ 2 ^ 64 - 1
  pub counter_left : old_counter m o ≢ 0x7FFFFFFF

unless_given : (r : Option ℕ) (a : Answer Plan) (p : Plan) → unless_refused r a ≡ given p → (r ≡ none) × (a ≡ given p)
unless_given none a p e = (refl, e)
unless_given (some k) a p e = absurd (let z : ◌≡◌ {A = ℕ} 0 1 = cc in omega arith)

right_of : (s m : Bool) → s && not m ≡ false → not s || m ≡ true
right_of true true e = refl
right_of true false e = sym e
right_of false m e = refl

module _ (m : Medium) (v l t : ℕ) (p : Plan) where
  none15 : (c : Copy) → refusal15 c ≡ none → (sound c ≡ true) × (not (is_static c) || c.matches ≡ true)
  unfolding refusal15
  none15 c e =
      let q = when_none (not (sound c) || (is_static c && not c.matches)) 15 e in (
        not-false (sound c) (or_left (not (sound c)) (is_static c && not c.matches) q),
        right_of (is_static c) c.matches (or_right (not (sound c)) (is_static c && not c.matches) q),
      )

  none16 : refusal16 m t ≡ none → (t < m.count) × Free (m.views t).ec (m.views t).vid × ((m.views t).clean ≡ true)
  unfolding refusal16 class_at
  none16 e =
      let a : Bool = not (ltb t m.count) in
      let b : Bool = not (eqb (class_at m t) 0) in
      let c : Bool = not (m.views t).clean in
      let q = when_none (a || (b || c)) 16 e in
      let r = or_right a (b || c) q in (
        ltb-true t m.count (not-false (ltb t m.count) (or_left a (b || c) q)),
        class_free (records m) (places m) t (m.views t).ec (m.views t).vid
            (eqb-true (class_at m t) 0 (not-false (eqb (class_at m t) 0) (or_left b c r))),
        not-false (m.views t).clean (or_right b c r),
      )

  none17 : (o : ℕ) → refusal17 m o ≡ none
      → (highest_of m.count (copies m.views) ≢ 2 ^ 64 - 1) × (old_counter m o ≢ 0x7FFFFFFF)
  unfolding refusal17
  none17 o e =
      let a : Bool = eqb (highest_of m.count (copies m.views)) (2 ^ 64 - 1) in
      let b : Bool = eqb (old_counter m o) 0x7FFFFFFF in
      let q = when_none (a || b) 17 e in (
        eqb-false (highest_of m.count (copies m.views)) (2 ^ 64 - 1) (or_left a b q),
        eqb-false
            (old_counter m o) 0x7FFFFFFF (or_right a b q),
      )

  found : (x : ℕ × Copy) → mapped m v l ≡ some x
      → InMap (records m) v l × (chosen m.count (copies m.views) v l ≡ some x)
  unfolding mapped
  found x e =
      by_test (is_in v l (entries m)) (λ q. (in_map_is m v l q, rw q at e)) (λ q. none_some (rw q at e))

  -- an answer that is a plan is that of an accepted move
  abbrev pub Planned : Type 0
  Planned = (o : ℕ) × (c : Copy) × Accepted m v l t o c × (p ≡ make_plan m t o c)

  pub accepted : plan_of m v l t ≡ given p → Planned
  unfolding plan_of
  accepted e = go (mapped m v l) refl (unless_given (refusal13 m) (plan_for m t (mapped m v l)) p e).1
    where
      go : (y : Option (ℕ × Copy)) → mapped m v l ≡ y → plan_for m t y ≡ given p → Planned
      go none q e = absurd (let z : ◌≡◌ {A = ℕ} 0 1 = cc in omega arith)
      go (some x) q e =
          let a = unless_given (refusal15 x.1) _ p e in
          let b = unless_given (refusal16 m t) _ p a.1 in
          let c = unless_given (refusal17 m x.0) _ p b.1 in
          let f = found x q in
          let r15 = none15 x.1 a.0 in
          let r16 = none16 b.0 in
          let r17 = none17 x.0 c.0 in
          let is : given (make_plan m t x.0 x.1) ≡ given p = c.1 in (
            x.0,
            x.1,
            record {
              chosen_here = f.1;
              in_map = f.0;
              is_sound = r15.0;
              is_right = r15.1;
              target_there = r16.0;
              target_free = r16.1;
              target_clean = r16.2;
              sequence_left = r17.0;
              counter_left = r17.1;
            },
            cc,
          )
