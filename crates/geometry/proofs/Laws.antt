-- Laws of units and multiples. Assumes nothing.
use mathlib.Core.Path.{◌≡◌, refl, sym, ◌∙◌, ap, subst}
use mathlib.Core.Logic.{⊎_elim}
use mathlib.Core.Bool.{Bool, true, false, ◌&&◌, false≢true, and-true, and-false, or-false}
use Prim.Native.Nat.{ℕ, zero, suc, ◌+◌, ◌-◌, ◌*◌, ◌/◌, ◌%◌, ◌^◌, ◌≤◌, ◌<◌}
use native.Mathlib.Nat.{pow-suc, one-le-pow, div-add-mod', mod-lt, mul-mod_left, mul-mod_right, mul-sub, mul_comm}
use native.Mathlib.Nat.{mul-le-mul_right, div-lt_iff_lt-mul, one-mul, pow-le-pow_right, two-pow-succ}
use native.Mathlib.Omega.{arith}
use lib.Dec.{eqb, leb, lit<}
use lib.Pow.{pow-lt}
use lib.ListN.{get_or, length}
use mathlib.Core.List.{List}
use borrow.Author.Tests.{leb-true, eqb-true, eq-eqb, ne_eqb, le-leb, lt-leb}
use Rattle.base.specs.Below.{any_below}
use Rattle.base.specs.Answers.{Answer, given, refused, all_of}
use Rattle.std.specs.Int.{is_power_of_two}
use Rattle.std.specs.Int.RustNames.{count_ones}
use Rattle.std.proofs.lemmas.Nat.{ones_cat, zero_from_ones}
use Rattle.base.proofs.Answers.{or_true_cases, same_test, one_broken, each_holds, cond_yes, refused_not}
use Rattle.base.proofs.Below.{lt_or_le, none_intro}
use Rattle.geometry.specs.declared.Geometry.{Geometry}
use Rattle.geometry.specs.Image.{peb_count_of, image_rules}
use Rattle.geometry.specs.Slip.{has_field, value_at, head_rules, ends_at, well_formed, slip_geometry, head_read}
use Rattle.geometry.specs.Placed.{Placed}
use Rattle.geometry.specs.Geometry.{good_unit, round_up, geometry_rules, geometry_of, make_geometry, vid_start_of}
use Rattle.geometry.specs.Geometry.{data_start_of, leb_size_of}

-- ---- units

power_range : (m n : ℕ) → any_below m (λ (k : ℕ). eqb n (2 ^ k)) ≡ true → (0 < n) × (n < 2 ^ m)
power_range zero n e = absurd (false≢true e)
power_range (suc m) n e =
    ⊎_elim
    (λ (l : any_below m (λ (k : ℕ). eqb n (2 ^ k)) ≡ true). let r = power_range m n l in
    (r.0, rw pow-suc (omega arith)))
    (λ (l : eqb n (2 ^ m) ≡ true). let q = eqb-true n (2 ^ m) l in let p = one-le-pow m 2 (lit< tt) in
    (omega arith, rw pow-suc (omega arith)))
    (or_true_cases (any_below m (λ (k : ℕ). eqb n (2 ^ k))) (eqb n (2 ^ m)) e)

-- a unit is above 0 and below 8,192
pub unit_range : (n : ℕ) → good_unit n ≡ true → (0 < n) × (n < 8192)
unfolding good_unit
unit_range n e = power_range 13 n e

-- 2 ^ m and a number below it: one bit is set where that number is 0
top_bit : (m r n : ℕ) → r < 2 ^ m → n ≡ 2 ^ m + r → is_power_of_two n ≡ eqb n (2 ^ m)
unfolding count_ones
top_bit m r n l e =
    let d : n ≡ 1 * 2 ^ m + r = rw one-mul e in
    let s : count_ones n ≡ 1 + count_ones r = ap count_ones d ∙ ones_cat m 1 r l in
    same_test (is_power_of_two n) (eqb n (2 ^ m))
    (λ q. eq-eqb _ _ (omega (arith, e, zero_from_ones r (omega (arith, s, eqb-true (count_ones n) 1 q)))))
    (λ q. let z : r ≡ 0 = omega (arith, eqb-true n (2 ^ m) q) in eq-eqb _ _ (s ∙ rw z refl))

-- a number below 2 ^ m is a power of two where one of its bits is set
one_bit : (m n : ℕ) → n < 2 ^ m → is_power_of_two n ≡ any_below m (λ (k : ℕ). eqb n (2 ^ k))
unfolding count_ones
one_bit zero n h = let e : n ≡ 0 = omega arith in rw e refl
one_bit (suc m) n h =
    ⊎_elim
    (λ (l : n < 2 ^ m). one_bit m n l ∙ sym (rw (ne_eqb n (2 ^ m) (omega arith)) (or-false _)))
    (λ (l : 2 ^ m ≤ n). let w : n < 2 ^ m + 2 ^ m = rw two-pow-succ at h in
    let low = none_intro m (λ (k : ℕ). eqb n (2 ^ k)) (λ k j. ne_eqb n (2 ^ k) (omega (arith, pow-lt j))) in
    rw low (top_bit m (n - 2 ^ m) n (omega arith) (omega arith)))
    (lt_or_le n (2 ^ m))

-- the test of a unit
pub unit_is : (n : ℕ) → is_power_of_two n && leb n 4096 ≡ good_unit n
unfolding good_unit
unit_is n =
    ⊎_elim
    (λ (l : n < 4097). rw (le-leb n 4096 (omega arith)) (and-true _ ∙ one_bit 13 n (omega arith)))
    (λ (l : 4097 ≤ n). rw (lt-leb n 4096 (omega arith)) (and-false _ ∙ sym (none_intro 13 (λ (k : ℕ). eqb n (2 ^ k))
    (λ k j. ne_eqb n (2 ^ k) (omega (arith, pow-le-pow_right {n = 2} (lit< tt) {i = k} {j = 12} (omega arith)))))))
    (lt_or_le n 4097)

-- ---- the smallest multiple

pub round_below : (m x : ℕ) → 0 < m → round_up m x < x + m
unfolding round_up
round_below m x h = omega (arith, div-add-mod' (x + (m - 1)) m)

pub round_at_least : (m x : ℕ) → 0 < m → x ≤ round_up m x
unfolding round_up
round_at_least m x h = omega (arith, div-add-mod' (x + (m - 1)) m, mod-lt (x + (m - 1)) h)

pub round_multiple : (m x : ℕ) → round_up m x % m ≡ 0
unfolding round_up
round_multiple m x = mul-mod_left ((x + (m - 1)) / m) m

-- no smaller multiple is at least x
pub round_least : (m x k : ℕ) → 0 < m → x ≤ k * m → round_up m x ≤ k * m
unfolding round_up
round_least m x k h l =
    let q : (x + (m - 1)) / m < k + 1 = (div-lt_iff_lt-mul h).1 (omega arith) in
    mul-le-mul_right m (omega arith)

-- ---- refusal 2: one rule broken is enough
pub outside : (peb unit sub k : ℕ) → get_or (geometry_rules peb unit sub) k true ≡ false
    → refused 2 0 ≡ geometry_of peb unit sub
unfolding geometry_of
outside peb unit sub k e = rw (one_broken (geometry_rules peb unit sub) k e)

-- the geometry where every rule holds; `vid` and `dat` are the starts as computed
pub inside : (peb unit sub vid dat : ℕ) → good_unit unit ≡ true → good_unit sub ≡ true → sub ≤ unit → 1024 ≤ peb
    → peb ≤ 262144 → peb % unit ≡ 0
    → vid ≡ round_up sub 64 → dat ≡ round_up unit (vid + 64) → dat + 172 ≤ peb
    → given (record {
      peb_size = peb;
      unit = unit;
      sub_unit = sub;
      vid_start = vid;
      data_start = dat;
      leb_size = peb - dat;
    }) ≡ geometry_of peb unit sub
unfolding geometry_of geometry_rules make_geometry leb_size_of data_start_of vid_start_of
inside peb unit sub vid dat u s o l h m v d z =
    let w : 172 ≤ peb - dat = omega arith in
    rw (← v, ← d, u, s, le-leb _ _ o, le-leb _ _ l, le-leb _ _ h, eq-eqb _ _ m, le-leb _ _ w)

pub too_short : (peb unit sub vid dat : ℕ) → vid ≡ round_up sub 64 → dat ≡ round_up unit (vid + 64) → peb < dat + 172
    → refused 2 0 ≡ geometry_of peb unit sub
unfolding geometry_rules leb_size_of data_start_of vid_start_of
too_short peb unit sub vid dat v d z =
    let w : peb - dat < 172 = omega arith in
    outside peb unit sub 6 (rw (← v, ← d, lt-leb _ _ w))

-- ---- the slip

-- one field of the head that is not the next one is enough
pub no_head : (s : List ℕ) (k : ℕ) → get_or (head_rules s) k true ≡ false → false ≡ all_of (head_rules s)
no_head s k e = sym (one_broken (head_rules s) k e)

-- with the other tests passed, the last field decides
pub last_field : (s : List ℕ) {r : Bool} → 17 ≤ length s → has_field 0 1 4 s ≡ true → has_field 7 2 2 s ≡ true
    → r ≡ has_field 12 3 2 s
    → r ≡ all_of (head_rules s)
unfolding head_rules
last_field s l a b e = e ∙ rw (le-leb _ _ l, a, b) (sym (and-true (has_field 12 3 2 s)))

pub head_length : (s : List ℕ) → all_of (head_rules s) ≡ true → 17 ≤ length s
unfolding head_rules
head_length s e = leb-true 17 (length s) (each_holds (head_rules s) e 0)

-- the tail decides, then the head
pub no_tail : (s : List ℕ) → ends_at 17 s ≡ false → refused 1 0 ≡ slip_geometry s
unfolding slip_geometry well_formed
no_tail s e = rw (e, and-false (all_of (head_rules s)))

pub head_decides : (s : List ℕ) → ends_at 17 s ≡ true → head_read s ≡ slip_geometry s
unfolding slip_geometry well_formed head_read
head_decides s e = rw (e, and-true (all_of (head_rules s)))

-- ---- a geometry within the rules

-- both parts of a difference are multiples
sub_multiple : (a b u : ℕ) → a % u ≡ 0 → b % u ≡ 0 → (a - b) % u ≡ 0
sub_multiple a b u p q =
    let e : a - b ≡ u * (a / u - b / u) =
    rw mul-sub (omega (arith, div-add-mod' a u, div-add-mod' b u, mul_comm u (a / u), mul_comm u (b / u))) in
    rw e (mul-mod_right u (a / u - b / u))

made : (peb unit sub : ℕ) → all_of (geometry_rules peb unit sub) ≡ true → Placed (make_geometry peb unit sub)
unfolding make_geometry leb_size_of data_start_of vid_start_of geometry_rules
made peb unit sub e =
    let r : (k : ℕ) → get_or (geometry_rules peb unit sub) k true ≡ true = each_holds (geometry_rules peb unit sub) e in
    let u = unit_range unit (r 0) in
    let s = unit_range sub (r 1) in
    let v = round_at_least sub 64 s.0 in
    let d = round_at_least unit (round_up sub 64 + 64) u.0 in
    let l = leb-true 172 (peb - round_up unit (round_up sub 64 + 64)) (r 6) in
    record {
      vid_after_ec = v;
      data_after_vid = d;
      leb_fills = omega arith;
      leb_least = l;
      peb_most = leb-true peb 262144 (r 4);
      unit_above = u.0;
      unit_divides =
          sub_multiple peb (round_up unit (round_up sub 64 + 64)) unit (eqb-true (peb % unit) 0 (r 5))
          (round_multiple unit (round_up sub 64 + 64));
    }

given_is : {a b : Geometry} → ◌≡◌ {A = Answer Geometry} (given a) (given b) → a ≡ b
given_is e = cc

pub placed : (peb unit sub : ℕ) (g : Geometry) → geometry_of peb unit sub ≡ given g → Placed g
unfolding geometry_of
placed peb unit sub g e =
    let c = cond_yes (all_of (geometry_rules peb unit sub)) refused_not e in
    subst Placed (given_is c.1) (made peb unit sub c.0)

pub slip_placed : (s : List ℕ) (g : Geometry) → slip_geometry s ≡ given g → Placed g
unfolding slip_geometry
slip_placed s g e = placed (value_at 0 4 s) (value_at 7 2 s) (value_at 12 2 s) g (cond_yes (well_formed s) refused_not e).1

-- ---- an image of whole PEBs

module _ (g : Geometry) (image : List ℕ) (e : all_of (image_rules g image) ≡ true) where
  image_rule : (k : ℕ) → get_or (image_rules g image) k true ≡ true
  image_rule = each_holds (image_rules g image) e

  pub image_whole : length image ≡ peb_count_of g image * g.peb_size
  unfolding image_rules
  image_whole =
      omega (arith, div-add-mod' (length image) g.peb_size, eqb-true (length image % g.peb_size) 0 (image_rule 0))

  pub image_least : 2 ≤ peb_count_of g image
  unfolding image_rules
  image_least = leb-true 2 (peb_count_of g image) (image_rule 1)

  pub image_few : peb_count_of g image ≤ 4096
  unfolding image_rules
  image_few = leb-true (peb_count_of g image) 4096 (image_rule 2)
