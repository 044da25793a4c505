-- The end of a block's data, and what its copy and new header come to. Assumes nothing.
use mathlib.Core.Path.{◌≡◌, refl, sym, ap, ◌∙◌}
use mathlib.Core.Bool.{Bool, true, false, ◌&&◌, cond, and-false}
use mathlib.Core.List.{List, [], ◌∷◌}
use Rattle.std.proofs.Common.{◌≢◌, MatchOption, Option, None, Some, unwrap_or, option_map}
use Prim.Native.Nat.{ℕ, zero, suc, ◌+◌, ◌-◌, ◌*◌, ◌/◌, ◌≤◌, ◌<◌}
use native.Mathlib.Omega.{arith}
use borrow.Author.Tests.{eq-eqb, ne_eqb}
use lib.Dec.{eqb}
use lib.ListN.{length, take, drop, get_or, length-take}
use lib.Seq.{take-add, drop-drop}
use Rattle.base.specs.Lists.{part}
use Rattle.crc32.specs.Crc.{crc_from, crc_of}
use Rattle.crc32.proofs.Laws.{crc_from_append}
use Rattle.geometry.specs.declared.Geometry.{Geometry}
use Rattle.geometry.specs.Geometry.{round_up}
use Rattle.geometry.specs.Placed.{Placed}
use Rattle.header.specs.declared.VidHeader.{VidHeader}
use Rattle.report.specs.View.{all_ff, copy_of}
use Rattle.mover_rules.proofs.Data.{round_within}
use Rattle.mover_rules.specs.Headers.{data_end, new_size, new_flag, new_crc, new_vid}
use Rattle.mover_copy.specs.Examined.{Fits, damaged_as, examined, renewed_as}
use Rattle.mover_copy.specs.declared.Examined.{Examined}

-- ---- the end of the data, from the last byte that is not 0xFF

ff_each : (s : List ℕ) → ((k : ℕ) → k < length s → get_or s k 0 ≡ 0xFF) → all_ff s ≡ true
unfolding all_ff
ff_each [] f = refl
ff_each (b ∷ s) f = rw (f 0 (omega arith), ff_each s (λ k h. f (suc k) (omega arith)))

ff_broken : (s : List ℕ) (i : ℕ) → i < length s → get_or s i 0 ≢ 0xFF → all_ff s ≡ false
unfolding all_ff
ff_broken [] i h n = absurd (omega arith)
ff_broken (b ∷ s) zero h n = rw (ne_eqb b 0xFF n)
ff_broken (b ∷ s) (suc i) h n = rw (ff_broken s i (omega arith) n, and-false (eqb b 0xFF))

end_of_none : (s : List ℕ) → ((k : ℕ) → k < length s → get_or s k 0 ≡ 0xFF) → data_end s ≡ 0
unfolding data_end
end_of_none [] f = refl
end_of_none (b ∷ s) f = rw (ff_each (b ∷ s) f)

end_of_last : (s : List ℕ) (i : ℕ) → i < length s → get_or s i 0 ≢ 0xFF
    → ((k : ℕ) → i < k → k < length s → get_or s k 0 ≡ 0xFF) → data_end s ≡ i + 1
unfolding data_end
end_of_last [] i h n f = absurd (omega arith)
end_of_last (b ∷ s) zero h n f =
    rw (ff_broken (b ∷ s) 0 h n, end_of_none s (λ k l. f (suc k) (omega arith) (omega arith)))
end_of_last (b ∷ s) (suc i) h n f =
    let e : data_end s ≡ i + 1 = end_of_last s i (omega arith) n (λ k l m. f (suc k) (omega arith) (omega arith)) in
    rw (ff_broken (b ∷ s) (suc i) h n, e) (omega arith)

-- the place of the last byte that is not 0xFF, if there is one
abbrev pub IsLast : List ℕ → Option ℕ → Type 0
IsLast s last = MatchOption last ((k : ℕ) → k < length s → get_or s k 0 ≡ 0xFF)
    (λ i. (i < length s) × (get_or s i 0 ≢ 0xFF) × ((k : ℕ) → i < k → k < length s → get_or s k 0 ≡ 0xFF))

pub end_found : (s : List ℕ) (last : Option ℕ) → IsLast s last
    → data_end s ≡ unwrap_or (option_map (λ i. i + 1) last) 0
end_found s None f = end_of_none s f
end_found s (Some i) f = end_of_last s i f.0 f.1 f.2

-- a block is all 0xFF where its data end at 0
pub clean_end : (l : List ℕ) → all_ff l ≡ eqb (data_end l) 0
unfolding data_end all_ff
clean_end [] = refl
clean_end (b ∷ l) = go (eqb b 0xFF && all_ff l)
  where
    go : (c : Bool) → c ≡ eqb (cond c 0 (suc (data_end l))) 0
    go true = refl
    go false = sym (ne_eqb (suc (data_end l)) 0 (λ q. absurd (omega arith)))

-- ---- the copy

-- a CRC that goes on where another ends
pub crc_goes_on : (p : List ℕ) (at from to : ℕ) {crc r : ℕ} → from ≤ to → crc ≡ crc_of (part at from p)
    → r ≡ crc_from crc (take (at + to - (at + from)) (drop (at + from) p)) → r ≡ crc_of (part at to p)
crc_goes_on p at from to h e q =
    let d : at + to - (at + from) ≡ to - from = omega arith in
    let s : from + (to - from) ≡ to = omega arith in
    rw (d, e, ← drop-drop from at p) at q
    ∙ sym (crc_from_append 0xFFFFFFFF (part at from p) (part from (to - from) (drop at p)))
    ∙ ap crc_of (sym (take-add from (to - from) (drop at p)) ∙ rw s)

-- ---- the new data size

module _ {g : Geometry} {p : List ℕ} {h : VidHeader} (fits : Fits g p h) where
  pub static_size : h.vol_type ≡ 2
      → (h.data_size ≡ new_size g (copy_of g p h)) × (g.data_start + h.data_size ≤ length p)
  unfolding copy_of new_size
  static_size e = (rw (eq-eqb h.vol_type 2 e), fits.data_fits)

  pub dynamic_size : (h.vol_type ≡ 2 → ⊥) → {size : ℕ}
      → size ≡ round_up g.unit (data_end (take (g.leb_size - h.data_pad) (drop g.data_start p)))
      → size ≤ g.leb_size
      → (size ≡ new_size g (copy_of g p h)) × (g.data_start + size ≤ length p)
  unfolding copy_of new_size
  dynamic_size n e k = (rw (ne_eqb h.vol_type 2 n) e, omega (arith, fits.whole, fits.placed.leb_fills))

-- ---- what is found

-- what was read of the copy
pub record Read (g : Geometry) (p : List ℕ) (h : VidHeader) (size old new : ℕ) (damaged : Bool) : Type 0 where
  pub size_is : size ≡ new_size g (copy_of g p h)
  pub old_is : old ≡ crc_of (part g.data_start h.data_size p)
  pub new_is : new ≡ crc_of (part g.data_start size p)
  pub damaged_is : damaged ≡ damaged_as h (eqb old h.data_crc)

module _ {g : Geometry} {p : List ℕ} {h : VidHeader} {size old new : ℕ} {damaged : Bool} (r : Read g p h size old new damaged) where
  abbrev found : ℕ → ℕ → Examined
  found flag crc = record { damaged = damaged; flag = flag; size = size; crc = crc }

  abbrev is : Examined
  is = examined g (copy_of g p h)

  pub static_found : h.vol_type ≡ 2 → found 1 h.data_crc ≡ is
  unfolding copy_of new_flag new_crc
  static_found e = rw (r.damaged_is, r.old_is, r.size_is, eq-eqb h.vol_type 2 e)

  module _ (dynamic : h.vol_type ≡ 2 → ⊥) where
    pub empty_found : size ≡ 0 → found 0 0 ≡ is
    unfolding copy_of new_flag new_crc
    empty_found e = rw (r.damaged_is, r.old_is, ne_eqb h.vol_type 2 dynamic, ← r.size_is, eq-eqb size 0 e)

    pub dynamic_found : (size ≡ 0 → ⊥) → found 1 new ≡ is
    unfolding copy_of new_flag new_crc
    dynamic_found n = rw (
      r.damaged_is,
      r.old_is,
      r.new_is,
      ne_eqb h.vol_type 2 dynamic,
      ← r.size_is,
      ne_eqb size 0
          n,
    )

-- its new header
pub renewed : (g : Geometry) (p : List ℕ) (h : VidHeader) (highest : ℕ)
    → renewed_as h (examined g (copy_of g p h)) (highest + 1) ≡ new_vid g highest (copy_of g p h)
unfolding copy_of new_vid
renewed g p h highest = refl

-- the data's end in whole units, of what was read
module _ (g : Geometry) (p : List ℕ) (pad : ℕ) {at end : ℕ} (a : at ≡ g.data_start) where
  pub rounded : end ≡ data_end (take (at + (g.leb_size - pad) - at) (drop at p))
      → (end + (g.unit - 1)) / g.unit * g.unit ≡ round_up g.unit
      (data_end (take (g.leb_size - pad) (drop g.data_start p)))
  unfolding round_up
  rounded e =
      let d : at + (g.leb_size - pad) - at ≡ g.leb_size - pad = omega arith in
      let z : end ≡ data_end (take (g.leb_size - pad) (drop g.data_start p)) = rw (d, a) at e in
      rw z

  pub rounded_within : Placed g → end ≤ length (take (at + (g.leb_size - pad) - at) (drop at p))
      → (end + (g.unit - 1)) / g.unit * g.unit ≤ g.leb_size
  unfolding round_up
  rounded_within P h =
      let l = length-take (at + (g.leb_size - pad) - at) (drop at p) in
      round_within g.unit end g.leb_size P.unit_above P.unit_divides (omega arith)
