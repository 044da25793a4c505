-- Numbers: the LEBs that a length needs; the pad is below half a LEB; a sum of zeroes. Assumes nothing.
use mathlib.Core.Path.{◌≡◌}
use Prim.Native.Nat.{ℕ, zero, suc, ◌+◌, ◌-◌, ◌*◌, ◌/◌, ◌%◌, ◌≤◌, ◌<◌}
use native.Mathlib.Nat.{suc-mul, div-add-mod', mod-lt, div-lt_iff_lt-mul, le-div_iff_mul-le, add-mul}
use native.Mathlib.Omega.{arith}
use Rattle.builder_rules.specs.Blocks.{ceiling}

-- twice what is left over is less than the whole
pub pad_half : (size a : ℕ) → 0 < a → a ≤ size → 2 * (size % a) < size
pad_half size a h k = go (size / a) (div-add-mod' size a)
  where
    m : size % a < a
    m = mod-lt size h

    go : (q : ℕ) → q * a + size % a ≡ size → 2 * (size % a) < size
    go zero e = absurd (omega (arith, m))
    go (suc q) e = omega (arith, m, suc-mul q a)

module _ (m x : ℕ) (h : 0 < m) where
  -- LEB l is needed exactly if the length goes beyond the LEBs before it
  pub ceiling_below : (l : ℕ) → l < ceiling m x → l * m < x
  unfolding ceiling
  ceiling_below l k =
      let q : (l + 1) * m ≤ x + (m - 1) = (le-div_iff_mul-le h).0 (omega arith) in
      omega (arith, q, add-mul l 1 m)

  pub below_ceiling : (l : ℕ) → l * m < x → l < ceiling m x
  unfolding ceiling
  below_ceiling l k =
      let q : l + 1 ≤ (x + (m - 1)) / m = (le-div_iff_mul-le h).1 (omega (arith, add-mul l 1 m)) in
      omega arith

  -- as many LEBs as hold it are enough
  pub ceiling_within : (r : ℕ) → x ≤ r * m → ceiling m x ≤ r
  unfolding ceiling
  ceiling_within r k =
      let q : (x + (m - 1)) / m < r + 1 = (div-lt_iff_lt-mul h).1 (omega (arith, add-mul r 1 m)) in
      omega arith
