-- The PEBs of an image, and a store into one of them. Assumes nothing.
use mathlib.Core.Path.{◌≡◌, sym, ◌∙◌, ap}
use mathlib.Core.Logic.{◌≢◌}
use mathlib.Core.List.{List}
use Prim.Native.Nat.{ℕ, ◌+◌, ◌*◌, ◌/◌, ◌%◌, ◌≤◌, ◌<◌}
use native.Mathlib.Omega.{arith}
use native.Mathlib.Nat.{div-add-mod', mod-lt, mul-le-mul_right}
use native.Mathlib.Decide.{dec_lt}
use lib.ListN.{length, take, drop, get_or}
use lib.Seq.{get_or-take, get_or-drop}
use Rattle.base.specs.Lists.{put}
use Rattle.base.proofs.Lists.{length_part}
use Rattle.base.proofs.Stores.{length_put, put_before, put_behind, part_put_in}
use Rattle.geometry.specs.declared.Geometry.{Geometry}
use Rattle.report.specs.View.{peb_at}
use Rattle.job.specs.Write.{peb_start}

-- a byte of a PEB that stays
pub same_byte : (g : Geometry) (a b : List ℕ) (k : ℕ) → 0 < g.peb_size
    → peb_at g a (k / g.peb_size) ≡ peb_at g b (k / g.peb_size) → get_or a k 0 ≡ get_or b k 0
same_byte g a b k pos e = sym (at a) ∙ ap (λ (l : List ℕ). get_or l (k % s) 0) e ∙ at b
  where
    s : ℕ
    s = g.peb_size

    at : (l : List ℕ) → get_or (peb_at g l (k / s)) (k % s) 0 ≡ get_or l k 0
    at l =
        let m = mod-lt k pos in
        let e : k / s * s + k % s ≡ k = div-add-mod' k s in
        get_or-take s (drop (k / s * s) l) (k % s) 0 m ∙ get_or-drop (k / s * s) l (k % s) 0 ∙ rw e

module _ (g : Geometry) (n : ℕ) (image : List ℕ) (len : length image ≡ n * g.peb_size) where
  pub room : (i : ℕ) → i < n → peb_start g i + g.peb_size ≤ length image
  room i h = omega (arith, len, mul-le-mul_right g.peb_size h)

  pub peb_length : (i : ℕ) → i < n → length (peb_at g image i) ≡ g.peb_size
  peb_length i h = length_part (peb_start g i) g.peb_size image (room i h)

  -- a store within PEB i
  module _ (i : ℕ) (i<n : i < n) (a : ℕ) (bs : List ℕ) (fits : a + length bs ≤ g.peb_size) where
    in_room : peb_start g i + a + length bs ≤ length image
    in_room = omega (arith, room i i<n)

    pub put_length : length (put (peb_start g i + a) bs image) ≡ length image
    put_length = length_put (peb_start g i + a) bs image in_room

    pub put_here : peb_at g (put (peb_start g i + a) bs image) i ≡ put a bs (peb_at g image i)
    put_here = part_put_in (peb_start g i) g.peb_size a bs image fits (room i i<n)

    pub put_else : (j : ℕ) → j ≢ i → peb_at g (put (peb_start g i + a) bs image) j ≡ peb_at g image j
    put_else j ne = go (dec_lt j i)
      where
        go : Dec (j < i) → peb_at g (put (peb_start g i + a) bs image) j ≡ peb_at g image j
        go (yes k) =
            put_before (peb_start g i + a) bs image in_room (peb_start g j) g.peb_size
            (omega (arith, mul-le-mul_right g.peb_size k))
        go (no k) =
            let q : i < j = omega arith in
            ap (take g.peb_size)
            (put_behind (peb_start g i + a) bs image in_room (peb_start g j)
            (omega (arith, mul-le-mul_right g.peb_size q)))
