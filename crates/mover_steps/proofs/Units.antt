-- Laws of the units of data that a move copies. Assumes nothing.
use mathlib.Core.Path.{◌≡◌}
use mathlib.Core.Logic.{◌≢◌, ◌⊎◌, inl, inr}
use mathlib.Core.List.{List}
use Prim.Native.Nat.{ℕ, ◌+◌, ◌-◌, ◌*◌, ◌≤◌, ◌<◌, min}
use native.Mathlib.Nat.{mul-le-mul_right}
use native.Mathlib.Omega.{arith}
use native.Mathlib.Decide.{dec_lt}
use lib.ListN.{length}
use Rattle.base.specs.Lists.{part, put}
use Rattle.geometry.specs.declared.Geometry.{Geometry}
use Rattle.job.specs.Write.{peb_start}
use Rattle.mover_rules.specs.Write.{data_steps, unit_bytes}
use Rattle.mover_rules.specs.Running.{Running}
use Rattle.mover_rules.specs.declared.Plan.{Plan}
use Rattle.mover_rules.proofs.Steps.{unit_within}

-- runs at one place of two blocks do not overlap
apart : (a b size at n : ℕ) → a ≢ b → at + n ≤ size
    → (a * size + at + n ≤ b * size + at) ⊎ (b * size + at + n ≤ a * size + at)
apart a b size at n ne h = go (dec_lt a b)
  where
    go : Dec (a < b) → (a * size + at + n ≤ b * size + at) ⊎ (b * size + at + n ≤ a * size + at)
    go (yes k) = inl (omega (arith, mul-le-mul_right size k))
    go (no k) = let l : b < a = omega arith in inr (omega (arith, mul-le-mul_right size l))

module _ (g : Geometry) (p : Plan) (image : List ℕ) (r : Running g p image) (j : ℕ) (h : j < data_steps p) where
  abbrev size : ℕ
  size = p.vid.data_size

  abbrev at : ℕ
  at = g.data_start + j * g.unit

  module _ {f t n : ℕ} (is_f : f ≡ p.old * g.peb_size) (is-t : t ≡ p.target * g.peb_size)
      (is-n : n ≡ min p.unit (size - j * g.unit)) where
    end_within : at + n ≤ g.peb_size
    end_within = omega (arith, unit_within g p image r j h, r.size_fits, r.measured.placed.leb_fills)

    pub copyable : (f + at + n ≤ length image) ×
        ((t + at + n ≤ length image) × ((f + at + n ≤ t + at) ⊎ (t + at + n ≤ f + at)))
    copyable = (
      omega (arith, end_within, r.old_room),
      (
        omega (arith, end_within, r.target_room),
        rw (is_f, is-t)
            (apart p.old p.target g.peb_size at n r.apart end_within),
      ),
    )

    pub unit_stored : {y : List ℕ} → y ≡ put (t + at) (part (f + at) n image) image
        → y ≡ put (peb_start g p.target + at) (unit_bytes p image j) image
    unfolding unit_bytes
    unit_stored e = rw (← r.measured.is) (rw (is_f, is-t, is-n, r.measured.same_unit) at e)
