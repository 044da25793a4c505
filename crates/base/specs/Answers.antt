-- Answers and refusals, and rules judged in order. Assumes nothing.
use Rattle.std.specs.Prelude.{ℕ, Bool, true, ◌&&◌, List, [], ◌∷◌}
use Rattle.std.proofs.Math.Option.{Option, none, some}

-- 01 'Refusal numbers': "A refusal returns number and place"
pub data Answer (A : Type 0) : Type 0 where
  given : A → Answer A
  refused : ℕ → ℕ → Answer A

module _ {A : Type 0} where
  -- the first if it is an answer, else the second
  abbrev pub or_else : Option A → Option A → Option A
  or_else (some x) b = some x
  or_else none b = b

module _ {A B : Type 0} where
  abbrev pub map_o : (A → B) → Option A → Option B
  map_o f none = none
  map_o f (some a) = some (f a)

-- do all rules hold?
abbrev pub all_of : List Bool → Bool
all_of [] = true
all_of (b ∷ bs) = b && all_of bs
