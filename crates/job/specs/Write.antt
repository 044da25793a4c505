-- 01 'The mover's steps': what a write leaves, whole or cut. Assumes nothing.
use Rattle.std.specs.Prelude.{ℕ, suc, ◌*◌, Bool, cond, List, [], ◌∷◌, take, replicate}
use Rattle.base.specs.Lists.{part, put}
use Rattle.geometry.specs.declared.Geometry.{Geometry}

-- bytes stored from a place of the image on; a block of so many bytes from a place on, erased; or nothing
pub data Write : Type 0 where
  store : ℕ → List ℕ → Write
  erase : ℕ → ℕ → Write
  nothing : Write

-- the image after a whole write: an erase leaves 0xFF
abbrev pub applied_whole : Write → List ℕ → List ℕ
applied_whole (store at bs) image = put at bs image
applied_whole (erase at n) image = put at (replicate n 0xFF) image
applied_whole nothing image = image

-- bytes of which those in the set, by their place in the list, are erased
abbrev pub erased_in : (ℕ → Bool) → List ℕ → List ℕ
erased_in set [] = []
erased_in set (b ∷ bs) = cond (set 0) 0xFF b ∷ erased_in (λ i. set (suc i)) bs

-- the image after a write that was cut: "A cut leaves a prefix of the bytes of a store; of an erase, any bytes old or
-- 0xFF": the number of bytes that were stored, or the set of those that were erased
abbrev pub applied_cut : ℕ → (ℕ → Bool) → Write → List ℕ → List ℕ
applied_cut stored erased (store at bs) image = put at (take stored bs) image
applied_cut stored erased (erase at n) image = put at (erased_in erased (part at n image)) image
applied_cut stored erased nothing image = image

-- where a PEB starts in the image
abbrev pub peb_start : Geometry → ℕ → ℕ
peb_start g i = i * g.peb_size
