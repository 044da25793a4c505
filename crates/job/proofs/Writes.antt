-- Writes within an image: lengths, bytes, and a whole write as a cut behind its end. Assumes nothing.
use mathlib.Core.Path.{◌≡◌, refl, ap}
use mathlib.Core.Bool.{Bool, true, false, cond}
use mathlib.Core.List.{List, [], ◌∷◌}
use Prim.Native.Nat.{ℕ, zero, suc, ◌+◌, ◌≤◌, ◌<◌}
use native.Mathlib.Omega.{arith}
use lib.Dec.{lit<}
use lib.ListN.{length, take, replicate, length-take}
use lib.Seq.{take_all}
use Rattle.base.specs.Lists.{part, Bytes}
use Rattle.base.proofs.Lists.{length_part, bytes_take, bytes_part, EachByte, each_append, each_zero, bytes_each}
use Rattle.base.proofs.Stores.{length_put, bytes_put}
use Rattle.field.proofs.Laws.{each_to_be}
use Rattle.header.specs.Ec.{ec_magic, ec_head, ec_bytes}
use Rattle.header.specs.Vid.{vid_magic, vid_head, vid_bytes}
use Rattle.header.specs.declared.EcHeader.{EcHeader}
use Rattle.header.specs.declared.VidHeader.{VidHeader}
use Rattle.job.specs.Write.{Write, store, erase, nothing, applied_whole, applied_cut, erased_in}

-- ---- erased bytes

pub length_erased : (set : ℕ → Bool) (l : List ℕ) → length (erased_in set l) ≡ length l
length_erased set [] = refl
length_erased set (b ∷ l) = ap suc (length_erased (λ i. set (suc i)) l)

pub erased_all : (l : List ℕ) → erased_in (λ i. true) l ≡ replicate (length l) 0xFF
erased_all [] = refl
erased_all (b ∷ l) = ap (λ (r : List ℕ). 0xFF ∷ r) (erased_all l)

-- ---- lengths

-- a write that stays within an image
abbrev pub Within : Write → List ℕ → Type 0
Within (store at bs) image = at + length bs ≤ length image
Within (erase at n) image = at + n ≤ length image
Within nothing image = Unit {0}

pub cut_length : (w : Write) (image : List ℕ) → Within w image → (m : ℕ) (set : ℕ → Bool)
    → length (applied_cut m set w image) ≡ length image
cut_length (store at bs) image h m set = length_put at (take m bs) image (rw length-take (omega arith))
cut_length (erase at n) image h m set =
    length_put at (erased_in set (part at n image)) image
    (rw (length_erased set (part at n image), length_part at n image h) h)
cut_length nothing image h m set = refl

-- a whole write is one that is cut after the last of its bytes
pub whole_is_cut : (w : Write) (image : List ℕ) → Within w image
    → applied_whole w image ≡ applied_cut (length image) (λ i. true) w image
whole_is_cut (store at bs) image h = rw (take_all (length image) bs (omega arith))
whole_is_cut (erase at n) image h = rw (erased_all (part at n image), length_part at n image h)
whole_is_cut nothing image h = refl

pub whole_length : (w : Write) (image : List ℕ) → Within w image → length (applied_whole w image) ≡ length image
whole_length w image h = rw (whole_is_cut w image h) (cut_length w image h (length image) (λ i. true))

-- ---- bytes stay bytes

each_ec_magic : EachByte ec_magic
each_ec_magic = omega arith

each_vid_magic : EachByte vid_magic
each_vid_magic = omega arith

pub ec_octets : (h : EcHeader) → Bytes (ec_bytes h)
unfolding ec_bytes ec_head
ec_octets h = bytes_each (ec_bytes h) (search (each_append, each_to_be, each_zero, each_ec_magic) depth 16)

pub vid_octets : (h : VidHeader) → Bytes (vid_bytes h)
unfolding vid_bytes vid_head
vid_octets h = bytes_each (vid_bytes h) (search (each_append, each_to_be, each_zero, each_vid_magic) depth 30)

ff_octets : (n : ℕ) → Bytes (replicate n 0xFF)
ff_octets zero k = lit< tt
ff_octets (suc n) zero = lit< tt
ff_octets (suc n) (suc k) = ff_octets n k

erased_octets : (set : ℕ → Bool) (l : List ℕ) → Bytes l → Bytes (erased_in set l)
erased_octets set [] b k = lit< tt
erased_octets set (x ∷ l) b zero = go (set 0)
  where
    go : (s : Bool) → cond s 0xFF x < 256
    go true = lit< tt
    go false = b 0
erased_octets set (x ∷ l) b (suc k) = erased_octets (λ i. set (suc i)) l (λ j. b (suc j)) k

-- what a write stores is bytes
abbrev pub Octets : Write → Type 0
Octets (store at bs) = Bytes bs
Octets (erase at n) = Unit {0}
Octets nothing = Unit {0}

pub whole_octets : (w : Write) (image : List ℕ) → Bytes image → Octets w → Bytes (applied_whole w image)
whole_octets (store at bs) image b o = bytes_put at bs image o b
whole_octets (erase at n) image b o = bytes_put at (replicate n 0xFF) image (ff_octets n) b
whole_octets nothing image b o = b

pub cut_octets : (w : Write) (image : List ℕ) → Bytes image → Octets w → (m : ℕ) (set : ℕ → Bool)
    → Bytes (applied_cut m set w image)
cut_octets (store at bs) image b o m set = bytes_put at (take m bs) image (bytes_take m bs o) b
cut_octets (erase at n) image b o m set =
    bytes_put at (erased_in set (part at n image)) image (erased_octets set (part at n image) (bytes_part at n image b))
    b
cut_octets nothing image b o m set = b
