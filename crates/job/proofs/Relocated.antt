-- A LEB that gets a new PEB: the bytes of the two PEBs after any number of steps and any cut. Assumes nothing.
use mathlib.Core.Path.{◌≡◌, refl, sym, ◌∙◌, ap, ap₂, subst}
use mathlib.Core.Logic.{◌≢◌, ◌⊎◌, inl, inr, ⊎_elim}
use mathlib.Core.Bool.{Bool}
use mathlib.Core.List.{List, ◌++◌}
use Prim.Native.Nat.{ℕ, zero, suc, ◌+◌, ◌-◌, ◌*◌, ◌≤◌, ◌<◌, min}
use native.Mathlib.Omega.{arith}
use native.Mathlib.Nat.{add-zero}
use lib.Dec.{ltb, eqb}
use borrow.Author.Tests.{lt-ltb, le-ltb, eq-eqb, ne_eqb, ltb-true}
use lib.ListN.{length, take, drop, replicate, length-take, length-replicate}
use lib.Seq.{take_at, take_all, take-add, drop-drop}
use Rattle.base.specs.Lists.{part, put}
use Rattle.base.proofs.Answers.{by_test}
use Rattle.base.proofs.Below.{below_suc}
use Rattle.base.proofs.Lists.{length_part}
use Rattle.base.proofs.Stores.{put_all, put_from, put_before, put_behind}
use Rattle.geometry.specs.Placed.{Placed}
use Rattle.geometry.specs.declared.Geometry.{Geometry}
use Rattle.report.specs.View.{vid_part, peb_at}
use Rattle.job.specs.Write.{Write, store, erase, nothing, applied_whole, applied_cut, erased_in, peb_start}
use Rattle.job.specs.Relocation.{Relocation, relocating}
use Rattle.job.proofs.Writes.{length_erased}
use Rattle.job.proofs.Runs.{written}
use Rattle.job.proofs.Blocks.{peb_length, put_length, put_here, put_else}

-- ---- the write of each step

module _ (g : Geometry) (r : Relocation) where
  pub vid_write : (k : ℕ) → k ≡ 0 → relocating g r k ≡ store (peb_start g r.target + g.vid_start) r.vid
  unfolding relocating
  vid_write k h = rw h

  pub unit_write : (j : ℕ) → j < r.units
      → relocating g r (suc j) ≡ store (peb_start g r.target + (g.data_start + j * g.unit)) (r.unit j)
  unfolding relocating
  unit_write j h = rw (lt-ltb j r.units h)

  pub erase_write : (j : ℕ) → j ≡ r.units → relocating g r (suc j) ≡ erase (peb_start g r.old) g.peb_size
  unfolding relocating
  erase_write j h = rw (le-ltb j r.units (omega arith), eq-eqb j r.units h)

  pub ec_write : (j : ℕ) → j ≡ r.units + 1 → relocating g r (suc j) ≡ store (peb_start g r.old) r.ec
  unfolding relocating
  ec_write j h = rw (le-ltb j r.units (omega arith), ne_eqb j r.units (omega arith), eq-eqb j (r.units + 1) h)

  pub late_write : (k : ℕ) → 3 + r.units ≤ k → relocating g r k ≡ nothing
  unfolding relocating
  late_write zero h = absurd (omega arith)
  late_write (suc j) h = rw (
    le-ltb j r.units (omega arith),
    ne_eqb j r.units (omega arith),
    ne_eqb j (r.units + 1)
        (omega arith),
  )

  -- a statement on each of the writes holds of the write after any number of steps
  pub each_write : (S : Write → Type 0) → S (store (peb_start g r.target + g.vid_start) r.vid)
      → ((j : ℕ) → j < r.units → S (store (peb_start g r.target + (g.data_start + j * g.unit)) (r.unit j)))
      → S (erase (peb_start g r.old) g.peb_size) → S (store (peb_start g r.old) r.ec) → S nothing → (k : ℕ)
      → S (relocating g r k)
  unfolding relocating
  each_write S v u e c n zero = v
  each_write S v u e c n (suc j) =
      by_test (ltb j r.units) (λ h. rw h (u j (ltb-true j r.units h)))
      (λ h. rw h (by_test (eqb j r.units) (λ q. rw q e)
      (λ q. rw q (by_test (eqb j (r.units + 1)) (λ x. rw x c) (λ x. rw x n)))))

-- ---- the two PEBs

-- what a relocation has to do with images of n PEBs; d is the number of data bytes
pub record Sited (g : Geometry) (n d : ℕ) (r : Relocation) : Type 0 where
  pub placed : Placed g
  pub old_there : r.old < n
  pub target_there : r.target < n
  pub apart : r.old ≢ r.target
  pub vid_64 : length r.vid ≡ 64
  pub ec_64 : length r.ec ≡ 64
  pub data_fits : d ≤ g.leb_size
  pub unit_starts : (j : ℕ) → j < r.units → j * g.unit < d
  pub units_cover : d ≤ r.units * g.unit

-- each write starts from the image that the ones before left: with other units, a relocation is the same
abbrev pub with_units : Relocation → (ℕ → List ℕ) → Relocation
with_units r unit = record { old = r.old; target = r.target; vid = r.vid; ec = r.ec; units = r.units; unit = unit }

-- on an image of n PEBs, with `size` bytes of data: as long as the old PEB is what it was, the units are those of the
-- data
pub record Relocates (g : Geometry) (n : ℕ) (image : List ℕ) : Type 0 where
  pub relocation : Relocation
  pub size : ℕ
  pub bytes : List ℕ
  pub unit_in : List ℕ → ℕ → List ℕ
  pub sited : Sited g n size relocation
  pub long : length image ≡ n * g.peb_size
  pub long_bytes : length bytes ≡ size
  pub unit_is : (y : List ℕ) → peb_at g y relocation.old ≡ peb_at g image relocation.old → (j : ℕ) → j < relocation.units
      → unit_in y j ≡ part (j * g.unit) (min g.unit (size - j * g.unit)) bytes

module _ (g : Geometry) (n : ℕ) (image : List ℕ) (R : Relocates g n image) where
  abbrev r : Relocation
  r = R.relocation

  abbrev d : ℕ
  d = R.size

  abbrev D : List ℕ
  D = R.bytes

  s : Sited g n d r
  s = R.sited

  P : Placed g
  P = s.placed

  abbrev o : ℕ
  o = r.old

  abbrev t : ℕ
  t = r.target

  abbrev m : ℕ
  m = r.units

  -- the relocation with the units of an image, and where unit j goes
  abbrev from : List ℕ → Relocation
  from y = with_units r (R.unit_in y)

  abbrev place : ℕ → ℕ
  place j = g.data_start + j * g.unit

  abbrev write : List ℕ → ℕ → Write
  write y k = relocating g (from y) k

  -- nothing has changed but what is stored in the target, and the old PEB
  pub record Near (y : List ℕ) : Type 0 where
    pub long : length y ≡ length image
    pub elsewhere : (i : ℕ) → i ≢ o → i ≢ t → peb_at g y i ≡ peb_at g image i
    pub same_ec : take 64 (peb_at g y t) ≡ take 64 (peb_at g image t)
    pub same_tail : drop (g.data_start + d) (peb_at g y t) ≡ drop (g.data_start + d) (peb_at g image t)

  -- the target has the header whole, and the first c bytes of the data
  pub record Stored (c : ℕ) (y : List ℕ) : Type 0 where
    pub header : vid_part g (peb_at g y t) ≡ r.vid
    pub run : part g.data_start c (peb_at g y t) ≡ take c D

  -- after k whole steps
  data At (k : ℕ) (y : List ℕ) : Type 0 where
    fresh : k ≡ 0 → Near y → peb_at g y o ≡ peb_at g image o → At k y
    going : (j : ℕ) → k ≡ suc j → j ≤ m → Near y → Stored (min (j * g.unit) d) y → peb_at g y o ≡ peb_at g image o
        → At k y
    erased : k ≡ m + 2 → Near y → Stored d y → peb_at g y o ≡ replicate g.peb_size 0xFF → At k y
    ended : 3 + m ≤ k → Near y → Stored d y → peb_at g y o ≡ put 0 r.ec (replicate g.peb_size 0xFF) → At k y

  -- a stopped relocation: the old PEB is touched only when the new one is whole
  pub record Halt (y : List ℕ) : Type 0 where
    pub near : Near y
    pub order : (peb_at g y o ≡ peb_at g image o) ⊎ Stored d y

  near_first : Near image
  near_first = record { long = refl; elsewhere = λ i a b. refl; same_ec = refl; same_tail = refl }

  -- ---- a store in one of the two

  module _ (y : List ℕ) (w : Near y) where
    leny : length y ≡ n * g.peb_size
    leny = w.long ∙ R.long

    module _ (a : ℕ) (bs : List ℕ) (h : 64 ≤ a) (k : a + length bs ≤ g.data_start + d) where
      abbrev y' : List ℕ
      y' = put (peb_start g t + a) bs y

      fits : a + length bs ≤ g.peb_size
      fits = omega (arith, P.leb_fills, s.data_fits)

      in_X : a + length bs ≤ length (peb_at g y t)
      in_X = omega (arith, fits, peb_length g n y leny t s.target_there)

      target_is : peb_at g y' t ≡ put a bs (peb_at g y t)
      target_is = put_here g n y leny t s.target_there a bs fits

      near_target : Near y'
      near_target = record {
        long = put_length g n y leny t s.target_there a bs fits ∙ w.long;
        elsewhere = λ i no nt. put_else g n y leny t s.target_there a bs fits i nt ∙ w.elsewhere i no nt;
        same_ec = rw target_is (put_before a bs (peb_at g y t) in_X 0 64 (omega arith) ∙ w.same_ec);
        same_tail = rw target_is (put_behind a bs (peb_at g y t) in_X (g.data_start + d) k ∙ w.same_tail);
      }

      old_stays : peb_at g y' o ≡ peb_at g y o
      old_stays = put_else g n y leny t s.target_there a bs fits o s.apart

    module _ (bs : List ℕ) (h : length bs ≤ g.peb_size) where
      abbrev y'' : List ℕ
      y'' = put (peb_start g o) bs y

      target_stays : peb_at g y'' t ≡ peb_at g y t
      target_stays = rw add-zero at (put_else g n y leny o s.old_there 0 bs (omega arith) t (λ e. s.apart (sym e)))

      old_is : peb_at g y'' o ≡ put 0 bs (peb_at g y o)
      old_is = rw add-zero at (put_here g n y leny o s.old_there 0 bs (omega arith))

      near_old : Near y''
      near_old = record {
        long = rw add-zero at (put_length g n y leny o s.old_there 0 bs (omega arith)) ∙ w.long;
        elsewhere = λ i no nt. rw add-zero at (put_else g n y leny o s.old_there 0 bs (omega arith) i no)
            ∙ w.elsewhere i no nt;
        same_ec = rw target_stays w.same_ec;
        same_tail = rw target_stays w.same_tail;
      }

      stored_old : (c : ℕ) → Stored c y → Stored c y''
      stored_old c x = record { header = rw target_stays x.header; run = rw target_stays x.run }

    old_long : length (peb_at g y o) ≡ g.peb_size
    old_long = peb_length g n y leny o s.old_there

  -- ---- the header, and a unit

  stored_vid : (y : List ℕ) (w : Near y) → Stored 0 (put (peb_start g t + g.vid_start) r.vid y)
  stored_vid y w =
      let k : g.vid_start + length r.vid ≤ g.data_start + d = omega (arith, s.vid_64, P.data_after_vid) in
      let e = target_is y w g.vid_start r.vid P.vid_after_ec k in
      let l = in_X y w g.vid_start r.vid P.vid_after_ec k in
      record {
        header = rw e (ap (take 64) (put_from g.vid_start r.vid (peb_at g y t) l) ∙ take_at r.vid _ 64 s.vid_64);
        run = refl;
      }

  -- unit j: its bytes, and where they go
  abbrev size : ℕ → ℕ
  size j = min g.unit (d - j * g.unit)

  abbrev unit_of : ℕ → List ℕ
  unit_of j = part (j * g.unit) (size j) D

  unit_long : (j : ℕ) → j < m → length (unit_of j) ≡ size j
  unit_long j h =
      let w = s.unit_starts j h in
      let l = R.long_bytes in
      length_part (j * g.unit) (size j) D (omega arith)

  unit_room : (j : ℕ) → j < m → (c : ℕ) → (64 ≤ place j)
      × (place j + length (take c (unit_of j)) ≤ g.data_start + d)
  unit_room j h c =
      let w = s.unit_starts j h in
      let l = unit_long j h in
      (omega (arith, P.vid_after_ec, P.data_after_vid), rw length-take (omega arith))

  stored_unit : (j : ℕ) (y : List ℕ) (w : Near y) → j < m → Stored (min (j * g.unit) d) y
      → Stored (min (suc j * g.unit) d) (put (peb_start g t + (place j)) (unit_of j) y)
  stored_unit j y w h x =
      let u = s.unit_starts j h in
      let lb = unit_long j h in
      let c : ℕ = j * g.unit in
      let e : min (j * g.unit) d ≡ c = omega arith in
      let e' : min (suc j * g.unit) d ≡ c + size j = omega arith in
      let X : List ℕ = peb_at g y t in
      let k : g.data_start + c + length (unit_of j) ≤ g.data_start + d = omega arith in
      let q = target_is y w (g.data_start + c) (unit_of j) (unit_room j h 0).0 k in
      let l = in_X y w (g.data_start + c) (unit_of j) (unit_room j h 0).0 k in
      let Y : List ℕ = put (g.data_start + c) (unit_of j) X in
      rw e' (record {
        header = rw q (put_before (g.data_start + c) (unit_of j) X l g.vid_start 64 (omega (arith, P.data_after_vid))
            ∙ x.header);
        run =
            rw q
            (take-add c (size j) (drop g.data_start Y)
            ∙ ap₂ ◌++◌
            (put_before (g.data_start + c) (unit_of j) X l g.data_start c (omega arith) ∙ rw e at x.run)
            (ap (take (size j)) (drop-drop c g.data_start Y ∙ put_from (g.data_start + c) (unit_of j) X l)
            ∙ take_at (unit_of j) (drop (g.data_start + c + length (unit_of j)) X) (size j) lb)
            ∙ sym (take-add c (size j) D));
      })

  -- ---- from step to step

  lt_or_eq : (j k : ℕ) → j ≤ k → (j < k) ⊎ (j ≡ k)
  lt_or_eq j k h = below_suc k j (omega arith)

  all_stored : (j : ℕ) (y : List ℕ) → j ≡ m → Stored (min (j * g.unit) d) y → Stored d y
  all_stored j y e x =
      let u = s.units_cover in
      let q : min (m * g.unit) d ≡ d = omega arith in
      rw q at (rw e at x)

  unit_here : (y : List ℕ) → Near y → peb_at g y o ≡ peb_at g image o → (j : ℕ) → j < m
      → write y (suc j) ≡ store (peb_start g t + (place j)) (unit_of j)
  unit_here y w eo j h =
      unit_write g (from y) j h ∙ ap (store (peb_start g t + (place j))) (R.unit_is y eo j h)

  at_going : (j : ℕ) (y : List ℕ) → j ≤ m → Near y → Stored (min (j * g.unit) d) y → peb_at g y o ≡ peb_at g image o
      → At (suc (suc j)) (applied_whole (write y (suc j)) y)
  at_going j y h w x eo =
      ⊎_elim
      (λ (k : j < m).
      let q = unit_room j k (size j) in
      let z : take (size j) (unit_of j) ≡ unit_of j = take_all (size j) (unit_of j) (omega (arith, unit_long j k)) in
      let f : place j + length (unit_of j) ≤ g.data_start + d = rw z at q.1 in
      rw (unit_here y w eo j k)
      (going (suc j) refl k (near_target y w (place j) (unit_of j) q.0 f) (stored_unit j y w k x)
      (old_stays y w (place j) (unit_of j) q.0 f ∙ eo)))
      (λ (e : j ≡ m).
      let F : List ℕ = replicate g.peb_size 0xFF in
      let l : length F ≡ g.peb_size = length-replicate g.peb_size 0xFF in
      rw (erase_write g (from y) j e)
      (erased (omega arith) (near_old y w F (omega arith)) (stored_old y w F (omega arith) d (all_stored j y e x))
      (old_is y w F (omega arith) ∙ put_all F (peb_at g y o) (l ∙ sym (old_long y w)))))
      (lt_or_eq j m h)

  vid_room : (c : ℕ) → g.vid_start + length (take c r.vid) ≤ g.data_start + d
  vid_room c = rw length-take (omega (arith, s.vid_64, P.data_after_vid))

  ec_room : (c : ℕ) → length (take c r.ec) ≤ g.peb_size
  ec_room c = rw length-take (omega (arith, s.ec_64, P.vid_after_ec, P.data_after_vid, P.leb_fills))

  take_whole : (bs : List ℕ) → take (length bs) bs ≡ bs
  take_whole bs = take_all (length bs) bs (omega arith)

  ec_here : (y : List ℕ) (k : ℕ) → k ≡ m + 2 → write y k ≡ store (peb_start g o) r.ec
  ec_here y k e = let q : k ≡ suc (m + 1) = omega arith in rw q (ec_write g (from y) (m + 1) refl)

  at_next : (k : ℕ) (y : List ℕ) → At k y → At (suc k) (applied_whole (write y k) y)
  at_next k y (fresh e w eo) =
      let f = rw (take_whole r.vid) at (vid_room (length r.vid)) in
      let z : min (0 * g.unit) d ≡ 0 = omega arith in
      rw (vid_write g (from y) k e)
      (going 0 (omega arith) (omega arith) (near_target y w g.vid_start r.vid P.vid_after_ec f)
      (rw z (stored_vid y w))
      (old_stays y w g.vid_start r.vid P.vid_after_ec f ∙ eo))
  at_next k y (going j e h w x eo) =
      subst (λ c. At (suc c) (applied_whole (write y c) y)) (sym e) (at_going j y h w x eo)
  at_next k y (erased e w x eo) =
      let f = rw (take_whole r.ec) at (ec_room (length r.ec)) in
      rw (ec_here y k e)
      (ended (omega arith) (near_old y w r.ec f) (stored_old y w r.ec f d x) (old_is y w r.ec f ∙ ap (put 0 r.ec) eo))
  at_next k y (ended h w x eo) = rw (late_write g (from y) k h) (ended (omega arith) w x eo)

  at_steps : (k : ℕ) → At k (written write image k)
  at_steps zero = fresh refl near_first refl
  at_steps (suc k) = at_next k (written write image k) (at_steps k)

  -- ---- a cut in the step after k steps

  module _ (c : ℕ) (set : ℕ → Bool) where
    halt_going : (j : ℕ) (y : List ℕ) → j ≤ m → Near y → Stored (min (j * g.unit) d) y → peb_at g y o ≡ peb_at g image o
        → Halt (applied_cut c set (write y (suc j)) y)
    halt_going j y h w x eo =
        ⊎_elim
        (λ (k : j < m).
        let q = unit_room j k c in
        rw (unit_here y w eo j k)
        (record {
          near = near_target y w (place j) (take c (unit_of j)) q.0 q.1;
          order = inl (old_stays y w (place j) (take c (unit_of j)) q.0 q.1 ∙ eo);
        }))
        (λ (e : j ≡ m).
        let F : List ℕ = erased_in set (peb_at g y o) in
        let f : length F ≤ g.peb_size = omega (arith, length_erased set (peb_at g y o), old_long y w) in
        rw (erase_write g (from y) j e)
        (record { near = near_old y w F f; order = inr (stored_old y w F f d (all_stored j y e x)) }))
        (lt_or_eq j m h)

    halt_cut : (k : ℕ) (y : List ℕ) → At k y → Halt (applied_cut c set (write y k) y)
    halt_cut k y (fresh e w eo) =
        let bs : List ℕ = take c r.vid in
        rw (vid_write g (from y) k e)
        (record {
          near = near_target y w g.vid_start bs P.vid_after_ec (vid_room c);
          order = inl (old_stays y w g.vid_start bs P.vid_after_ec (vid_room c) ∙ eo);
        })
    halt_cut k y (going j e h w x eo) = subst (λ i. Halt (applied_cut c set (write y i) y)) (sym e)
        (halt_going j y h w x eo)
    halt_cut k y (erased e w x eo) =
        rw (ec_here y k e)
        (record {
          near = near_old y w (take c r.ec) (ec_room c);
          order = inr
              (stored_old y w (take c r.ec) (ec_room c) d x);
        })
    halt_cut k y (ended h w x eo) = rw (late_write g (from y) k h) (record { near = w; order = inr x })

    pub cut_halts : (k : ℕ) → Halt (applied_cut c set (write (written write image k) k) (written write image k))
    cut_halts k = halt_cut k (written write image k) (at_steps k)

  -- ---- a relocation that is not cut: the new PEB is whole, the old one erased, with its new EC header

  pub record Whole (y : List ℕ) : Type 0 where
    pub near : Near y
    pub stored : Stored d y
    pub old_erased : peb_at g y o ≡ put 0 r.ec (replicate g.peb_size 0xFF)

  pub whole_end : (k : ℕ) → 3 + m ≤ k → Whole (written write image k)
  whole_end k h = go (at_steps k)
    where
      go : At k (written write image k) → Whole (written write image k)
      go (fresh e w eo) = absurd (omega arith)
      go (going j e q w x eo) = absurd (omega arith)
      go (erased e w x eo) = absurd (omega arith)
      go (ended q w x eo) = record { near = w; stored = x; old_erased = eo }
