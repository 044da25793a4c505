-- What the words of the report say of a block. Assumes nothing.
use mathlib.Core.Path.{◌≡◌, refl, sym, ap, ◌∙◌}
use mathlib.Core.Bool.{Bool, true, false, not, ◌&&◌, cond}
use mathlib.Core.Option.{some}
use mathlib.Core.List.{List}
use Rattle.std.proofs.Common.{Result, Ok, Err, MatchResult, MatchBool}
use Rattle.std.specs.List.{range_with_len, HoldsAt, AllWithin}
use Rattle.std.proofs.lemmas.List.FromFn.{length-range_with_len, get_or-range_with_len}
use Prim.Native.Nat.{ℕ, ◌+◌, ◌-◌, ◌*◌, ◌≤◌, ◌<◌}
use native.Mathlib.Omega.{arith}
use native.Mathlib.Nat.{zero-add, mul-le-mul_right}
use borrow.Author.Tests.{lt-ltb, eq-eqb}
use lib.Dec.{eqb}
use lib.ListN.{length, take, drop, get_or, length-drop}
use lib.Seq.{drop-drop}
use Rattle.base.specs.Lists.{part}
use Rattle.base.proofs.Lists.{to_end_lem, length_part}
use Rattle.base.proofs.Lists.{part_take}
use Rattle.base.proofs.Answers.{by_option}
use Rattle.base.specs.Below.{any_below}
use Rattle.base.proofs.Below.{none_intro, any_intro}
use Rattle.geometry.specs.declared.Geometry.{Geometry}
use Rattle.header.specs.declared.EcHeader.{EcHeader}
use Rattle.header.specs.declared.VidHeader.{VidHeader}
use Rattle.report.specs.View.{
  EcView,
  VidView,
  vid_good,
  vid_newer,
  vid_blank,
  vid_bad,
  Medium,
  medium_of,
  view_of,
  copy_of,
  peb_at,
  ecs,
  copies,
  good_vid,
  is_mappable,
}
use Rattle.report.specs.Volumes.{Places}
use Rattle.report.specs.Report.{class_of, class_at, counter_at, is_internal, mean_of, records, places, is_place, stays_in}
use Rattle.words.specs.Words.{no_word}
use Rattle.peb_scan.specs.Seen.{vid_seen}
use Rattle.peb_scan.specs.declared.NoHeader.{NoHeader}
use Rattle.peb_scan.specs.declared.NoHeader.TheVariants.{Newer, Blank, Bad}
use Rattle.mover_rules.specs.Headers.{data_end, old_counter}
use Rattle.mover_checks.specs.Reported.{Reported, is_no_target}
use Rattle.mover_copy.proofs.Data.{clean_end}

-- ---- the class word

class_not_5 : (t : List ℕ) (ps : Places) (i : ℕ) (e : EcView) (v : VidView) → (class_of t ps i e v ≡ 5 → ⊥)
    → false ≡ is_internal 1 (good_vid v)
class_not_5 t ps i e (vid_good c) n =
    go (is_mappable c.header.volume) (is_place (ps c.header.volume c.header.lnum) i)
    (stays_in t c.header.volume c.header.lnum) (eqb c.header.compat 1) n
  where
    go : (a b c d : Bool) → (cond {A = ℕ} a (cond b (cond c 1 5) 2) (cond d 5 6) ≡ 5 → ⊥) → false ≡ not a && d
    go true b c d n = refl
    go false b c true n = absurd (n refl)
    go false b c false n = refl
class_not_5 t ps i e vid_newer n = refl
class_not_5 t ps i e vid_blank n = refl
class_not_5 t ps i e vid_bad n = refl

pub kept : (m : Medium) (i : ℕ) {w : ℕ} → w ≡ class_at m i → (w ≡ 5 → ⊥) → false ≡ is_internal 1 (copies m.views i)
unfolding class_at
kept m i e k = class_not_5 (records m) (places m) i (m.views i).ec (m.views i).vid (λ q. k (e ∙ q))

-- what is seen of a header says whether its block is to be deleted
pub seen_to_delete : (g : Geometry) (p : List ℕ) (seen : Result VidHeader NoHeader) {b : Bool}
    → MatchResult seen (λ h. b ≡ (not (is_mappable h.volume) && eqb h.compat 1)) (λ _. b ≡ false)
    → b ≡ is_internal 1 (good_vid (vid_seen g p seen))
unfolding copy_of
seen_to_delete g p (Ok h) e = e
seen_to_delete g p (Err Newer) e = e
seen_to_delete g p (Err Blank) e = e
seen_to_delete g p (Err Bad) e = e

-- an answer for some number below n, or for each
at_range : (n i : ℕ) → i < n → get_or (range_with_len 0 n) i 0 ≡ i
at_range n i h = get_or-range_with_len 0 n i 0 h ∙ zero-add i

pub any_is : (n : ℕ) (p : ℕ → Bool) (b : Bool)
    → MatchBool b ((k : ℕ) × (k < length (range_with_len 0 n)) × HoldsAt (λ i. p i ≡ true) (range_with_len 0 n) k)
    (AllWithin (λ i. p i ≡ false) (range_with_len 0 n) 0 (length (range_with_len 0 n))) → b ≡ any_below n p
any_is n p true h =
    let l : h.0 < n = rw length-range_with_len at h.1 in
    sym (any_intro n p h.0 l (rw (at_range n h.0 l) at (h.2 0)))
any_is n p false h =
    sym (none_intro n p (λ i l. rw (at_range n i l) at (h i 0 (omega arith) (rw length-range_with_len l))))

-- ---- the counter word

module _ (m : Medium) (o : ℕ) (most : (h : EcHeader) → ecs m.views o ≡ some h → h.counter ≤ 0x7FFFFFFF)
    {w : ℕ} (is : w ≡ counter_at m o) where
  pub counter_lost : w ≡ no_word → mean_of m ≡ old_counter m o
  unfolding counter_at old_counter
  counter_lost e = by_option (ecs m.views o) (λ q. rw q) (λ h q. absurd (omega (arith, most h q, rw q at (sym is ∙ e))))

  pub counter_there : (w ≡ no_word → ⊥) → w ≡ old_counter m o
  unfolding counter_at old_counter
  counter_there k = is ∙ by_option (ecs m.views o) (λ q. absurd (k (is ∙ rw q))) (λ h q. rw q)

-- ---- a PEB of the image

module _ {g : Geometry} {n : ℕ} {image pebs : List ℕ} (r : Reported g n image pebs) (i : ℕ) (h : i < n) where
  pub room : i * g.peb_size + g.peb_size ≤ length image
  room = omega (arith, r.whole, mul-le-mul_right g.peb_size h)

  -- the bytes past its EC header
  pub past_ec : part (i * g.peb_size + 64) (g.peb_size - 64) image ≡ drop 64 (peb_at g image i)
  past_ec =
      let b : List ℕ = drop (i * g.peb_size) image in
      let l : length (take g.peb_size b) ≡ g.peb_size = length_part (i * g.peb_size) g.peb_size image room in
      let k : g.peb_size ≤ length b = simp length-drop (omega (arith, room)) in
      sym
      (sym (rw l at (to_end_lem 64 (take g.peb_size b)))
      ∙ part_take 64 (g.peb_size - 64) g.peb_size b
      (omega (arith, r.placed.vid_after_ec, r.placed.data_after_vid, r.placed.leb_fills))
      ∙ ap (take (g.peb_size - 64)) (drop-drop 64 (i * g.peb_size) image))

-- ---- the target

module _ {g : Geometry} {n : ℕ} {image pebs : List ℕ} (r : Reported g n image pebs) (t : ℕ) (h : t < n) where
  pub free_target : {w at end : ℕ} → w ≡ class_at (medium_of g n image) t → w ≡ 0 → at ≡ t * g.peb_size
      → end ≡ data_end (take (at + g.peb_size - (at + 64)) (drop (at + 64) image))
      → not (eqb end 0) ≡ is_no_target (medium_of g n image) t
  unfolding view_of
  free_target {w} {at} {end} e z a d =
      let k : at + g.peb_size - (at + 64) ≡ g.peb_size - 64 = omega arith in
      let q : end ≡ data_end (drop 64 (peb_at g image t)) = rw (k, a, past_ec r t h) at d in
      rw (lt-ltb t n h, eq-eqb (class_at (medium_of g n image) t) 0 (sym e ∙ z), q, clean_end (drop 64 (peb_at g image t)))
