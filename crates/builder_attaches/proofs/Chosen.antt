-- Each LEB of a filled image has one copy, which is chosen; no copy repeats a sequence, and the highest is the last
-- copy's. Assumes nothing.
use mathlib.Core.Path.{◌≡◌, refl, sym, ap, ap₂, ◌∙◌}
use mathlib.Core.Logic.{◌≢◌}
use mathlib.Core.Bool.{true, false, cond, and-false}
use mathlib.Core.Option.{Option, none, some}
use Prim.Native.Nat.{ℕ, zero, suc, ◌+◌, ◌≤◌, ◌<◌}
use native.Mathlib.Omega.{arith}
use borrow.Author.Tests.{ne_eqb, lt-ltb}
use lib.Dec.{eqb}
use Rattle.base.specs.Below.{sum_below}
use Rattle.base.proofs.Answers.{none_some, by_option, map_o_none, map_o_some}
use Rattle.base.proofs.Below.{sum_grows}
use Rattle.base.proofs.Highest.{max_at, max_most}
use Rattle.header.specs.Vid.{layout_volume}
use Rattle.report.specs.View.{Copy, copy_of, good_vid, copies, is_mappable}
use Rattle.report.specs.Choice.{of_key, repeats, chosen, refusal9}
use Rattle.report.specs.Report.{sequence_or0, highest_of}
use Rattle.report.proofs.Choice.{pick_some, of_key_hit, chosen_at}
use Rattle.report.proofs.Facts.{no_9}
use Rattle.builder_rules.specs.Blocks.{BuildPlan, layout_vid, user_vid, key_below, block_no, lebs_of}
use Rattle.builder_rules.proofs.Keys.{key_at, key_here, key_within}
use Rattle.builder_rules.specs.Filling.{Accepted}
use Rattle.builder_rules.proofs.Accepted.{volumes_few, pebs_suffice}
use Rattle.builder_attaches.proofs.Views.{filled, shown, layout_copy, leb_copy, standing, peb_shows}

-- ---- the only copy of a LEB

module _ (n : ℕ) (cs : ℕ → Option Copy) (v l : ℕ) where
  pub chosen_none : ((j : ℕ) (d : Copy) → j < n → cs j ≡ some d → d.header.volume ≡ v → d.header.lnum ≡ l → ⊥)
      → chosen n cs v l ≡ none
  chosen_none none_is =
      by_option (chosen n cs v l) (λ q. q)
      (λ x q. let r = chosen_at n cs v l x.0 x.1 q in absurd (none_is x.0 x.1 r.0 r.1 r.2 r.3))

  pub chosen_only : (p : ℕ) (c : Copy) → p < n → cs p ≡ some c → c.header.volume ≡ v → c.header.lnum ≡ l
      → ((j : ℕ) (d : Copy) → j < n → cs j ≡ some d → d.header.volume ≡ v → d.header.lnum ≡ l → j ≡ p)
      → chosen n cs v l ≡ some (p, c)
  unfolding chosen
  chosen_only p c h e hv hl only =
      by_option (chosen n cs v l)
      (λ q. absurd (pick_some n (λ i. of_key v l (cs i)) p c h (rw e (of_key_hit v l c hv hl)) q))
      (λ x q.
      let r = chosen_at n cs v l x.0 x.1 q in
      let z : x.0 ≡ p = only x.0 x.1 r.0 r.1 r.2 r.3 in
      let y : some x.1 ≡ some c = sym r.1 ∙ ap cs z ∙ e in
      let w : x.1 ≡ c = cc in
      q ∙ ap₂ (λ i d. some (i, d)) z w)

-- ---- what stands in a PEB

module _ (b : BuildPlan) where
  -- a copy in PEB p: of a layout LEB, or of the LEB whose block it is
  pub data Stands (p : ℕ) (c : Copy) : Type 0 where
    is_layout : p < 2 → c ≡ layout_copy b p → Stands p c
    is_leb : (v l : ℕ) → v < b.volumes → l < lebs_of b v → p ≡ 2 + block_no (lebs_of b) v l → c ≡ leb_copy b (v, l)
        → Stands p c

  pub stands : (p : ℕ) (c : Copy) → standing b p ≡ some c → Stands p c
  unfolding standing
  stands zero c e = is_layout (omega arith) (cc)
  stands (suc zero) c e = is_layout (omega arith) (cc)
  stands (suc (suc k)) c e =
      let r = map_o_some (leb_copy b) (key_below b.volumes (lebs_of b) k) c e in
      let h = key_here (lebs_of b) b.volumes k r.0 r.1 in
      is_leb r.0.0 r.0.1 h.volume h.lnum (omega (arith, h.block)) (sym r.2)

  -- the PEBs of LEBs: there is a copy in each of them, and in none past them
  abbrev pebs_used : ℕ
  pebs_used = 2 + sum_below b.volumes (lebs_of b)

  stands_within : (p : ℕ) (c : Copy) → Stands p c → p < pebs_used
  stands_within p c (is_layout h q) = omega arith
  stands_within p c (is_leb v l hv hl e q) = omega (arith, sum_grows (lebs_of b) (suc v) b.volumes hv)

  none_past : (p : ℕ) → standing b p ≡ none → pebs_used ≤ p
  unfolding standing
  none_past zero e = none_some (sym e)
  none_past (suc zero) e = none_some (sym e)
  none_past (suc (suc k)) e =
      omega (arith, key_within (lebs_of b) b.volumes k (map_o_none (leb_copy b) (key_below b.volumes (lebs_of b) k) e))

  -- the PEB of a layout LEB, or of LEB l of volume v
  abbrev home : ℕ → ℕ → ℕ
  home v l = cond (eqb v layout_volume) l (2 + block_no (lebs_of b) v l)

module _ (b : BuildPlan) (n : ℕ) (a : Accepted b n) where
  abbrev pub cs : ℕ → Option Copy
  cs = copies (filled b n).views

  pub copy_is : (p : ℕ) → p < n → cs p ≡ standing b p
  copy_is p h = ap good_vid (peb_shows b n a p h).vid ∙ back (standing b p)
    where
      back : (o : Option Copy) → good_vid (shown o) ≡ o
      back none = refl
      back (some c) = refl

  pub seen : (p : ℕ) (c : Copy) → p < n → cs p ≡ some c → Stands b p c
  seen p c h e = stands b p c (sym (copy_is p h) ∙ e)

  user : (v : ℕ) → v < b.volumes → v ≢ layout_volume
  user v h e = omega (arith, volumes_few b n a, e)

  -- ---- by the copies' keys and sequences

  at_home : (p : ℕ) (c : Copy) → Stands b p c → p ≡ home b c.header.volume c.header.lnum
  unfolding copy_of layout_vid user_vid
  at_home p c (is_layout h q) = rw q
  at_home p c (is_leb v l hv hl e q) = rw (q, ne_eqb v layout_volume (user v hv)) e

  pub mappable : (p : ℕ) (c : Copy) → Stands b p c → is_mappable c.header.volume ≡ true
  unfolding copy_of layout_vid user_vid
  mappable p c (is_layout h q) = rw q
  mappable p c (is_leb v l hv hl e q) = rw (q, lt-ltb v 128 (omega (arith, volumes_few b n a)))

  leb_below : (p : ℕ) (c : Copy) → Stands b p c → c.header.volume ≢ layout_volume
      → c.header.lnum < lebs_of b c.header.volume
  unfolding copy_of layout_vid user_vid
  leb_below p c (is_layout h q) ne = absurd (ne (rw q))
  leb_below p c (is_leb v l hv hl e q) ne = rw q hl

  -- "sequences from 1 in that order"
  sequence_is : (p : ℕ) (c : Copy) → Stands b p c → c.header.sequence ≡ p + 1
  unfolding copy_of layout_vid user_vid
  sequence_is p c (is_layout h q) = rw q
  sequence_is p c (is_leb v l hv hl e q) = rw (q, e) (omega arith)

  pub none_9 : refusal9 n cs ≡ none
  none_9 = no_9 n cs (λ i j hi hj. apart i j hi hj (cs i) (cs j) refl refl)
    where
      apart : (i j : ℕ) → i < n → j < i → (x y : Option Copy) → cs i ≡ x → cs j ≡ y → repeats x y ≡ false
      apart i j hi hj none y p q = refl
      apart i j hi hj (some c) none p q = refl
      apart i j hi hj (some c) (some d) p q =
          let s = sequence_is i c (seen i c hi p) in
          let t = sequence_is j d (seen j d (omega arith) q) in
          rw (ne_eqb c.header.sequence d.header.sequence (λ e. omega arith), and-false, and-false, and-false)

  -- that of the last PEB with a copy
  pub highest_is : highest_of n cs ≡ pebs_used b
  unfolding highest_of
  highest_is =
      let f : ℕ → ℕ = λ i. sequence_or0 (cs i) in
      let p : ℕ = 1 + sum_below b.volumes (lebs_of b) in
      let h : p < n = omega (arith, pebs_suffice b n a) in
      omega (arith, max_most n f (pebs_used b) most, max_at n f p h, last p h (omega arith))
    where
      most : (i : ℕ) → i < n → sequence_or0 (cs i) ≤ pebs_used b
      most i h =
          by_option (cs i) (λ e. rw e (omega arith))
          (λ c e. let s = seen i c h e in rw e (omega (arith, sequence_is i c s, stands_within b i c s)))

      last : (p : ℕ) → p < n → p < pebs_used b → sequence_or0 (cs p) ≡ p + 1
      last p h k =
          by_option (cs p) (λ e. absurd (omega (arith, none_past b p (sym (copy_is p h) ∙ e))))
          (λ c e. rw e (sequence_is p c (seen p c h e)))

  -- ---- the choice of each LEB

  chosen_at_home : (p : ℕ) (c : Copy) → p < n → standing b p ≡ some c
      → chosen n cs c.header.volume c.header.lnum ≡ some (p, c)
  chosen_at_home p c h e =
      chosen_only n cs c.header.volume c.header.lnum p c h (copy_is p h ∙ e) refl refl
      (λ j d k q hv hl. at_home j d (seen j d k q) ∙ ap₂ (home b) hv hl ∙ sym (at_home p c (stands b p c e)))

  pub chosen_leb : (v l : ℕ) → v < b.volumes → l < lebs_of b v
      → chosen n cs v l ≡ some (2 + block_no (lebs_of b) v l, leb_copy b (v, l))
  unfolding standing copy_of user_vid
  chosen_leb v l hv hl =
      let p : 2 + block_no (lebs_of b) v l ≡ suc (suc (block_no (lebs_of b) v l)) = omega arith in
      chosen_at_home (2 + block_no (lebs_of b) v l) (leb_copy b (v, l))
      (omega (arith, sum_grows (lebs_of b) (suc v) b.volumes hv, pebs_suffice b n a))
      (rw (p, key_at (lebs_of b) b.volumes v l hv hl))

  pub chosen_layout : (l : ℕ) → l < 2 → chosen n cs layout_volume l ≡ some (l, layout_copy b l)
  unfolding standing copy_of layout_vid
  chosen_layout zero h = chosen_at_home 0 (layout_copy b 0) (omega (arith, a.pebs_least)) refl
  chosen_layout (suc zero) h = chosen_at_home 1 (layout_copy b 1) (omega (arith, a.pebs_least)) refl
  chosen_layout (suc (suc l)) h = absurd (omega arith)

  pub unmapped : (v l : ℕ) → v < b.volumes → lebs_of b v ≤ l → chosen n cs v l ≡ none
  unmapped v l hv hl =
      chosen_none n cs v l
      (λ j d k q ev el.
      let z = rw (ev, el) at (leb_below j d (seen j d k q) (λ e. user v hv (sym ev ∙ e))) in
      omega arith)
