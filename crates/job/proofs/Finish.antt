-- A job that is run to its end: done or refused, and the course to the end that the power-cut theorem speaks of.
-- Assumes nothing.
use mathlib.Core.Path.{◌≡◌, refl, sym, ap, ◌∙◌}
use mathlib.Core.Logic.{◌⊎◌, inl, inr}
use mathlib.Core.Bool.{Bool, true, false}
use mathlib.Core.List.{List}
use Prim.Native.Nat.{ℕ, zero, suc, ◌+◌, ◌-◌, ◌≤◌, ◌<◌}
use native.Mathlib.Omega.{arith}
use lib.Dec.{ltb}
use borrow.Author.Tests.{ltb-true, ltb-false}
use Rattle.base.specs.Answers.{Answer, given, refused}
use Rattle.job.specs.Write.{applied_whole}
use Rattle.job.specs.Job.{Job, Progress, on, done, step_write, step_answer, Stepping, stepping}
use Rattle.job.specs.Course.{to_end, plan_left, next_step, one_step, after_steps, finishing, image_left}
use Rattle.job.proofs.Writes.{whole_length}
use Rattle.job.proofs.Runs.{Lawful, nexts}

module _ {P : Type 0} (J : Job P) (L : Lawful J) where
  abbrev Over : Answer (Progress P) → Type 0
  Over a = (a ≡ given done) ⊎ (a ≡ refused 18 0)

  refused_done : {A : Type 0} → ◌≡◌ {A = Answer (Progress P)} (refused 18 0) (given done) → A
  refused_done e = absurd (let z : ◌≡◌ {A = ℕ} 0 1 = cc in omega arith)

  module _ (p : P) (image : List ℕ) where
    abbrev next : List ℕ
    next = (stepping J p image).image

    abbrev left : ℕ
    left = J.count p image - J.ran p

    -- a step goes on, and one less is left; or it is done, which it is if none is left, or refused, and changes nothing
    data Next : Type 0 where
      goes : (stepping J p image).answer ≡ given (on (J.next p)) → left ≡ suc (J.count (J.next p) next - J.ran (J.next p))
          → Next
      ends : Over (stepping J p image).answer → next ≡ image → ((stepping J p image).answer ≡ given done → left ≡ 0) → Next

    next_step_lem : Next
    unfolding stepping step_answer step_write
    next_step_lem = go (J.runnable p image) refl (ltb (J.ran p) (J.count p image)) refl
      where
        y : List ℕ
        y = applied_whole (J.write p image (J.ran p)) image

        go : (r : Bool) → J.runnable p image ≡ r → (b : Bool) → ltb (J.ran p) (J.count p image) ≡ b → Next
        go true m true h =
            let l = whole_length (J.write p image (J.ran p)) image (L.within p image m (J.ran p)) in
            let e = L.same_count p y ∙ (L.by_length p y image l).1 in
            let c = L.counts p in
            let b = ltb-true (J.ran p) (J.count p image) h in
            goes (rw (m, h)) (rw m (omega arith))
        go true m false h =
            let b = ltb-false (J.ran p) (J.count p image) h in
            ends (inl (rw (m, h))) (rw (m, L.late p image (J.ran p) b)) (λ _. omega arith)
        go false m b h = ends (inr (rw m)) (rw m) (λ e. refused_done (rw m at e))

  over_not_on : {A : Type 0} {q : P} {a : Answer (Progress P)} → Over a → given (on q) ≡ a → A
  over_not_on (inl d) e = absurd (let z : ◌≡◌ {A = ℕ} 0 1 = cc in omega arith)
  over_not_on (inr d) e = absurd (let z : ◌≡◌ {A = ℕ} 0 1 = cc in omega arith)

  -- the first step, then the others
  first_step : (p : P) (image : List ℕ) (k : ℕ)
      → after_steps J p image (suc k) ≡ after_steps J (plan_left J p (stepping J p image).answer)
      (stepping J p image).image k
  unfolding after_steps one_step next_step
  first_step p image zero = refl
  first_step p image (suc k) = ap (one_step J) (first_step p image k)

  goes_first : (p q : P) (image : List ℕ) → (stepping J p image).answer ≡ given (on q) → (k : ℕ)
      → after_steps J p image (suc k) ≡ after_steps J q (stepping J p image).image k
  goes_first p q image e k =
      first_step p image k ∙ ap (λ b. after_steps J (plan_left J p b) (stepping J p image).image k) e

  -- where a step does not go on, no further one does
  plan_stays : (p : P) {a : Answer (Progress P)} → Over a → plan_left J p a ≡ p
  plan_stays p (inl d) = rw d
  plan_stays p (inr d) = rw d

  none_more : (p : P) (image : List ℕ) → Over (stepping J p image).answer → (stepping J p image).image ≡ image
      → (k : ℕ) → after_steps J p image k ≡ record { plan = p; image = image }
  unfolding after_steps one_step next_step
  none_more p image o i zero = refl
  none_more p image o i (suc k) = ap (one_step J) (none_more p image o i k)
      ∙ (λ j. record { plan = plan_stays p o j; image = i j })

  -- ---- for a loop that runs the steps

  module _ (p q : P) (image : List ℕ) {y : List ℕ} (e : given (on q) ≡ (stepping J p image).answer) (i : y ≡ (stepping J p image).image) where
    one_less : J.count p image - J.ran p ≡ suc (J.count q y - J.ran q)
    one_less = go (next_step_lem p image)
      where
        go : Next p image → J.count p image - J.ran p ≡ suc (J.count q y - J.ran q)
        go (goes a l) = let z : J.next p ≡ q = same (sym a ∙ sym e) in rw i (rw z at l)
          where
            same : {a b : P} → ◌≡◌ {A = Answer (Progress P)} (given (on a)) (given (on b)) → a ≡ b
            same e = cc
        go (ends o s z) = over_not_on o e

    pub fewer : J.count q y - J.ran q < J.count p image - J.ran p
    fewer = let l = one_less in omega arith

    pub left_on : after_steps J q y (J.count q y - J.ran q) ≡ after_steps J p image (J.count p image - J.ran p)
    left_on = rw (one_less, goes_first p q image (sym e) (J.count q y - J.ran q), ← i)

    pub finish_on : finishing J q y ≡ finishing J p image
    unfolding finishing
    finish_on = ap (next_step J) left_on

  -- the last step
  module _ (p : P) (image : List ℕ) {a : Answer (Progress P)} {y : List ℕ} (e : a ≡ (stepping J p image).answer)
      (i : y ≡ (stepping J p image).image) where
    pub left_last : Over a → after_steps J p image (J.count p image - J.ran p) ≡ record { plan = p; image = image }
    left_last o = go (next_step_lem p image)
      where
        go : Next p image → after_steps J p image (J.count p image - J.ran p) ≡ record { plan = p; image = image }
        go (goes b l) = over_not_on o (sym b ∙ sym e)
        go (ends b t z) = none_more p image b t (J.count p image - J.ran p)

    pub finish_last : {s : Stepping P} → Over a → finishing J p image ≡ s → (a ≡ s.answer) × (y ≡ s.image)
    unfolding finishing next_step
    finish_last {s} o f =
        let z = sym (ap (next_step J) (left_last o)) ∙ f in
        (e ∙ ap (λ (x : Stepping P). x.answer) z, i ∙ ap (λ (x : Stepping P). x.image) z)

  -- ---- the course to the end

  -- after k steps no more go on, as many as are left at most: what the next one answers and leaves does not change
  record Ended (p : P) (image : List ℕ) (k : ℕ) : Type 0 where
    same : after_steps J p image k ≡ after_steps J p image (J.count p image - J.ran p)
    stands : (finishing J p image).image ≡ (after_steps J p image k).image
    over : Over (finishing J p image).answer

  by_next : (p : P) (image : List ℕ) (k : ℕ) → J.count p image - J.ran p ≤ k → Next p image
      → ((q : P) (j : ℕ) → k ≡ suc j → J.count p image - J.ran p ≡ suc (J.count q (stepping J p image).image - J.ran q)
      → Ended q (stepping J p image).image j) → Ended p image k
  unfolding finishing next_step
  by_next p image zero h (goes e l) more = absurd (omega arith)
  by_next p image (suc k) h (goes e l) more =
      let q : P = J.next p in
      let y : List ℕ = (stepping J p image).image in
      let f = finish_on p q image {y = y} (sym e) refl in
      let z = goes_first p q image e in
      let r = more q k refl l in
      record {
        same = z k ∙ (r.same ∙ (sym (z (J.count q y - J.ran q)) ∙ ap (after_steps J p image) (sym l)));
        stands = rw (← f, z k) r.stands;
        over = rw (← f) r.over;
      }
  by_next p image k h (ends o i z) more =
      let z = none_more p image o i in
      let f = z (J.count p image - J.ran p) in
      record { same = z k ∙ sym f; stands = rw (f, z k) i; over = rw f o }

  -- as many steps as are left
  all_ended : (n : ℕ) (p : P) (image : List ℕ) (k : ℕ) → J.count p image - J.ran p < n → J.count p image - J.ran p ≤ k
      → Ended p image k
  all_ended zero p image k h l = absurd (omega arith)
  all_ended (suc n) p image k h l =
      by_next p image k l (next_step_lem p image)
      (λ q j s e. all_ended n q (stepping J p image).image j (omega arith) (omega arith))

  -- of every plan and image, whatever number of further steps the course has: the image is the one that the course to
  -- the end leaves, and the answer that of a further step: done or refused
  pub record ToEnd (p : P) (image : List ℕ) (further : ℕ) : Type 0 where
    pub image_is : (finishing J p image).image ≡ image_left J p image (to_end further)
    pub answer_is : (finishing J p image).answer ≡ (next_step J (after_steps J p image (J.count p image + further))).answer
    pub over : Over (finishing J p image).answer

  pub finish_is_to_end : (p : P) (image : List ℕ) (further : ℕ) → ToEnd p image further
  unfolding finishing image_left
  finish_is_to_end p image further =
      let n : ℕ = J.count p image in
      let x = all_ended (suc (n - J.ran p)) p image (n + further) (omega arith) (omega arith) in
      record { image_is = x.stands; answer_is = ap (λ y. (next_step J y).answer) (sym x.same); over = x.over }

  -- and it is the same after any number of steps
  finish_next : (p : P) (image : List ℕ) → Next p image
      → finishing J (plan_left J p (stepping J p image).answer) (stepping J p image).image ≡ finishing J p image
  finish_next p image (goes e l) = rw e (finish_on p (J.next p) image (sym e) refl)
  finish_next p image (ends o i z) = rw i (ap (λ (q : P). finishing J q image) (plan_stays p o))

  pub finish_after : (p : P) (image : List ℕ) (k : ℕ)
      → finishing J (after_steps J p image k).plan (after_steps J p image k).image ≡ finishing J p image
  unfolding after_steps one_step next_step
  finish_after p image zero = refl
  finish_after p image (suc k) =
      let x = after_steps J p image k in
      finish_next x.plan x.image (next_step_lem x.plan x.image) ∙ finish_after p image k

  -- a further step of the plan that it leaves, on the image that it leaves, and a further run of all that are left,
  -- answer the same and change neither image nor plan
  pub finish_again : (p : P) (image : List ℕ)
      → let q = (after_steps J p image (J.count p image - J.ran p)).plan in let y = (finishing J p image).image in
      (stepping J q y ≡ finishing J p image) × ((finishing J q y ≡ finishing J p image)
      × ((after_steps J q y (J.count q y - J.ran q)).plan ≡ q))
  unfolding finishing next_step
  finish_again p image =
      let k : ℕ = J.count p image - J.ran p in
      let q : P = (after_steps J p image k).plan in
      let y : List ℕ = (finishing J p image).image in
      let x = all_ended (suc k) p image k (omega arith) (omega arith) in
      let e = ap (stepping J q) x.stands in
      let l = left_last q y (sym (ap (λ (s : Stepping P). s.answer) e)) refl x.over in
      (e, (ap (finishing J q) x.stands ∙ finish_after p image k, ap (λ z. z.plan) l))

  -- the plan that it leaves where it is done: with as many steps more run as were left
  next_first : (p : P) (k : ℕ) → nexts J (J.next p) k ≡ nexts J p (suc k)
  next_first p zero = refl
  next_first p (suc k) = ap J.next (next_first p k)

  plan_done : (n : ℕ) (p : P) (image : List ℕ) → J.count p image - J.ran p < n → (finishing J p image).answer ≡ given done
      → Next p image → (after_steps J p image (J.count p image - J.ran p)).plan ≡ nexts J p (J.count p image - J.ran p)
  unfolding finishing next_step
  plan_done zero p image h d x = absurd (omega arith)
  plan_done (suc n) p image h d (goes e l) =
      let q : P = J.next p in
      let y : List ℕ = (stepping J p image).image in
      let k : ℕ = J.count q y - J.ran q in
      let r = plan_done n q y (omega arith) (ap (λ (s : Stepping P). s.answer) (finish_on p q image (sym e) refl) ∙ d)
      (next_step_lem q y) in
      rw l (ap (λ z. z.plan) (goes_first p q image e k) ∙ (r ∙ next_first p k))
  plan_done (suc n) p image h d (ends o i z) =
      let m = none_more p image o i (J.count p image - J.ran p) in
      let a : (stepping J p image).answer ≡ given done = rw m at d in
      ap (λ x. x.plan) m ∙ rw (z a)

  pub finish_done : (p : P) (image : List ℕ) → (finishing J p image).answer ≡ given done
      → (after_steps J p image (J.count p image - J.ran p)).plan ≡ nexts J p (J.count p image - J.ran p)
  finish_done p image d = plan_done (suc (J.count p image - J.ran p)) p image (omega arith) d (next_step_lem p image)
