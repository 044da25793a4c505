-- The steps of a job, called one by one: what they answer, and the image after any number of them. Assumes nothing.
use mathlib.Core.Path.{◌≡◌, refl, sym, ◌∙◌, ap, ap₂}
use mathlib.Core.Bool.{true}
use mathlib.Core.List.{List}
use Prim.Native.Nat.{ℕ, zero, suc, ◌+◌, ◌≤◌, ◌<◌, min}
use native.Mathlib.Omega.{arith}
use native.Mathlib.Decide.{dec_lt}
use borrow.Author.Tests.{lt-ltb, le-ltb}
use lib.ListN.{length}
use Rattle.base.specs.Answers.{given}
use Rattle.base.specs.Lists.{Bytes}
use Rattle.job.specs.Write.{Write, nothing, applied_whole, applied_cut}
use Rattle.job.specs.Job.{Job, on, done, step_write, step_answer, stepping, step_cut}
use Rattle.job.specs.Course.{Course, to_end, to_stop, plan_left, next_step, one_step, after_steps, image_left, Steps}
use Rattle.job.proofs.Writes.{Within, whole_length, Octets, whole_octets, cut_octets}

-- what every job fulfils
pub record Lawful {P : Type 0} (J : Job P) : Type 0 where
  -- a step counts one more, and changes neither the number of steps nor what they write
  pub counts : (p : P) → J.ran (J.next p) ≡ J.ran p + 1
  pub same_count : (p : P) (image : List ℕ) → J.count (J.next p) image ≡ J.count p image
  pub same_write : (p : P) (image : List ℕ) (k : ℕ) → J.write (J.next p) image k ≡ J.write p image k
  -- 18 and the number of steps look at the image's length alone
  pub by_length : (p : P) (a b : List ℕ) → length a ≡ length b
      → (J.runnable p a ≡ J.runnable p b) × (J.count p a ≡ J.count p b)
  -- writes stay within the image, and there are as many as are counted
  pub within : (p : P) (image : List ℕ) → J.runnable p image ≡ true → (k : ℕ) → Within (J.write p image k) image
  pub late : (p : P) (image : List ℕ) (k : ℕ) → J.count p image ≤ k → J.write p image k ≡ nothing
  pub octets : (p : P) (image : List ℕ) (k : ℕ) → Bytes image → Octets (J.write p image k)

-- whole writes, one after the other, each on the image that the one before left
abbrev pub written : (List ℕ → ℕ → Write) → List ℕ → ℕ → List ℕ
written write image zero = image
written write image (suc k) = applied_whole (write (written write image k) k) (written write image k)

-- the plan with k steps more run
abbrev pub nexts : {P : Type 0} → Job P → P → ℕ → P
nexts J p zero = p
nexts J p (suc k) = J.next (nexts J p k)

module _ {P : Type 0} (J : Job P) (L : Lawful J) (p : P) where
  nexts_ran : (k : ℕ) → J.ran (nexts J p k) ≡ J.ran p + k
  nexts_ran zero = omega arith
  nexts_ran (suc k) = let e = nexts_ran k in L.counts (nexts J p k) ∙ omega arith

  nexts_count : (k : ℕ) (i : List ℕ) → J.count (nexts J p k) i ≡ J.count p i
  nexts_count zero i = refl
  nexts_count (suc k) i = L.same_count (nexts J p k) i ∙ nexts_count k i

  nexts_write : (k : ℕ) (i : List ℕ) (j : ℕ) → J.write (nexts J p k) i j ≡ J.write p i j
  nexts_write zero i j = refl
  nexts_write (suc k) i j = L.same_write (nexts J p k) i j ∙ nexts_write k i j

  -- where 18 refuses none of the steps
  module _ (image : List ℕ) (may : (k : ℕ) → J.runnable (nexts J p k) image ≡ true) (unstarted : J.ran p ≡ 0) where
    abbrev count : ℕ
    count = J.count p image

    -- the next step after k, on an image i of the same length
    module _ (i : List ℕ) (len : length i ≡ length image) (k : ℕ) where
      abbrev at : ℕ
      at = min k count

      may_run : J.runnable (nexts J p at) i ≡ true
      may_run = (L.by_length (nexts J p at) i image len).0 ∙ may at

      count_is : J.count (nexts J p at) i ≡ count
      count_is = nexts_count at i ∙ (L.by_length p i image len).1

      ran_is : J.ran (nexts J p at) ≡ at
      ran_is = nexts_ran at ∙ omega (arith, unstarted)

      write_is : step_write J (nexts J p at) i ≡ J.write p i k
      unfolding step_write
      write_is = rw (may_run, ran_is) (nexts_write at i at ∙ go (dec_lt k count))
        where
          go : Dec (k < count) → J.write p i at ≡ J.write p i k
          go (yes h) = let e : at ≡ k = omega arith in rw e
          go (no h) = let c = (L.by_length p i image len).1 in L.late p i at (omega arith)
              ∙ sym (L.late p i k (omega arith))

      goes_on : k < count → step_answer J (nexts J p at) i ≡ given (on (nexts J p (min (suc k) count)))
      unfolding step_answer
      goes_on h =
          let e : min (suc k) count ≡ suc at = omega arith in
          rw (may_run, ran_is, count_is, lt-ltb at count (omega arith), e)

      is_done : count ≤ k → step_answer J (nexts J p at) i ≡ given done
      unfolding step_answer
      is_done h = rw (may_run, ran_is, count_is, le-ltb at count (omega arith))

    abbrev im : ℕ → List ℕ
    im k = (after_steps J p image k).image

    -- after k steps
    record Ran (k : ℕ) : Type 0 where
      plan : (after_steps J p image k).plan ≡ nexts J p (min k count)
      long : length (im k) ≡ length image
      is : im k ≡ written (J.write p) image k

    write_at : (k : ℕ) → Ran k → step_write J (after_steps J p image k).plan (im k) ≡ J.write p (im k) k
    write_at k x = rw x.plan (write_is (im k) x.long k)

    answer_at : (k : ℕ) → Ran k → (next_step J (after_steps J p image k)).answer ≡ step_answer J (nexts J p (min k count))
        (im k)
    unfolding next_step stepping
    answer_at k x = rw x.plan

    image_at : (k : ℕ) → Ran k → (next_step J (after_steps J p image k)).image ≡ applied_whole (J.write p (im k) k) (im k)
    unfolding next_step stepping
    image_at k x = rw (write_at k x)

    plan_next : (k : ℕ) → Ran k → (after_steps J p image (suc k)).plan ≡ nexts J p (min (suc k) count)
    unfolding after_steps one_step
    plan_next k x = ap₂ (plan_left J) x.plan (answer_at k x) ∙ go (dec_lt k count)
      where
        go : Dec (k < count) → plan_left J (nexts J p (min k count))
            (step_answer J (nexts J p (min k count)) (im k)) ≡ nexts J p (min (suc k) count)
        go (yes h) = rw (goes_on (im k) x.long k h)
        go (no h) =
            let e : min k count ≡ min (suc k) count = omega arith in
            rw (is_done (im k) x.long k (omega arith), e)

    ran : (k : ℕ) → Ran k
    unfolding after_steps one_step
    ran zero = let e : min 0 count ≡ 0 = omega arith in record { plan = rw e; long = refl; is = refl }
    ran (suc k) =
        let x = ran k in
        let m = (L.by_length p (im k) image x.long).0 ∙ may 0 in
        record {
          plan = plan_next k x;
          long = rw (image_at k x) (whole_length (J.write p (im k) k) (im k) (L.within p (im k) m k) ∙ x.long);
          is = image_at k x ∙ ap (λ (y : List ℕ). applied_whole (J.write p y k) y) x.is;
        }

    -- ---- what stands at the end

    pub steps : Steps J p image
    unfolding next_step stepping
    steps = record {
      go_on = λ k h. answer_at k (ran k) ∙ goes_on (im k) (ran k).long k h
          ∙ ap (λ (q : P). given (on q)) (sym (ran (suc k)).plan);
      are_done = λ k h. (
        answer_at k (ran k) ∙ is_done (im k) (ran k).long k h,
        image_at k (ran k) ∙ rw (L.late p (im k) k
            (let c = (L.by_length p (im k) image (ran k).long).1 in omega arith)),
      );
    }

    -- the image that a course leaves, by the writes alone
    abbrev pub written_to : Course → List ℕ
    written_to (to_end further) = written (J.write p) image (count + further)
    written_to (to_stop s) =
        let y : List ℕ = written (J.write p) image s.before in
        applied_cut s.stored s.erased (J.write p y s.before) y

    pub left_is : (c : Course) → image_left J p image c ≡ written_to c
    unfolding image_left step_cut
    left_is (to_end further) = (ran (count + further)).is
    left_is (to_stop s) =
        let x = ran s.before in
        rw (write_at s.before x, x.is)

    written_octets : Bytes image → (k : ℕ) → Bytes (written (J.write p) image k)
    written_octets b zero = b
    written_octets b (suc k) =
        let y : List ℕ = written (J.write p) image k in
        whole_octets (J.write p y k) y (written_octets b k) (L.octets p y k (written_octets b k))

    pub left_octets : Bytes image → (c : Course) → Bytes (image_left J p image c)
    left_octets b c = rw (left_is c) (go c)
      where
        go : (c : Course) → Bytes (written_to c)
        go (to_end further) = written_octets b (count + further)
        go (to_stop s) =
            let y : List ℕ = written (J.write p) image s.before in
            let o = written_octets b s.before in
            cut_octets (J.write p y s.before) y o (L.octets p y s.before o) s.stored s.erased
