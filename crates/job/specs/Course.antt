-- 01 'The mover's steps': how the steps of a job go on, and the image they leave; a list of calls. Assumes nothing.
use Rattle.std.specs.Prelude.{◌≡◌, ℕ, zero, suc, ◌+◌, ◌-◌, ◌≤◌, ◌<◌, Bool, List, [], ◌∷◌}
use Rattle.base.specs.Answers.{Answer, given, refused}
use Rattle.job.specs.Job.{Job, Progress, on, done, Stepping, stepping, step_cut}

-- "a cut point: a step and the number of bytes stored or the bytes erased": the steps before it ran whole
pub record Stop : Type 0 where
  pub before : ℕ
  pub stored : ℕ
  pub erased : ℕ → Bool

-- "An accepted move goes on with its steps .. to the last and any further ones, or to a cut point": the number of
-- further ones, or the cut point
pub data Course : Type 0 where
  to_end : ℕ → Course
  to_stop : Stop → Course

-- the plan and the image that a step left
pub record Left (P : Type 0) : Type 0 where
  pub plan : P
  pub image : List ℕ

module _ {P : Type 0} (J : Job P) where
  abbrev pub plan_left : P → Answer (Progress P) → P
  plan_left p (given (on q)) = q
  plan_left p (given done) = p
  plan_left p (refused k q) = p

  -- the next step: what it answers, and what it leaves
  unfoldable pub next_step : Left P → Stepping P
  next_step x = stepping J x.plan x.image

  unfoldable pub one_step : Left P → Left P
  one_step x = record { plan = plan_left x.plan (next_step x).answer; image = (next_step x).image }

  -- "its steps, each given the plan and image that the call before left": after k of them
  unfoldable pub after_steps : P → List ℕ → ℕ → Left P
  after_steps p image zero = record { plan = p; image = image }
  after_steps p image (suc k) = one_step (after_steps p image k)

  -- all steps that are left, and one more, which answers done; where 18 refuses, none changes anything
  unfoldable pub finishing : P → List ℕ → Stepping P
  finishing p image = next_step (after_steps p image (J.count p image - J.ran p))

  -- the image that a job leaves which began on `image`: "to the last and any further ones", or stopped
  unfoldable pub image_left : P → List ℕ → Course → List ℕ
  image_left p image (to_end further) = (after_steps p image (J.count p image + further)).image
  image_left p image (to_stop s) =
      step_cut J s.stored s.erased (after_steps p image s.before).plan (after_steps p image s.before).image

  -- the steps of an accepted job, called one by one: none is refused; the first go on, as many as the job counts;
  -- "Further steps answer done and change nothing."
  pub record Steps (p : P) (image : List ℕ) : Type 0 where
    pub go_on : (k : ℕ) → k < J.count p image
        → (next_step (after_steps p image k)).answer ≡ given (on (after_steps p image (suc k)).plan)
    pub are_done : (k : ℕ) → J.count p image ≤ k
        → ((next_step (after_steps p image k)).answer ≡ given done)
        × ((next_step (after_steps p image k)).image ≡ (after_steps p image k).image)

-- a list of calls, one after the other, of any kind: X is what a call finds and leaves, C a call
module _ {X C : Type 0} (after : X → C → X) where
  abbrev pub after_all : X → List C → X
  after_all x [] = x
  after_all x (c ∷ cs) = after_all (after x c) cs

  -- a statement on every call of a list, with what the calls before it left, and what it leaves
  abbrev pub EachCall : (X → C → X → Type 0) → X → List C → Type 0
  EachCall S x [] = Unit {0}
  EachCall S x (c ∷ cs) = S x c (after x c) × EachCall S (after x c) cs
