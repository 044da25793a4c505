-- A job that writes an image step by step: 01 'The mover's steps' and refusal 18, of any plan. Assumes nothing.
use Rattle.std.specs.Prelude.{ℕ, Bool, cond, List, ltb}
use Rattle.base.specs.Answers.{Answer, given, refused}
use Rattle.job.specs.Write.{Write, nothing, applied_whole, applied_cut}

-- of plans P
pub record Job (P : Type 0) : Type 0 where
  -- does refusal 18 let the plan's steps run on the image?
  pub runnable : P → List ℕ → Bool
  -- the number of steps on the image, and of those that the plan has run
  pub count : P → List ℕ → ℕ
  pub ran : P → ℕ
  -- the plan with one step more run
  pub next : P → P
  -- the write of the step after k steps
  pub write : P → List ℕ → ℕ → Write

-- what a step that is not refused answers: the plan as it goes on, or done
pub data Progress (P : Type 0) : Type 0 where
  on : P → Progress P
  done : Progress P

-- the answer of a step, and the image after it
pub record Stepping (P : Type 0) : Type 0 where
  pub answer : Answer (Progress P)
  pub image : List ℕ

module _ {P : Type 0} (J : Job P) where
  -- the write of the plan's next step
  unfoldable pub step_write : P → List ℕ → Write
  step_write p image = cond (J.runnable p image) (J.write p image (J.ran p)) nothing

  -- 18 is judged first, also of a finished plan. "Further steps answer done and change nothing."
  unfoldable pub step_answer : P → List ℕ → Answer (Progress P)
  step_answer p image =
      cond (J.runnable p image) (given (cond (ltb (J.ran p) (J.count p image)) (on (J.next p)) done)) (refused 18 0)

  unfoldable pub stepping : P → List ℕ → Stepping P
  stepping p image = record { answer = step_answer p image; image = applied_whole (step_write p image) image }

  -- the image after a step that was cut
  unfoldable pub step_cut : ℕ → (ℕ → Bool) → P → List ℕ → List ℕ
  step_cut stored erased p image = applied_cut stored erased (step_write p image) image
