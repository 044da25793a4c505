-- Laws of a call's answer and of what it leaves. Assumes nothing.
use mathlib.Core.Path.{◌≡◌, refl, sym, ap, ◌∙◌}
use mathlib.Core.Logic.{inl, inr}
use mathlib.Core.List.{List}
use mathlib.Core.Bool.{true}
use Prim.Native.Nat.{ℕ, ◌+◌, ◌-◌}
use lib.ListN.{get_or, set}
use Rattle.base.specs.Answers.{given, refused}
use Rattle.job.specs.Job.{done, stepping}
use Rattle.job.specs.Course.{Left, after_steps, next_step, finishing}
use Rattle.job.proofs.Finish.{left_last, finish_last, finish_again, finish_done}
use Rattle.mover_rules.specs.Write.{step_count}
use Rattle.mover_rules.specs.Step.{mover_job}
use Rattle.mover_rules.specs.declared.Plan.{Plan}
use Rattle.mover_rules.proofs.Steps.{mover_lawful}
use Rattle.report.specs.Attach.{over}
use Rattle.capi_words.specs.Lent.{fits}
use Rattle.capi_words.specs.Structs.{plan_words, answer_words, plan_most, plan_in}
use Rattle.capi_words.proofs.Back.{nexts_words}
use Rattle.capi_answers.specs.Calls.{progress_number}
use Rattle.capi.specs.Finish.{done_words, finished_words}

-- ---- all steps that are left of a move

abbrev pub to_last : Plan → List ℕ → Left Plan
to_last p image = after_steps mover_job p image (step_count p - p.steps)

-- what they answer and leave: a number, the plan's words and the image
abbrev pub Finished : Plan → List ℕ → List ℕ → ℕ → List ℕ → List ℕ → Type 0
Finished p image lent n w y =
    (n ≡ progress_number (finishing mover_job p image).answer)
    × ((w ≡ over (finished_words p image) lent) × (y ≡ (finishing mover_job p image).image))

-- of a plan and an image of which as much is left as at the beginning, the step that is the last one
module _ (p₀ p : Plan) (image₀ image lent : List ℕ) (f : to_last p image ≡ to_last p₀ image₀) {y : List ℕ}
    (i : y ≡ (stepping mover_job p image).image) where
  same_finish : finishing mover_job p image ≡ finishing mover_job p₀ image₀
  unfolding finishing
  same_finish = ap (next_step mover_job) f

  pub last_done : {n : ℕ} {w : List ℕ} → given done ≡ (stepping mover_job p image).answer
      → (n ≡ 0) × (w ≡ over (answer_words plan_words (given p)) lent) → Finished p₀ image₀ lent n w y
  last_done e r =
      let z = finish_last mover_job mover_lawful p image e i (inl refl) same_finish in
      let q = ap (λ (x : Left Plan). x.plan) (sym f ∙ left_last mover_job mover_lawful p image e i (inl refl)) in
      (r.0 ∙ ap progress_number z.0, (r.1 ∙ (λ j. over (done_words (z.0 j) (sym q j)) lent), z.1))

  pub last_refused : refused 18 0 ≡ (stepping mover_job p image).answer → Finished p₀ image₀ lent 18 lent y
  last_refused e =
      let z = finish_last mover_job mover_lawful p image e i (inr refl) same_finish in
      (ap progress_number z.0, (ap (λ x. over (done_words x (to_last p₀ image₀).plan) lent) z.0, z.1))

-- where they are done, the word of the plan's steps is the number of steps of the move, or stays if it was higher, and
-- no other word changes
pub finished_words_lem : (ws image : List ℕ) → fits ws plan_most ≡ true
    → (finishing mover_job (plan_in ws) image).answer ≡ given done
    → over (finished_words (plan_in ws) image) ws
    ≡ set ws 23 (get_or ws 23 0 + (step_count (plan_in ws) - get_or ws 23 0))
unfolding plan_in
finished_words_lem ws image f d =
    let q = finish_done mover_job mover_lawful (plan_in ws) image d in
    (λ j. over (done_words (d j) (q j)) ws) ∙ nexts_words ws (step_count (plan_in ws) - get_or ws 23 0) f

-- a further step of the plan that they leave, on the image that they leave, and a further run of all that are left,
-- answer the same and change nothing: neither the image nor the plan's words
pub finished_again : (p : Plan) (image : List ℕ)
    → let q = (to_last p image).plan in let y = (finishing mover_job p image).image in
    (stepping mover_job q y ≡ finishing mover_job p image) × ((finishing mover_job q y ≡ finishing mover_job p image)
    × (finished_words q y ≡ finished_words p image))
finished_again p image =
    let r = finish_again mover_job mover_lawful p image in
    (r.0, (r.1.0, λ j. done_words (r.1.0 j).answer (r.1.1 j)))
