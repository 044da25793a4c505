-- The words that a finished move leaves of its plan. Assumes nothing.
use Rattle.std.specs.Prelude.{List, [], ℕ, ◌-◌}
use Rattle.base.specs.Answers.{Answer, given, refused}
use Rattle.job.specs.Job.{Progress, on, done}
use Rattle.job.specs.Course.{after_steps, finishing}
use Rattle.mover_rules.specs.Write.{step_count}
use Rattle.mover_rules.specs.Step.{mover_job}
use Rattle.mover_rules.specs.declared.Plan.{Plan}
use Rattle.capi_words.specs.Structs.{plan_words, answer_words}

-- the words of plan q where a finish is done; else none, and the lent words stay. A finish never answers `on`
abbrev pub done_words : Answer (Progress Plan) → Plan → List ℕ
done_words (given done) q = answer_words plan_words (given q)
done_words (given (on p)) q = []
done_words (refused k p) q = []

-- those of the plan after all steps that are left, where they are done
abbrev pub finished_words : Plan → List ℕ → List ℕ
finished_words p image =
    done_words (finishing mover_job p image).answer (after_steps mover_job p image (step_count p - p.steps)).plan
