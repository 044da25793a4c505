-- 01 'The mover's steps' and refusal 18: a move as a job. Assumes nothing.
use Rattle.std.specs.Prelude.{ℕ, ◌+◌, Bool, not, List, [], ◌∷◌, eqb, ltb}
use Rattle.base.specs.Answers.{Answer, given, refused, all_of}
use Rattle.geometry.specs.Geometry.{geometry_rules}
use Rattle.header.specs.Fields.{is_good}
use Rattle.header.specs.Ec.{judge_ec}
use Rattle.header.specs.Vid.{judge_vid}
use Rattle.geometry.specs.Image.{peb_count_of, image_rules}
use Rattle.job.specs.Job.{Job, Progress, on, done}
use Rattle.mover_rules.specs.Write.{plan_geometry, step_count, write_after}
use Rattle.mover_rules.specs.declared.Plan.{Plan}
use Rattle.mover_rules.specs.declared.Stepped.{Stepped}
use Rattle.mover_rules.specs.declared.Stepped.TheVariants.{On, Done, Refused}

-- what refusal 18 asks of a plan and an image: "plan's geometry meets 2 or the image 3, a PEB is absent, both are one,
-- or 19 would refuse a header of the plan"
unfoldable pub step_rules : Plan → List ℕ → List Bool
step_rules p image =
    all_of (geometry_rules p.peb_size p.unit p.sub_unit) ∷ all_of (image_rules (plan_geometry p) image)
    ∷ ltb p.old (peb_count_of (plan_geometry p) image) ∷ ltb p.target (peb_count_of (plan_geometry p) image)
    ∷ not (eqb p.old p.target) ∷ is_good (judge_vid (plan_geometry p).leb_size p.vid) ∷ is_good (judge_ec p.ec) ∷ []

-- may the plan's steps run on the image? It is judged first, also of a finished plan
unfoldable pub runnable : Plan → List ℕ → Bool
runnable p image = all_of (step_rules p image)

-- a plan with one step more run
unfoldable pub one_on : Plan → Plan
one_on p = record {
  peb_size = p.peb_size;
  unit = p.unit;
  sub_unit = p.sub_unit;
  old = p.old;
  target = p.target;
  vid = p.vid;
  ec = p.ec;
  steps = p.steps + 1;
}

-- the job whose steps are a move
abbrev pub mover_job : Job Plan
mover_job = record {
  runnable = runnable;
  count = λ p image. step_count p;
  ran = λ p. p.steps;
  next = one_on;
  write = write_after;
}

-- what each case of the answer is in 01
abbrev pub stepped_answer : Stepped → Answer (Progress Plan)
stepped_answer (On p) = given (on p)
stepped_answer Done = given done
stepped_answer Refused = refused 18 0
