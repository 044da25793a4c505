-- What the next step of a move will write, told beforehand. Assumes nothing.
use Rattle.std.specs.Prelude.{cond, List, ℕ, length}
use Rattle.job.specs.Write.{Write, store, erase, nothing}
use Rattle.job.specs.Job.{step_write}
use Rattle.mover_rules.specs.Step.{runnable, mover_job}
use Rattle.mover_rules.specs.declared.Plan.{Plan}
use Rattle.mover_next.specs.declared.NextWrite.{NextWrite}
use Rattle.mover_next.specs.declared.NextWrite.TheVariants.{Store, Erase, Nothing, Refused}

-- a write by its place and length: without the bytes that it stores
abbrev pub shown : Write → NextWrite
shown (store at bs) = Store at (length bs)
shown (erase at n) = Erase at n
shown nothing = Nothing

-- the write of the plan's next step, where 18 does not refuse it
unfoldable pub next_write : Plan → List ℕ → NextWrite
next_write p image = cond (runnable p image) (shown (step_write mover_job p image)) Refused
