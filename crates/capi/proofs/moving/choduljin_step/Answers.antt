-- `capi::moving::choduljin_step` meets its contract. Assumes nothing.
use Rattle.capi_words.specs.Structs.{plan_most}
use Rattle.capi_words.proofs.Laws.{within}
use Rattle.capi.proofs.moving.choduljin_step.Goals as goal

pub plan_in-p-requires : goal.plan_in-p-requires
plan_in-p-requires c = within c.args.plan.now plan_most cc
