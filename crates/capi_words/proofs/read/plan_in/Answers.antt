-- `capi_words::read::plan_in` meets its contract. Assumes nothing.
use mathlib.Core.List.{[], ◌∷◌, ◌++◌}
use Rattle.capi_words.specs.Structs.{plan_front, vid_most, ec_most, most32}
use Rattle.capi_words.proofs.Laws.{part_within}
use Rattle.capi_words.proofs.read.plan_in.Goals as goal

pub vid_in-vid-requires : goal.vid_in-vid-requires
vid_in-vid-requires c =
    part_within c.args.w.now plan_front vid_most (ec_most ++ (most32 ∷ [])) c.requires

pub ec_in-ec-requires : goal.ec_in-ec-requires
ec_in-ec-requires c =
    part_within c.args.w.now (plan_front ++ vid_most) ec_most (most32 ∷ []) c.requires
