-- `capi::headers::choduljin_write_vid` meets its contract. Assumes nothing.
use Rattle.capi_words.specs.Structs.{vid_most}
use Rattle.capi_words.proofs.Laws.{within}
use Rattle.capi.proofs.headers.choduljin_write_vid.Goals as goal

pub vid_in-h-requires : goal.vid_in-h-requires
vid_in-h-requires c = within c.args.vid.now vid_most cc
