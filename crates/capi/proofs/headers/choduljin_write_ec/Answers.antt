-- `capi::headers::choduljin_write_ec` meets its contract. Assumes nothing.
use Rattle.capi_words.specs.Structs.{ec_most}
use Rattle.capi_words.proofs.Laws.{within}
use Rattle.capi.proofs.headers.choduljin_write_ec.Goals as goal

pub ec_in-h-requires : goal.ec_in-h-requires
ec_in-h-requires c = within c.args.ec.now ec_most cc
