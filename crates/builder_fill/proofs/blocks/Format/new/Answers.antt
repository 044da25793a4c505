-- `builder_fill::blocks::Format::new` meets its contract. Assumes nothing.
use mathlib.Core.Path.{◌∙◌}
use Rattle.builder_rules.specs.Blocks.{built_ec}
use Rattle.builder_rules.proofs.Headers.{ec_good_holds}
use Rattle.flash_writes.proofs.Writes.{ec_done, ec_made}
use Rattle.builder_fill.proofs.blocks.Format.new.Goals as goal

pub unwrap-requires : goal.unwrap-requires
unfolding built_ec
unwrap-requires c =
    let a = c.args in
    ec_done (built_ec a.geometry a.image_seq) (rw (ec_good_holds a.geometry a.image_seq)) _ c.write_ec.ensures.0

pub invariant_of-result-clause-made : goal.invariant_of-result-clause-made
unfolding built_ec
invariant_of-result-clause-made c =
    let a = c.args in
    c.write_ec.ensures.1 ∙ ec_made (built_ec a.geometry a.image_seq) (rw (ec_good_holds a.geometry a.image_seq))
