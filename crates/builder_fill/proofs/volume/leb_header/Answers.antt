-- `builder_fill::volume::leb_header` meets its contract. Assumes nothing.
use borrow.Author.Tests.{eq-eqb, ne_eqb}
use Rattle.builder_rules.specs.Blocks.{user_vid}
use Rattle.builder_fill.proofs.volume.leb_header.Goals as goal

pub returns-then-v-eq-STATIC : goal.returns-then-v-eq-STATIC
unfolding user_vid
returns-then-v-eq-STATIC c =
    rw (eq-eqb c.args.v.vol_type 2 c.if-v-eq-STATIC.true, c.crc32.ensures)

pub returns-else-v-eq-STATIC : goal.returns-else-v-eq-STATIC
unfolding user_vid
returns-else-v-eq-STATIC c =
    rw (ne_eqb c.args.v.vol_type 2 c.if-v-eq-STATIC.false)
