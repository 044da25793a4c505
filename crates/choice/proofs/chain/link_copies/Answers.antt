-- `choice::chain::link_copies` meets its contract: the PEBs passed are linked. Assumes nothing.
use mathlib.Core.Path.{refl}
use Prim.Native.Nat.{◌≤◌}
use lib.ListN.{length, drop}
use lib.Seq.{length-take-le}
use Rattle.choice.specs.Chain.{buckets}
use Rattle.choice.proofs.Chains.{relinked_none, no_heads}
use Rattle.choice.proofs.chain.link_copies.Goals as goal

pub loop-i-init : goal.loop-i-init
loop-i-init c =
    let p = c.requires in
    let long : buckets ≤ length c.args.heads.now = p.1.1 in
    let filled = rw length-take-le at (c.fill.ensures.after (λ y e. e)) in
    record {
      chained = no_heads (drop buckets c.args.heads.now) filled p.0 p.1.0;
      relinked = relinked_none c.args.n c.args.map.now;
      heads_size = refl;
    }
