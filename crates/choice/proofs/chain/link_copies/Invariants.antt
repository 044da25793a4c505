-- `choice::chain::link_copies` meets its contract: the PEBs passed are linked. Assumes nothing.
use Rattle.choice.specs.Chain.{Chains}
use Rattle.choice.proofs.chain.link_copies.Given as goal

abbrev pub invariant-loop-i : goal.invariant-loop-i
invariant-loop-i l = Chains l.n l.i l.initial.map l.map l.initial.heads l.heads
