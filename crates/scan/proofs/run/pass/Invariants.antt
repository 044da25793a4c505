-- `scan::run::pass` meets its contract: the PEBs passed so far have given no refusal, and their totals and words are
-- there. Assumes nothing.
use Rattle.report.specs.View.{medium_of}
use Rattle.scan.proofs.Passes.{Passing}
use Rattle.scan.proofs.run.pass.Given as goal

abbrev pub invariant-loop-i : goal.invariant-loop-i
invariant-loop-i l = Passing (medium_of l.g l.n l.image) l.i-counter l.s l.initial.pebs l.pebs l.initial.map l.map
