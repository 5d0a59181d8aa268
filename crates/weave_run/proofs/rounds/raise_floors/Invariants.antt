-- The floors below the index are raised.
use Rattle.weave_run.proofs.Floors.{AreRaised}
use Rattle.weave_run.proofs.rounds.raise_floors.Given as goal

abbrev pub invariant-loop-index : goal.invariant-loop-index
invariant-loop-index g l = AreRaised l.fn.domains.items l.domains.items l.fn.floor l.index
