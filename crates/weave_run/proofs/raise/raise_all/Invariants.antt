-- It raised the words of some crossings.
use Rattle.weave_run.specs.Seating.{HasRaised}
use Rattle.weave_run.proofs.raise.raise_all.Given as goal

abbrev pub invariant-loop-index : goal.invariant-loop-index
invariant-loop-index g l = HasRaised g.C.Component.stepped l.fn.plan l.fn.crossings l.fn.post l.post
