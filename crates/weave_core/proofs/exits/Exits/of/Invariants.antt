-- The crossings so far.
use Rattle.weave_core.specs.Exits.{AreExits}
use Rattle.weave_core.proofs.exits.Exits.of.Given as goal

abbrev pub invariant-loop-number : goal.invariant-loop-number
invariant-loop-number l = AreExits l.here l.crossings l.domain l.number l.numbers.items l.parents.items
