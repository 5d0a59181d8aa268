-- The others have still to be told.
use Rattle.crew.specs.Crews.{AreFreeFrom}
use Rattle.crew.proofs.crew.end_all.Given as goal

abbrev pub invariant-loop-number : goal.invariant-loop-number
invariant-loop-number g l = AreFreeFrom l.number l.posts l.askers
