-- It has no job.
use Rattle.std.proofs.Common.{◌≡◌}
use Rattle.crew.specs.Crews.{free_seat}
use Rattle.crew.proofs.crew.serve.Given as goal

abbrev pub invariant-loop : goal.invariant-loop
invariant-loop g l = l.worker ≡ free_seat l.post
