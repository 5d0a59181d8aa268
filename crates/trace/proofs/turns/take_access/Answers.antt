use Rattle.std.proofs.Common.{arith}
use Rattle.reference.proofs.Accesses.{clock_within}
use Rattle.trace.proofs.turns.take_access.Goals as goal

pub turn-requires-clause-clock : goal.turn-requires-clause-clock
turn-requires-clause-clock g c = omega (arith, c.requires.clock, clock_within c.args.end c.args.core.now.timed)
