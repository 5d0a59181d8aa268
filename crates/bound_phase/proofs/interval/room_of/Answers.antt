use Rattle.std.proofs.Common.{arith}
use Rattle.bound_phase.proofs.interval.room_of.Goals as goal

pub returns : goal.returns
returns c = omega (arith, c.requires.interval)
