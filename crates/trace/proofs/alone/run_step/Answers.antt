use Rattle.std.proofs.Common.{arith}
use Rattle.reference.proofs.Accesses.{clock_within}
use Rattle.trace.proofs.alone.run_step.Goals as goal

pub step_alone-requires : goal.step_alone-requires
step_alone-requires c = omega (arith, c.requires.clock, c.requires.end, clock_within c.args.end c.args.core.now.timed)
