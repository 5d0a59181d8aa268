use Rattle.std.proofs.Common.{arith}
use Rattle.gen_prog.proofs.program.program.Goals as goal

pub returns : goal.returns
returns c = grind arith
