use Rattle.std.proofs.Common.{arith}
use Rattle.rv_encode.proofs.encoder.registers.Goals as goal

pub returns : goal.returns
returns c = omega arith
