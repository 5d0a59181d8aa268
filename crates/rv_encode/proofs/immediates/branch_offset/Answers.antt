use Rattle.std.proofs.Common.{arith}
use Rattle.rv_encode.proofs.immediates.branch_offset.Goals as goal

pub returns : goal.returns
returns c = omega (arith, c.bits.ensures, c.bits-2.ensures, c.bits-3.ensures, c.bits-4.ensures)
