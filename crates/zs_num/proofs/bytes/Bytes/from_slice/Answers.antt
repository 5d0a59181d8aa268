use Rattle.std.proofs.Common.{arith}
use Rattle.zs_num.proofs.bytes.Bytes.from_slice.Goals as goal

pub returns : goal.returns
returns c = grind arith
