use Rattle.std.proofs.Common.{arith}
use Rattle.weave_core.proofs.domain.Domain.set_floor.Goals as goal

pub returns : goal.returns
returns g c = grind arith
