use Rattle.std.proofs.Common.{arith, tests}
use Rattle.std.proofs.lemmas.Int.{ints}
use Rattle.rv_decode.proofs.fields.b_immediate.Goals as goal

pub returns : goal.returns
returns c = grind (arith, ints, tests)
