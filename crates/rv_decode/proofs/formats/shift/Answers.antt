use Rattle.std.proofs.Common.{arith}
use Rattle.std.proofs.lemmas.Int.{ints}
use Rattle.rv_decode.proofs.formats.shift.Goals as goal

pub returns : goal.returns
returns c = grind (arith, ints)
