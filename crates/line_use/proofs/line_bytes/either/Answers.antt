use Rattle.line_use.proofs.Bits.{bits_or}
use Rattle.line_use.proofs.line_bytes.either.Goals as goal

pub returns : goal.returns
returns c = bits_or c.args.a c.args.b
