use Rattle.line_use.proofs.Bits.{bits_between}
use Rattle.line_use.proofs.line_bytes.bits_between.Goals as goal

pub returns : goal.returns
returns c = λ i within. bits_between c.args.from c.args.to i c.requires.from c.requires.to within
