use Rattle.gen_prog.proofs.Encodable.{words_decode}
use Rattle.gen_prog.proofs.laws.words_decode.Goals as goal

pub returns : goal.returns
returns c = words_decode
