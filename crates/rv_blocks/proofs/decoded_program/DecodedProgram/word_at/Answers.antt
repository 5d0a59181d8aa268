use Rattle.std.proofs.Common.{arith, tests}
use Rattle.rv_blocks.proofs.decoded_program.DecodedProgram.word_at.Goals as goal

pub returns-in-Some-clause-value : goal.returns-in-Some-clause-value
returns-in-Some-clause-value c = grind (arith, tests)
