-- what was appended and the words of the rest are all words
use Rattle.std.proofs.Common.{◌≡◌, ◌++◌, drop}
use Rattle.gen_prog.specs.Assembly.{assembled}
use Rattle.gen_prog.proofs.generator.assemble.Given as goal

abbrev pub invariant-loop-instruction : goal.invariant-loop-instruction
invariant-loop-instruction l = l.bytes.items ++ assembled (drop l.instruction-index l.instructions) ≡ l.initial.bytes.items ++ assembled l.instructions
