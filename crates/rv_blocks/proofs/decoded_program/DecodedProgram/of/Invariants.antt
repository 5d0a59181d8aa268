-- the program stays the same
use Rattle.std.proofs.Common.{◌≡◌}
use Rattle.rv_blocks.proofs.decoded_program.DecodedProgram.of.Given as goal

abbrev pub invariant-loop-segment : goal.invariant-loop-segment
invariant-loop-segment l = l.program ≡ l.image
