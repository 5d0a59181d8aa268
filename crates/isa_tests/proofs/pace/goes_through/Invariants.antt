use Rattle.std.proofs.Common.{◌≡◌}
use Rattle.pipe_core.specs.PaceLaws.{GoesOnFrom}
use Rattle.isa_tests.proofs.pace.goes_through.Given as goal

abbrev pub invariant-loop-name : goal.invariant-loop-name
invariant-loop-name g l = record {
  goes_on : GoesOnFrom l.clock l.pace;
  entries : l.pace.pipe.entries ≡ 16;
}
