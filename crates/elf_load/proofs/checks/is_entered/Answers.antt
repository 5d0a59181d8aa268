use Rattle.std.proofs.Common.{arith, tests}
use Rattle.elf_load.specs.Checks.{is_entered}
use Rattle.elf_load.proofs.checks.is_entered.Goals as goal

pub returns-then-is_executable : goal.returns-then-is_executable
unfolding is_entered
returns-then-is_executable c = grind (arith, tests)
