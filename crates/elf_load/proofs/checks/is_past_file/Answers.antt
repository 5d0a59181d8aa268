use Rattle.std.proofs.Common.{arith, tests}
use Rattle.elf_load.specs.Checks.{is_past_file}
use Rattle.elf_load.proofs.checks.is_past_file.Goals as goal

pub returns-then-is_loaded : goal.returns-then-is_loaded
unfolding is_past_file
returns-then-is_loaded c = grind (arith, tests)
