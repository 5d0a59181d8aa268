use Rattle.std.proofs.Common.{arith, tests}
use Rattle.elf_load.specs.Checks.{header_refusal}
use Rattle.elf_load.proofs.checks.header_refusal.Goals as goal

pub returns-then-header-ne0-clause-value : goal.returns-then-header-ne0-clause-value
unfolding header_refusal
returns-then-header-ne0-clause-value c = grind (arith, tests)

pub returns-clause-value : goal.returns-clause-value
unfolding header_refusal
returns-clause-value c = grind (arith, tests)

pub returns-then-not-has_table-clause-value : goal.returns-then-not-has_table-clause-value
unfolding header_refusal
returns-then-not-has_table-clause-value c = grind (arith, tests)
