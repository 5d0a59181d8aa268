use Rattle.elf_load.specs.Checks.{segment_refusal}
use Rattle.elf_load.proofs.checks.segment_refusal.Goals as goal

pub returns-in-Some : goal.returns-in-Some
unfolding segment_refusal
returns-in-Some c = rw (← c.if-is_any_dynamic.ensures, ← c.in-Some.ensures)
