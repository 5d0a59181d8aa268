use Rattle.elf_load.proofs.Pairs.{overlap_refusal-least}
use Rattle.elf_load.proofs.laws.least_overlap.Goals as goal

pub returns : goal.returns
returns c = overlap_refusal-least
