use Rattle.elf_load.proofs.Meanings.{ranges_overlap-common, ranges_overlap-from_common}
use Rattle.elf_load.proofs.laws.overlapping_ranges.Goals as goal

pub returns : goal.returns
returns c first count second others = (ranges_overlap-common first count second others, λ common. ranges_overlap-from_common first count second others common.0 common.1 common.2)
