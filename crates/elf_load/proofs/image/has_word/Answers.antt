use Rattle.elf_load.proofs.image.has_word.Goals as goal

pub returns-then-segment : goal.returns-then-segment
returns-then-segment c = rw c.if-segment.true c.is_within.ensures
