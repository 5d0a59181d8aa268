use Rattle.elf_load.proofs.Meanings.{image_of-memory, image_of-sound}
use Rattle.elf_load.proofs.laws.images.Goals as goal

pub returns-clause-sound : goal.returns-clause-sound
returns-clause-sound c = image_of-sound

pub returns-clause-memory : goal.returns-clause-memory
returns-clause-memory c = image_of-memory
