-- What the loader answers.
use Rattle.std.specs.Prelude.{◌≡◌, Result, Ok, Err}
use Rattle.elf_load.specs.declared.bad_elf.BadElf.{BadElf}
use Rattle.elf_load.specs.declared.bad_elf.LoadFail.{LoadFail}
use Rattle.elf_load.specs.declared.bad_elf.LoadFail.TheVariants as fail
use Rattle.elf_load.specs.MemoryImage.{MemoryImage}

-- the call answers the image or the first check that fails, unless memory runs out
abbrev pub AnswersImage : Result MemoryImage LoadFail → Result MemoryImage BadElf → Type 0
AnswersImage (Ok image) read = read ≡ Ok image
AnswersImage (Err (fail.Bad b)) read = read ≡ Err b
AnswersImage (Err fail.NoMemory) read = Unit {0}
