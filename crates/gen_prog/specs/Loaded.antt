-- How the file of a number's program is loaded.
use Rattle.std.specs.Prelude.{ℕ, nat_lt, if◌then◌else◌, Result, Ok, Err}
use Rattle.elf_load.specs.declared.bad_elf.BadElf.{BadElf}
use Rattle.elf_load.specs.declared.bad_elf.BadElf.TheVariants as bad
use Rattle.elf_load.specs.MemoryImage.{MemoryImage}
use Rattle.gen_prog.specs.Generated.{generated_image}

-- What the checks of an executable say of its file where memory has so many bytes from its base on: the image in this
-- memory, or the first segment that does not lie in it.
unfoldable pub loaded_in : (n base size : ℕ) → Result MemoryImage BadElf
loaded_in n base size =
    if nat_lt size 112 then Err (bad.SegmentPastMemory 0)
    else if nat_lt size 6208 then Err (bad.SegmentPastMemory 1)
    else Ok (record (generated_image n base) { size = size })
