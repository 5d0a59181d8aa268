-- What is true of the programs of all numbers.
use Rattle.std.specs.Prelude.{◌≡◌, ◌≤◌, ℕ, ◌%◌, ◌^◌, map, Some}
use Rattle.rv_decode.specs.InstructionTable.{decoded}
use Rattle.elf_load.specs.Image.{image_of}
use Rattle.elf_write.specs.File.{executable_of}
use Rattle.gen_prog.specs.Assembly.{encoded}
use Rattle.gen_prog.specs.Generated.{generated_image, instructions}
use Rattle.gen_prog.specs.Loaded.{loaded_in}

-- each word of a program decodes to its instruction
abbrev pub WordsDecode : Type 0
WordsDecode = (n : ℕ) → map decoded (map encoded (instructions n)) ≡ map Some (instructions n)

-- The file of a program passes all checks where memory has 6208 bytes at least. With fewer, its second segment, and
-- with fewer than 112 its first, is not in memory.
abbrev pub ProgramsLoad : Type 0
ProgramsLoad = (n base size : ℕ) → base % 4096 ≡ 0 → base ≤ 2 ^ 40 → image_of (executable_of (generated_image n base)) base size ≡ loaded_in n base size
