-- What a core finds at an address of its program.
use Rattle.std.specs.Prelude.{ℕ, Option, Some, None}
use Rattle.rv_decode.specs.declared.inst.Inst.{Inst}
use Rattle.rv_decode.specs.InstructionTable.{decoded}
use Rattle.elf_load.specs.MemoryImage.{MemoryImage, fetched_word}
use Rattle.rv_core.specs.declared.program.Fetched.{Fetched}
use Rattle.rv_core.specs.declared.program.Fetched.TheVariants.{Outside, NoInstruction, Instruction}

-- a word that is this instruction, or none
abbrev pub of_decoded : (word : ℕ) → Option Inst → Fetched
of_decoded word None = NoInstruction word
of_decoded word (Some inst) = Instruction inst

-- the four bytes at an address as a word, or none where they are not in one executable segment
abbrev pub of_word : Option ℕ → Fetched
of_word None = Outside
of_word (Some word) = of_decoded word (decoded word)

-- what the program has at an address
unfoldable pub fetched_at : MemoryImage → (pc : ℕ) → Fetched
fetched_at image pc = of_word (fetched_word image.segments pc)
