-- What a decoded word keeps.
use Rattle.std.specs.Prelude.{◌≡◌}
use Rattle.elf_load.specs.MemoryImage.{MemoryImage}
use Rattle.rv_core.specs.Decoded.{HasRegisters}
use Rattle.rv_core.specs.Fetch.{fetched_at}
use Rattle.rv_blocks.specs.declared.decoded_program.DecodedWord.{DecodedWord}

-- a decoded word is what the program has at its address
abbrev pub IsDecodedWord : MemoryImage → DecodedWord → Type 0
IsDecodedWord image word = (word.fetched ≡ fetched_at image word.pc) × HasRegisters word.fetched
