-- The fields of a word that tell its name.
use Rattle.std.specs.Prelude.{ℕ}
use Rattle.rv_decode.specs.InstructionWord.{bits_of}

abbrev pub opcode_of : ℕ → ℕ
opcode_of word = bits_of 6 0 word

abbrev pub funct3_of : ℕ → ℕ
funct3_of word = bits_of 14 12 word

abbrev pub funct7_of : ℕ → ℕ
funct7_of word = bits_of 31 25 word
