-- The program of a number n. Each core draws a number in each iteration, by shifts and exclusive ors (G. Marsaglia,
-- "Xorshift RNGs", 2003), and adds to, stores or loads a doubleword of a table at an address that the number gives. In
-- the end it exits with its own number.
use Rattle.std.specs.Prelude.{ℕ, ◌+◌, ◌-◌, ◌*◌, ◌%◌, ◌^◌, true, false, pos, neg_ℤ, List, [], ◌∷◌, ◌++◌}
use Rattle.byteorder.specs.Endian.{little_bytes}
use Rattle.rv_decode.specs.declared.inst.Inst.{Inst}
use Rattle.rv_decode.specs.declared.name.Name.TheVariants.{Auipc, Ld, Add, Ori, Addi, Slli, Xor, Srli, Andi, Beq, Bne, AmoaddD, Jal, Sd, Ecall}
use Rattle.elf_load.specs.MemoryImage.{MemoryImage}
use Rattle.gen_prog.specs.Assembly.{assembled, branch_by, jump_by, registers, store_at, upper, with_immediate, without_operands}

-- The offset of the last doubleword of the table, which has 16, 32, 64, 128 or 256 of them. As a mask it makes an
-- offset of any number.
abbrev pub mask : ℕ → ℕ
mask n = 8 * (2 ^ (4 + n % 5) - 1)

-- how many iterations each core makes
abbrev pub iterations : ℕ → ℕ
iterations n = 100 + n % 9901

-- The program. At its start a core has its number in x10; x5 is the address of the data, x6 the number that was drawn
-- last, x7 how many iterations are left, and x8 an address.
abbrev pub program : (mask : ℕ) → List Inst
program mask =
    upper Auipc 5 1
    ∷ with_immediate Ld 6 5 (pos 0)
    ∷ with_immediate Ld 7 5 (pos 8)
    ∷ registers Add 6 6 10
    ∷ with_immediate Ori 6 6 (pos 1)
    ∷ with_immediate Addi 9 0 (pos 1)
    -- an iteration: the next number
    ∷ with_immediate Slli 8 6 (pos 13)
    ∷ registers Xor 6 6 8
    ∷ with_immediate Srli 8 6 (pos 7)
    ∷ registers Xor 6 6 8
    ∷ with_immediate Slli 8 6 (pos 17)
    ∷ registers Xor 6 6 8
    -- an address in the table
    ∷ with_immediate Srli 8 6 (pos 8)
    ∷ with_immediate Andi 8 8 (pos mask)
    ∷ registers Add 8 8 5
    ∷ with_immediate Addi 8 8 (pos 64)
    -- an access by the last two bits: 1 adds, 0 stores, 2 and 3 load
    ∷ with_immediate Andi 11 6 (pos 3)
    ∷ branch_by Beq 11 0 (pos 16)
    ∷ branch_by Bne 11 9 (pos 20)
    ∷ registers AmoaddD 12 8 9
    ∷ jump_by Jal 0 (pos 16)
    ∷ store_at Sd 6 8 (pos 0)
    ∷ jump_by Jal 0 (pos 8)
    ∷ with_immediate Ld 12 8 (pos 0)
    -- the next iteration
    ∷ with_immediate Addi 7 7 (neg_ℤ (pos 1))
    ∷ branch_by Bne 7 0 (neg_ℤ (pos 76))
    -- the exit
    ∷ with_immediate Addi 17 0 (pos 93)
    ∷ without_operands Ecall
    ∷ []

-- the instructions of a number
abbrev pub instructions : ℕ → List Inst
instructions n = program (mask n)

-- the data that the program reads: n, from which numbers are drawn, and how many iterations there are
abbrev pub data_of : ℕ → List ℕ
data_of n = little_bytes 8 n ++ little_bytes 8 (iterations n)

-- The image of the program: its 28 words, which are entered at the first, and a page behind their begin its data. In
-- the data the table begins at byte 64, and the largest has 2048 bytes.
unfoldable pub generated_image : (n base : ℕ) → MemoryImage
generated_image n base = record {
  base = base;
  size = 8192;
  entry = base;
  segments =
      record { vaddr = base; bytes = assembled (instructions n); memsz = 112; exec = true }
      ∷ record { vaddr = base + 4096; bytes = data_of n; memsz = 2112; exec = false }
      ∷ [];
}
