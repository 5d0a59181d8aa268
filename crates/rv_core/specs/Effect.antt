-- What an instruction does to a core, by its name (RISC-V Unprivileged ISA manual, "RV32I Base Integer Instruction
-- Set", "RV64I Base Integer Instruction Set", the "M" extension and the "A" extension). Numbers are of 64 bits, and
-- sums are modulo 2^64. An instruction with accesses is in progress until its last access has its reply.
use Rattle.std.specs.Prelude.{ℕ, ◌+◌, ◌-◌, ◌%◌, ◌^◌, ◌==◌, min, Bool, true, false, ◌&&◌, ◌||◌, if◌then◌else◌, List, [], ◌∷◌, slice_index, slice_set, Some}
use Rattle.std.specs.Int.{w64, cast_unsigned}
use Rattle.zs_num.specs.Request.{line_at}
use Rattle.zs_num.specs.declared.request.AmoOp.{AmoOp}
use Rattle.zs_num.specs.declared.request.AmoOp.TheVariants as amo
use Rattle.zs_num.specs.declared.request.Request.{Request}
use Rattle.zs_num.specs.declared.request.Request.TheVariants.{Lr, Sc, Amo}
use Rattle.rv_decode.specs.declared.inst.Inst.{Inst}
use Rattle.rv_decode.specs.declared.name.Name.{Name}
use Rattle.rv_decode.specs.declared.name.Name.TheVariants as name
use Rattle.rv_alu.specs.Arithmetic.{result_of}
use Rattle.rv_alu.specs.Branch.{is_taken}
use Rattle.rv_core.specs.declared.progress.Destination.{Destination}
use Rattle.rv_core.specs.declared.progress.Reply.{Reply}
use Rattle.rv_core.specs.declared.why.Why.{Why}
use Rattle.rv_core.specs.declared.why.Why.TheVariants.{Exit, Misaligned, AtomicAlign, Access, Break}
use Rattle.rv_core.specs.Accesses.{byte_loads, is_in_memory, joined, load_requests, low_bytes, sign_extended_bytes, store_requests}
use Rattle.rv_core.specs.CoreState.{CoreState, Ending, ToRegister, ToConsole, ToExecution, ToNothing}
use Rattle.zs_num.specs.Pairing.{is_paired}

-- ---- registers, pc and halts

abbrev pub register : CoreState → ℕ → ℕ
register core n = slice_index core.registers n

-- the registers after a write, of which one to x0 is dropped
abbrev pub with_register : List ℕ → (n value : ℕ) → List ℕ
with_register registers n value = if n == 0 then registers else slice_set registers n value

-- the address of the next instruction
abbrev pub following : CoreState → ℕ
following core = (core.pc + 4) % 2 ^ 64

-- the core writes register rd, and goes on at an address
unfoldable pub goes_to : CoreState → (rd value target : ℕ) → CoreState
goes_to core rd value target = record core { registers = with_register core.registers rd value; pc = target }

-- the core writes register rd, and goes on at the next instruction
abbrev pub goes_on : CoreState → (rd value : ℕ) → CoreState
goes_on core rd value = goes_to core rd value (following core)

-- the core halts, and nothing else changes
abbrev pub halts : Why → CoreState → CoreState
halts why core = record core { halted = Some why }

-- ---- accesses

-- the number that replies give a register: it is sign-extended where it is signed, and else zero-extended
abbrev pub received : Destination → List Reply → ℕ
received destination replies =
    let number = joined replies % 2 ^ 64 in if destination.signed then sign_extended_bytes destination.width number else number

-- the instruction at pc was fetched
abbrev pub has_fetched : CoreState → CoreState
has_fetched core = record core { fetched_line = Some (line_at core.pc); is_fetched = true }

-- The last reply has come. The bytes of a write call are on the console by then, and a0 (x10) gets their count.
unfoldable pub ended : Ending → List Reply → CoreState → CoreState
ended (ToRegister destination) replies core = goes_on core destination.rd (received destination replies)
ended (ToConsole count) replies core = goes_on core 10 count
ended ToExecution replies core = has_fetched core
ended ToNothing replies core = goes_on core 0 0

-- the core goes through an instruction with these accesses left, the first of which comes next
abbrev pub goes_through : List Request → List Reply → Ending → CoreState → CoreState
goes_through [] replies ending core = ended ending replies core
goes_through (request ∷ requests) replies ending core =
    record core { instruction = Some (record { next = request; later = requests; replies = replies; ending = ending }) }

-- An instruction with accesses, all to bytes among so many from an address on. Where these are not all in memory the
-- core halts, and makes no access.
unfoldable pub accesses : (addr width : ℕ) → List Request → Ending → CoreState → CoreState
accesses addr width requests ending core =
    if is_in_memory core.memory addr width then goes_through requests [] ending core else halts (Access addr) core

-- ---- operands

-- the immediate as a number of 64 bits, in two's complement
abbrev pub immediate_number : Inst → ℕ
immediate_number i = cast_unsigned w64 i.imm

-- the address that the immediate is away from pc
abbrev pub relative : Inst → CoreState → ℕ
relative i core = (core.pc + immediate_number i) % 2 ^ 64

-- the address that the immediate is away from rs1
abbrev pub address : Inst → CoreState → ℕ
address i core = (register core i.rs1 + immediate_number i) % 2 ^ 64

-- rd gets a number of so many bytes
abbrev pub to_register : Inst → (width : ℕ) (signed : Bool) → Ending
to_register i width signed = ToRegister (record { rd = i.rd; width = width; signed = signed })

-- ---- families of instructions

-- "Integer Computational Instructions", and those of the "M" extension: of rs1 and the immediate, and of rs1 and rs2
abbrev pub computes_immediate : Name → Inst → CoreState → CoreState
computes_immediate n i core = goes_on core i.rd (result_of n (register core i.rs1) (immediate_number i))

abbrev pub computes : Name → Inst → CoreState → CoreState
computes n i core = goes_on core i.rd (result_of n (register core i.rs1) (register core i.rs2))

-- "Control Transfer Instructions": rd gets the address of the next instruction. A target that is not a multiple of 4
-- halts the core, and nothing is written.
unfoldable pub jumps : (rd target : ℕ) → CoreState → CoreState
jumps rd target core = if target % 4 == 0 then goes_to core rd (following core) target else halts (Misaligned target) core

-- the number with its lowest bit cleared
abbrev pub even : ℕ → ℕ
even target = target - target % 2

-- "Conditional Branches": one that is not taken goes on at the next instruction, whatever the target
unfoldable pub branches : Name → Inst → CoreState → CoreState
branches n i core = if is_taken n (register core i.rs1) (register core i.rs2) then jumps 0 (relative i core) core else goes_on core 0 0

-- "Load and Store Instructions"
abbrev pub loads : (width : ℕ) (signed : Bool) → Inst → CoreState → CoreState
loads width signed i core =
    accesses (address i core) width (load_requests (address i core) width) (to_register i width signed) core

abbrev pub stores : (width : ℕ) → Inst → CoreState → CoreState
stores width i core =
    accesses (address i core) width (store_requests (address i core) width (register core i.rs2)) ToNothing core

-- The "A" extension: one access, at the address in rs1. One that is not aligned to its width halts the core.
unfoldable pub atomic : (addr width : ℕ) → Request → Ending → CoreState → CoreState
atomic addr width request ending core =
    if addr % width == 0 then accesses addr width (request ∷ []) ending core else halts (AtomicAlign addr) core

-- "Load-Reserved/Store-Conditional Instructions": rd gets the number, of which a word is sign-extended
abbrev pub load_reserved : (width : ℕ) → Inst → CoreState → CoreState
load_reserved width i core = let addr = register core i.rs1 in atomic addr width (Lr width addr) (to_register i width true) core

-- rd gets the reply: 0 where the number was stored, and else 1
abbrev pub store_conditional : (width : ℕ) → Inst → CoreState → CoreState
store_conditional width i core =
    let addr = register core i.rs1 in
    atomic addr width (Sc width (is_paired core.pairing addr width) addr (low_bytes width (register core i.rs2))) (to_register i width false) core

-- "Atomic Memory Operations": rd gets the number that was in memory, of which a word is sign-extended
abbrev pub updates : AmoOp → (width : ℕ) → Inst → CoreState → CoreState
updates op width i core =
    let addr = register core i.rs1 in
    atomic addr width (Amo width op addr (low_bytes width (register core i.rs2))) (to_register i width true) core

-- ---- "Environment Call and Breakpoints"
-- Calls have the numbers of Linux on RISC-V.

-- a0 (x10) gets the result of a call
abbrev pub returns_from_call : ℕ → CoreState → CoreState
returns_from_call result core = goes_on core 10 result

-- The write call: of at most 256 of the a2 (x12) bytes from a1 (x11) on, to the console. a0 gets their count, or -14
-- (EFAULT) where they are not all in memory.
unfoldable pub writes : CoreState → CoreState
writes core =
    let addr = register core 11 in
    let count = min (register core 12) 256 in
    if count == 0 then returns_from_call 0 core
    else if is_in_memory core.memory addr count then goes_through (byte_loads addr count) [] (ToConsole count) core
    else returns_from_call (2 ^ 64 - 14) core

-- By the number of the call in a7 (x17): exit (93) and exit_group (94) end the program with the number in a0, and write
-- (64) writes to the standard output (1) and the standard error (2). For every other call a0 gets -38 (ENOSYS).
unfoldable pub calls : CoreState → CoreState
calls core =
    let number = register core 17 in
    let first = register core 10 in
    if (number == 93) || (number == 94) then halts (Exit first) core
    else if (number == 64) && ((first == 1) || (first == 2)) then writes core
    else returns_from_call (2 ^ 64 - 38) core

-- ---- the instructions, by name

unfoldable pub effect : Name → Inst → CoreState → CoreState
-- "Integer Register-Immediate Instructions"
effect name.Lui i core = goes_on core i.rd (immediate_number i)
effect name.Auipc i core = goes_on core i.rd (relative i core)
-- "Unconditional Jumps"
effect name.Jal i core = jumps i.rd (relative i core) core
effect name.Jalr i core = jumps i.rd (even (address i core)) core
-- "Conditional Branches"
effect name.Beq i core = branches name.Beq i core
effect name.Bne i core = branches name.Bne i core
effect name.Blt i core = branches name.Blt i core
effect name.Bge i core = branches name.Bge i core
effect name.Bltu i core = branches name.Bltu i core
effect name.Bgeu i core = branches name.Bgeu i core
-- "Load and Store Instructions"
effect name.Lb i core = loads 1 true i core
effect name.Lh i core = loads 2 true i core
effect name.Lw i core = loads 4 true i core
effect name.Ld i core = loads 8 true i core
effect name.Lbu i core = loads 1 false i core
effect name.Lhu i core = loads 2 false i core
effect name.Lwu i core = loads 4 false i core
effect name.Sb i core = stores 1 i core
effect name.Sh i core = stores 2 i core
effect name.Sw i core = stores 4 i core
effect name.Sd i core = stores 8 i core
-- "Integer Register-Immediate Instructions", on 64 bits and on words
effect name.Addi i core = computes_immediate name.Addi i core
effect name.Slti i core = computes_immediate name.Slti i core
effect name.Sltiu i core = computes_immediate name.Sltiu i core
effect name.Xori i core = computes_immediate name.Xori i core
effect name.Ori i core = computes_immediate name.Ori i core
effect name.Andi i core = computes_immediate name.Andi i core
effect name.Slli i core = computes_immediate name.Slli i core
effect name.Srli i core = computes_immediate name.Srli i core
effect name.Srai i core = computes_immediate name.Srai i core
effect name.Addiw i core = computes_immediate name.Addiw i core
effect name.Slliw i core = computes_immediate name.Slliw i core
effect name.Srliw i core = computes_immediate name.Srliw i core
effect name.Sraiw i core = computes_immediate name.Sraiw i core
-- "Memory Ordering Instructions": accesses are made in order
effect name.Fence i core = goes_on core 0 0
-- "Environment Call and Breakpoints"
effect name.Ecall i core = calls core
effect name.Ebreak i core = halts Break core
-- "Integer Register-Register Operations", on 64 bits and on words
effect name.Add i core = computes name.Add i core
effect name.Sub i core = computes name.Sub i core
effect name.Sll i core = computes name.Sll i core
effect name.Slt i core = computes name.Slt i core
effect name.Sltu i core = computes name.Sltu i core
effect name.Xor i core = computes name.Xor i core
effect name.Srl i core = computes name.Srl i core
effect name.Sra i core = computes name.Sra i core
effect name.Or i core = computes name.Or i core
effect name.And i core = computes name.And i core
effect name.Addw i core = computes name.Addw i core
effect name.Subw i core = computes name.Subw i core
effect name.Sllw i core = computes name.Sllw i core
effect name.Srlw i core = computes name.Srlw i core
effect name.Sraw i core = computes name.Sraw i core
-- "Multiplication Operations" and "Division Operations", on 64 bits and on words
effect name.Mul i core = computes name.Mul i core
effect name.Mulh i core = computes name.Mulh i core
effect name.Mulhsu i core = computes name.Mulhsu i core
effect name.Mulhu i core = computes name.Mulhu i core
effect name.Div i core = computes name.Div i core
effect name.Divu i core = computes name.Divu i core
effect name.Rem i core = computes name.Rem i core
effect name.Remu i core = computes name.Remu i core
effect name.Mulw i core = computes name.Mulw i core
effect name.Divw i core = computes name.Divw i core
effect name.Divuw i core = computes name.Divuw i core
effect name.Remw i core = computes name.Remw i core
effect name.Remuw i core = computes name.Remuw i core
-- "Load-Reserved/Store-Conditional Instructions" and "Atomic Memory Operations", on words and on doublewords
effect name.LrW i core = load_reserved 4 i core
effect name.ScW i core = store_conditional 4 i core
effect name.AmoswapW i core = updates amo.Swap 4 i core
effect name.AmoaddW i core = updates amo.Add 4 i core
effect name.AmoxorW i core = updates amo.Xor 4 i core
effect name.AmoandW i core = updates amo.And 4 i core
effect name.AmoorW i core = updates amo.Or 4 i core
effect name.AmominW i core = updates amo.Min 4 i core
effect name.AmomaxW i core = updates amo.Max 4 i core
effect name.AmominuW i core = updates amo.Minu 4 i core
effect name.AmomaxuW i core = updates amo.Maxu 4 i core
effect name.LrD i core = load_reserved 8 i core
effect name.ScD i core = store_conditional 8 i core
effect name.AmoswapD i core = updates amo.Swap 8 i core
effect name.AmoaddD i core = updates amo.Add 8 i core
effect name.AmoxorD i core = updates amo.Xor 8 i core
effect name.AmoandD i core = updates amo.And 8 i core
effect name.AmoorD i core = updates amo.Or 8 i core
effect name.AmominD i core = updates amo.Min 8 i core
effect name.AmomaxD i core = updates amo.Max 8 i core
effect name.AmominuD i core = updates amo.Minu 8 i core
effect name.AmomaxuD i core = updates amo.Maxu 8 i core
