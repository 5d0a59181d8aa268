-- What a core does at its next instruction, of which its fetch may be the first access, and when an access has its reply.
use Rattle.std.specs.Prelude.{ℕ, ◌%◌, ◌==◌, Bool, false, not, ◌&&◌, List, [], ◌∷◌, ◌++◌, replicate, slice_set, Option, Some, None, is_none, is_some}
use Rattle.zs_num.specs.Request.{line_at}
use Rattle.zs_num.specs.declared.request.Request.TheVariants as request
use Rattle.elf_load.specs.MemoryImage.{MemoryImage, fetched_word}
use Rattle.rv_core.specs.declared.memory_range.MemoryRange.{MemoryRange}
use Rattle.rv_core.specs.declared.program.Fetched.{Fetched}
use Rattle.rv_core.specs.declared.program.Fetched.TheVariants.{Outside, NoInstruction, Instruction}
use Rattle.rv_core.specs.declared.progress.Reply.{Reply}
use Rattle.rv_core.specs.declared.why.Why.{Why}
use Rattle.rv_core.specs.declared.why.Why.TheVariants.{Exit, Illegal, Misaligned, AtomicAlign, Fetch, Access, Break}
use Rattle.rv_core.specs.Accesses.{is_in_memory, reply_to}
use Rattle.rv_core.specs.CoreState.{CoreState, Ending, ToRegister, ToConsole, ToExecution, ToNothing, InProgress}
use Rattle.rv_core.specs.Effect.{effect, goes_through, halts}
use Rattle.rv_core.specs.Fetch.{fetched_at}
use Rattle.zs_num.specs.Pairing.{pairing_after}

-- the registers at the start: sp is x2, the core's number is in a0 (x10) and the number of cores in a1 (x11)
abbrev pub start_registers : (number cores sp : ℕ) → List ℕ
start_registers number cores sp = slice_set (slice_set (slice_set (replicate 32 0) 2 sp) 10 number) 11 cores

-- the core of this number at the start
unfoldable pub initial_core : (number cores entry sp : ℕ) → MemoryRange → (fetching : Bool) → CoreState
initial_core number cores entry sp memory fetching = record {
  registers = start_registers number cores sp;
  pc = entry;
  memory = memory;
  pairing = None;
  instruction = None;
  fetching = fetching;
  fetched_line = None;
  is_fetched = false;
  halted = None;
}

-- whether the core goes on by itself: it has not halted, and waits for no reply
abbrev pub is_free : CoreState → Bool
is_free core = is_none core.halted && is_none core.instruction

-- the core after the instruction that stands at pc, or halted where there is none
abbrev pub after_fetch : Fetched → CoreState → CoreState
after_fetch Outside core = halts (Fetch core.pc) core
after_fetch (NoInstruction word) core = halts (Illegal word) core
after_fetch (Instruction inst) core = effect inst.name inst core

-- the core after the instruction at pc, or up to the instruction's first access
abbrev pub executed : MemoryImage → CoreState → CoreState
executed image core = after_fetch (fetched_at image core.pc) core

-- ---- fetches

-- the line is that of the latest fetch
abbrev pub is_latest : (latest : Option ℕ) → (line : ℕ) → Bool
is_latest None line = false
is_latest (Some latest) line = latest == line

-- Whether a core that fetches has to fetch the instruction at pc: its four bytes are in one executable segment, and so
-- in memory, and their line is not that of the core's latest fetch.
unfoldable pub needs_fetch : MemoryImage → CoreState → Bool
needs_fetch image core =
    core.fetching && not (is_latest core.fetched_line (line_at core.pc))
    && is_some (fetched_word image.segments core.pc) && is_in_memory core.memory core.pc 4

-- the core asks for the instruction at pc
abbrev pub asks_for_instruction : CoreState → CoreState
asks_for_instruction core = goes_through (request.Fetch core.pc ∷ []) [] ToExecution core

-- no instruction is fetched and to be executed
abbrev pub unfetched : CoreState → CoreState
unfetched core = record core { is_fetched = false }

-- the replies so far and one more: only those that go to a register are kept
abbrev pub replies_with : Ending → List Reply → Reply → List Reply
replies_with (ToRegister destination) replies reply = replies ++ reply ∷ []
replies_with (ToConsole count) replies reply = replies
replies_with ToExecution replies reply = replies
replies_with ToNothing replies reply = replies

-- the next access of the instruction in progress had this reply
abbrev pub after_reply : Option InProgress → (reply : ℕ) → CoreState → CoreState
after_reply None reply core = core
after_reply (Some now) reply core =
    goes_through now.later (replies_with now.ending now.replies (reply_to now.next reply)) now.ending
    (record core { pairing = pairing_after core.pairing now.next; instruction = None })

unfoldable pub answered : (reply : ℕ) → CoreState → CoreState
answered reply core = after_reply core.instruction reply core

-- the byte of a reply that goes to the console: that of an access of a write call
abbrev pub byte_of : Ending → (reply : ℕ) → Option ℕ
byte_of (ToConsole count) reply = Some (reply % 256)
byte_of (ToRegister destination) reply = None
byte_of ToExecution reply = None
byte_of ToNothing reply = None

abbrev pub console_byte : Option InProgress → (reply : ℕ) → Option ℕ
console_byte None reply = None
console_byte (Some now) reply = byte_of now.ending reply

-- how many instructions are counted: one, and none where the core halted by a fault
abbrev pub cost : Option Why → ℕ
cost None = 1
cost (Some (Exit number)) = 1
cost (Some (Illegal word)) = 0
cost (Some (Misaligned target)) = 0
cost (Some (AtomicAlign addr)) = 0
cost (Some (Fetch addr)) = 0
cost (Some (Access addr)) = 0
cost (Some Break) = 0
