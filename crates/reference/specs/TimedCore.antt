-- A core in time: its state, its clock, and what it does by itself up to its next access.
use Rattle.std.specs.Prelude.{ℕ, zero, suc, ◌+◌, ◌-◌, ◌*◌, nat_lt, Bool, ◌&&◌, ◌||◌, false, if◌then◌else◌, List, [], ◌++◌, option_to_list, Option, Some, None}
use Rattle.std.specs.Option.{option_map}
use Rattle.zs_num.specs.declared.entry.Entry.{Entry}
use Rattle.zs_num.specs.declared.request.Request.{Request}
use Rattle.elf_load.specs.MemoryImage.{MemoryImage}
use Rattle.machine_desc.specs.declared.machine.Machine.{Machine}
use Rattle.machine_desc.specs.InstructionCaches.{has_l1i}
use Rattle.pipe_core.specs.Pace.{PaceState, first_pace, issued}
use Rattle.rv_alu.specs.Branch.{is_taken}
use Rattle.rv_core.specs.declared.program.Fetched.{Fetched}
use Rattle.rv_core.specs.declared.program.Fetched.TheVariants.{Outside, NoInstruction, Instruction}
use Rattle.rv_core.specs.CoreState.{CoreState, InProgress}
use Rattle.rv_core.specs.Effect.{register}
use Rattle.rv_core.specs.Fetch.{fetched_at}
use Rattle.rv_core.specs.Step.{answered, asks_for_instruction, console_byte, cost, executed, initial_core, is_free, needs_fetch, unfetched}

pub record TimedCore : Type 0 where
  pub core : CoreState
  -- in cycles
  pub clock : ℕ
  -- how many instructions were counted
  pub instructions : ℕ
  -- the bytes that it wrote
  pub console : List ℕ
  -- the pace of its pipeline, where it has one
  pub pace : Option PaceState

-- The core of this number at the start. Its stack ends where those of the cores before it begin, the first at the end
-- of memory. It fetches where the machine has instruction caches, and has a pipeline where the machine has pipelines.
abbrev pub first_core : Machine → MemoryImage → (number : ℕ) → TimedCore
first_core machine image number = record {
  core = (initial_core number machine.cores image.entry (machine.memory.base + machine.memory.size - number * machine.memory.stack)
      (record { base = machine.memory.base; size = machine.memory.size }) (has_l1i machine));
  clock = 0;
  instructions = 0;
  console = [];
  pace = option_map first_pace machine.pipe;
}

-- ---- what an instruction costs

-- Whether the core takes the branch that stands at pc, by its registers before it. Of what is no branch it is not asked.
abbrev pub takes : CoreState → Fetched → Bool
takes core Outside = false
takes core (NoInstruction word) = false
takes core (Instruction inst) = is_taken inst.name (register core inst.rs1) (register core inst.rs2)

-- a clock, and the pace that goes on from it
pub record Paced : Type 0 where
  pub clock : ℕ
  pub pace : Option PaceState

-- What a pipeline makes of the instruction at pc. (That none stands there does not come up: the core halts by a fault.)
abbrev pub paced_by : PaceState → Fetched → (pc : ℕ) → (taken : Bool) → (clock : ℕ) → Paced
paced_by pace Outside pc taken clock = record { clock = clock + 1; pace = Some pace }
paced_by pace (NoInstruction word) pc taken clock = record { clock = clock + 1; pace = Some pace }
paced_by pace (Instruction inst) pc taken clock =
    let behind = issued pace inst pc taken clock in record { clock = behind.clock; pace = Some behind.pace }

-- an instruction that is not counted costs nothing, and leaves the pace as it is
abbrev pub paced_if : (counted : ℕ) → PaceState → Fetched → (pc : ℕ) → (taken : Bool) → (clock : ℕ) → Paced
paced_if zero pace fetched pc taken clock = record { clock = clock; pace = Some pace }
paced_if (suc n) pace fetched pc taken clock = paced_by pace fetched pc taken clock

-- Behind what stands at pc, of which 1 instruction is counted or none: one that is counted costs a cycle, or what the core's
-- pipeline makes of it.
abbrev pub paced : Option PaceState → (counted : ℕ) → Fetched → (pc : ℕ) → (taken : Bool) → (clock : ℕ) → Paced
paced None counted fetched pc taken clock = record { clock = clock + counted; pace = None }
paced (Some pace) counted fetched pc taken clock = paced_if counted pace fetched pc taken clock

-- ---- instructions

-- The core after the instruction at pc, or up to its first access: it is counted and costs what it costs, unless the core
-- halted by a fault.
abbrev pub after_execution : MemoryImage → TimedCore → TimedCore
after_execution image c =
    let next = executed image (unfetched c.core) in
    let fetched = fetched_at image c.core.pc in
    let behind = paced c.pace (cost next.halted) fetched c.core.pc (takes c.core fetched) c.clock in record {
      core = next;
      clock = behind.clock;
      instructions = c.instructions + cost next.halted;
      console = c.console;
      pace = behind.pace;
    }

-- The core after its next instruction, or up to that instruction's next access. An instruction that has to be fetched
-- asks for that first, and is counted when it is executed: the fetch starts at the clock as it stands.
unfoldable pub after_instruction : MemoryImage → TimedCore → TimedCore
after_instruction image c =
    if needs_fetch image c.core then record c { core = asks_for_instruction c.core } else after_execution image c

-- whether the core goes on by itself: it comes to an instruction before the interval ends, or has fetched one
abbrev pub goes_on_alone : (end : ℕ) → TimedCore → Bool
goes_on_alone end c = is_free c.core && (c.core.is_fetched || nat_lt c.clock end)

-- after so many instructions, or fewer where it stops before
abbrev pub after_instructions : ℕ → MemoryImage → (end : ℕ) → TimedCore → TimedCore
after_instructions zero image end c = c
after_instructions (suc n) image end c =
    if goes_on_alone end c then after_instructions n image end (after_instruction image c) else c

-- The core after its local instructions: up to an access, a halt or the end of the interval. Each instruction that does
-- not halt the core or ask for its fetch costs a cycle at least, so there are at most as many as cycles are left, and one.
abbrev pub ran_to : MemoryImage → (end : ℕ) → TimedCore → TimedCore
ran_to image end c = after_instructions (suc (end - c.clock)) image end c

-- the access that it waits for
abbrev pub next_request : Option InProgress → Option Request
next_request instruction = option_map (λ now. now.next) instruction

abbrev pub asks : TimedCore → Option Request
asks c = next_request c.core.instruction

-- The core after its access had this entry. `time` is how long an access takes where nothing else runs. A reply to an
-- access of a write call is a byte of the console.
unfoldable pub core_after_access : (time : Entry → ℕ) → Entry → TimedCore → TimedCore
core_after_access time e c = record {
  core = answered e.reply c.core;
  clock = c.clock + time e;
  instructions = c.instructions;
  console = c.console ++ option_to_list (console_byte c.core.instruction e.reply);
  pace = c.pace;
}

-- the core waited so many cycles in the weave
abbrev pub delayed : (by : ℕ) → TimedCore → TimedCore
delayed by c = record c { clock = c.clock + by }

-- The room for accesses of a core in an interval beside one for each cycle: for the 256 accesses of a write call that is
-- begun in the last cycle, and for two that no core makes.
abbrev pub beside_cycles : ℕ
beside_cycles = 258
