-- The instruction in progress that a core's own record of it stands for.
use Rattle.std.specs.Prelude.{◌+◌, ◌<◌, ◌≤◌, Bool, true, false, [], ◌∷◌, Option, Some, None, option_to_list}
use Rattle.zs_num.specs.Request.{width_of}
use Rattle.zs_num.specs.declared.request.Request.TheVariants as request
use Rattle.rv_core.specs.declared.memory_range.MemoryRange.{MemoryRange}
use Rattle.rv_core.specs.declared.progress.Destination.{Destination}
use Rattle.rv_core.specs.declared.progress.Progress.{Progress}
use Rattle.rv_core.specs.declared.progress.Progress.TheVariants.{Idle, Fetch, Fetched, Lower, Last, Write}
use Rattle.rv_core.specs.declared.progress.Reply.{Reply}
use Rattle.rv_core.specs.Accesses.{byte_loads}
use Rattle.rv_core.specs.CoreState.{Ending, ToRegister, ToConsole, ToExecution, ToNothing, InProgress}

abbrev pub ending_of : Option Destination → Ending
ending_of None = ToNothing
ending_of (Some destination) = ToRegister destination

abbrev pub in_progress : Progress → Option InProgress
in_progress Idle = None
in_progress (Fetch addr) = Some (record { next = request.Fetch addr; later = []; replies = []; ending = ToExecution })
in_progress Fetched = None
in_progress (Lower next upper destination) =
    Some (record { next = next; later = upper ∷ []; replies = []; ending = ending_of destination })
in_progress (Last next lower destination) =
    Some (record { next = next; later = []; replies = option_to_list lower; ending = ending_of destination })
in_progress (Write addr later count) =
    Some (record { next = request.Load 1 addr; later = byte_loads (addr + 1) later; replies = []; ending = ToConsole count })

-- whether an instruction was fetched and is to be executed
abbrev pub is_fetched : Progress → Bool
is_fetched Idle = false
is_fetched (Fetch addr) = false
is_fetched Fetched = true
is_fetched (Lower next upper destination) = false
is_fetched (Last next lower destination) = false
is_fetched (Write addr later count) = false

-- the reply from a lower line is narrower than a register
abbrev pub IsNarrow : Option Reply → Type 0
IsNarrow None = Unit {0}
IsNarrow (Some reply) = reply.width < 8

-- What the record keeps beside: an access to a lower line is narrower than a register, and the bytes of a write call
-- that are left lie in memory and are 256 at most.
abbrev pub IsBounded : MemoryRange → Progress → Type 0
IsBounded memory Idle = Unit {0}
IsBounded memory (Fetch addr) = Unit {0}
IsBounded memory Fetched = Unit {0}
IsBounded memory (Lower next upper destination) = width_of next < 8
IsBounded memory (Last next lower destination) = IsNarrow lower
IsBounded memory (Write addr later count) = (memory.base ≤ addr) × (addr + 1 + later ≤ memory.base + memory.size) × (later < 256)
