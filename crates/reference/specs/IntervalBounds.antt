-- How many accesses a core can have before it ends its interval, and how late.
use Rattle.std.specs.Prelude.{Bool, ℕ, suc, ◌+◌, ◌-◌, ◌*◌, ◌^◌, max, nat_lt, if◌then◌else◌, length, Option, Some, None}
use Rattle.rv_core.specs.CoreState.{CoreState, Ending, InProgress, ToConsole, ToExecution, ToNothing, ToRegister}
use Rattle.rv_core.specs.Step.{is_free}
use Rattle.reference.specs.Ahead.{going}
use Rattle.reference.specs.TimedCore.{TimedCore}

-- how many accesses are left of the instruction in progress, or of its fetch
abbrev pub left_of_instruction : Option InProgress → ℕ
left_of_instruction None = 0
left_of_instruction (Some now) = suc (length now.later)

-- how many accesses an instruction has at most behind its fetch
abbrev pub left_behind : Ending → ℕ
left_behind (ToRegister destination) = 0
left_behind (ToConsole count) = 0
left_behind ToExecution = 256
left_behind ToNothing = 0

abbrev pub left_behind_fetch : Option InProgress → ℕ
left_behind_fetch None = 0
left_behind_fetch (Some now) = left_behind now.ending

-- How many accesses are left at most of what the core has begun: those of the instruction in progress; where one is
-- being fetched, its fetch and 256 more; where one was fetched that is still to be executed, 256.
abbrev pub most_left : CoreState → ℕ
most_left core = if core.is_fetched then 256 else left_of_instruction core.instruction + left_behind_fetch core.instruction

-- The most accesses that a core can have before it ends its interval. An access costs a cycle at least; an instruction
-- that begins before the end may end behind it, and has 256 accesses at most beside its fetch, which is one of those
-- before the end.
unfoldable pub most_accesses : (end : ℕ) → TimedCore → ℕ
most_accesses end c = if nat_lt c.clock end then end - c.clock + 256 else most_left c.core

-- the cycles at most of an instruction that was fetched and is still to be executed, without its accesses
abbrev pub to_execute : (fetched : Bool) → ℕ
to_execute fetched = if fetched then 192 else 0

-- A cycle that the clock of a core does not pass before the core ends its interval. An access takes 2^20 cycles at
-- most, and an instruction 192, where the access is the first behind a fetch; 2^21 is more than both. Neither a step
-- that the core takes by itself nor a turn makes it later.
unfoldable pub latest_clock : (end : ℕ) → TimedCore → ℕ
latest_clock end c = max (c.clock + to_execute c.core.is_fetched + 2 ^ 21 * most_left c.core) (end + 2 ^ 30)

-- More than the steps that a core takes by itself before it stops: a step costs a cycle at least, or it is the last one,
-- or it executes an instruction that was fetched.
abbrev pub steps_left : (end : ℕ) → TimedCore → ℕ
steps_left end c = 2 * (end - c.clock) + (going (is_free c.core) + going c.core.is_fetched)
