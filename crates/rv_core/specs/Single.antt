-- An instruction of one access: a load or a store in memory that does not cross a line.
use Rattle.std.specs.Prelude.{ℕ, Bool, true, false, ◌&&◌, if◌then◌else◌, [], ◌∷◌, Option, Some, None}
use Rattle.zs_num.specs.declared.request.Request.{Request}
use Rattle.zs_num.specs.declared.request.Request.TheVariants as request
use Rattle.rv_core.specs.declared.memory_range.MemoryRange.{MemoryRange}
use Rattle.rv_core.specs.declared.progress.Destination.{Destination}
use Rattle.rv_core.specs.declared.single.Single.{Single}
use Rattle.rv_core.specs.declared.single.Single.TheVariants.{Load, Store}
use Rattle.rv_core.specs.declared.did.Did.{Did}
use Rattle.rv_core.specs.declared.did.Did.TheVariants.{GoesOn, Stops, Meets}
use Rattle.rv_core.specs.Accesses.{is_in_line, is_in_memory, low_bytes}
use Rattle.rv_core.specs.CoreState.{CoreState, Ending, ToRegister, ToNothing}
use Rattle.rv_core.specs.Effect.{goes_through}

-- so many bytes from an address on take one access: they are in memory, and in one line
abbrev pub is_single : MemoryRange → (addr width : ℕ) → Bool
is_single memory addr width = is_in_memory memory addr width && is_in_line addr width

-- a load of so many bytes as its destination has, where it is of one access
abbrev pub single_load : MemoryRange → (addr : ℕ) → Destination → Option Single
single_load memory addr destination = if is_single memory addr destination.width then Some (Load addr destination) else None

-- a store of the lowest bytes of a number, where it is of one access
abbrev pub single_store : MemoryRange → (addr width number : ℕ) → Option Single
single_store memory addr width number = if is_single memory addr width then Some (Store addr width (low_bytes width number)) else None

-- its access
abbrev pub access_of : Single → Request
access_of (Load addr destination) = request.Load destination.width addr
access_of (Store addr width value) = request.Store width addr value

-- what the reply does
abbrev pub ending_with : Single → Ending
ending_with (Load addr destination) = ToRegister destination
ending_with (Store addr width value) = ToNothing

-- the core has begun the instruction, and waits for the reply
abbrev pub begun : Single → CoreState → CoreState
begun single core = goes_through (access_of single ∷ []) [] (ending_with single) core

-- the core has begun the instruction that it met, if it met one
abbrev pub begun_if : Option Single → CoreState → CoreState
begun_if None core = core
begun_if (Some single) core = begun single core

-- the instruction that it met in a step, if it met one
abbrev pub met_by : Did → Option Single
met_by GoesOn = None
met_by Stops = None
met_by (Meets single) = Some single

-- whether the core comes to another instruction behind a step
abbrev pub comes_to_next : Did → Bool
comes_to_next GoesOn = true
comes_to_next Stops = false
comes_to_next (Meets single) = false
