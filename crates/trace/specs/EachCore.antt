-- The turns of an interval core after core, and what they leave untold: what a core executes behind its last access is told
-- behind the turns of all cores.
use Rattle.std.specs.Prelude.{⊤, ◌≡◌, ◌≤◌, ◌<◌, ◌-◌, ℕ, All, drop, false, length, List, ◌∷◌, ◌++◌, [], flat_map, replicate, slice_get, slice_set, Some, take, true}
use Rattle.std.specs.List.{enumerate_from}
use Rattle.zs_num.specs.declared.entry.Entry.{Entry}
use Rattle.elf_load.specs.MemoryImage.{MemoryImage}
use Rattle.rv_core.specs.declared.leg.Leg.{Leg}
use Rattle.rv_core.specs.Told.{told_of}
use Rattle.bound_core.specs.NumberedCores.{NumberedCore}
use Rattle.bound_core.specs.ReferenceMachine.{BoundState}
use Rattle.bound_core.specs.ShardWorld.{ShardWorld, shards_serve}
use Rattle.bound_core.specs.TimedCore.{TimedCore, ran_to}
use Rattle.trace.specs.Port.{LoggedPortState, leaves_shards}
use Rattle.trace.specs.Trace.{Step, phase_steps, steps_alone}
use Rattle.trace.specs.Turns.{HaveTaken}
use Rattle.trace.specs.Ways.{FitsLeg, told_steps}

-- a list names the cores in order of their numbers: behind none comes one whose number is smaller
abbrev pub IsCoreAfterCore : List ℕ → Type 0
IsCoreAfterCore [] = ⊤
IsCoreAfterCore (core ∷ turns) = All (λ other. core ≤ other) turns × IsCoreAfterCore turns

-- ---- what is not told

-- what these legs of a core tell, of whose accesses nothing is told
abbrev pub untold_steps : (number : ℕ) → List Leg → List Step
untold_steps number legs = told_steps number (told_of legs) []

-- that of all cores, core after core, from this number on
abbrev pub untold_from : (number : ℕ) → List (List Leg) → List Step
untold_from number lists = flat_map (λ at. untold_steps at.0 at.1) (enumerate_from number lists)

-- The core of this number is ahead of there within its turn, and these legs tell what it executed since.
pub record IsAhead (image : MemoryImage) (end number : ℕ) (there core : TimedCore) (legs : List Leg) : Type 0 where
  pub ran : ran_to image end core ≡ ran_to image end there
  pub tells : untold_steps number legs ++ steps_alone image end number core ≡ steps_alone image end number there
  pub fits : All FitsLeg legs

-- Of a way the first legs are told, so many, with these entries, and before them what was untold. The last of them made
-- an access, and none behind it did; what those tell is untold now. Where no leg made an access, nothing was told, and the
-- way is untold behind what was.
pub record TellsUpTo (number : ℕ) (way : List Leg) (made : ℕ) (entries : List Entry) (untold untold_after : List Leg) (steps steps_after : List Step) : Type 0 where
  pub within : made ≤ length way
  pub last : 0 < made → (leg : Leg) → slice_get way (made - 1) ≡ Some leg → leg.made ≡ true
  pub behind : (i : ℕ) (leg : Leg) → made ≤ i → slice_get way i ≡ Some leg → leg.made ≡ false
  pub none : made ≡ 0 → (steps_after ≡ steps) × (untold_after ≡ untold ++ way)
  pub some : 0 < made → (steps_after ≡ steps ++ (untold_steps number untold ++ told_steps number (told_of (take made way)) entries)) × (untold_after ≡ drop made way)

-- ---- turns of one core

-- a bound phase on its way, with these cores
abbrev pub phase_with : List TimedCore → LoggedPortState → BoundState ShardWorld
phase_with cores port = record { cores = cores; world = port.world; entries = port.entries }

-- It stands among cores that took turns so far.
pub record IsUnderWay (time : Entry → ℕ) (image : MemoryImage) (end number : ℕ) (core : NumberedCore) (port : LoggedPortState) : Type 0 where
  pub most : ℕ
  pub first : BoundState ShardWorld
  pub turns : List ℕ
  pub cores : List NumberedCore
  pub here : slice_get cores number ≡ Some core
  pub taken : HaveTaken time image end most first turns cores port

-- The core of this number took so many turns: wherever the turns before led, these lead further.
abbrev pub TakesOwn : (time : Entry → ℕ) (image : MemoryImage) (end number count : ℕ) (port port_after : LoggedPortState) (core after : NumberedCore) → Type 0
TakesOwn time image end number count port port_after core after =
    (most : ℕ) (first : BoundState ShardWorld) (turns : List ℕ) (cores : List NumberedCore) → slice_get cores number ≡ Some core → HaveTaken time image end most first turns cores port
    → HaveTaken time image end most first (turns ++ replicate count number) (slice_set cores number after) port_after

-- They were told: where the core was ahead of a state by these legs, it is ahead of one behind the turns by those, and what
-- was told leads from the one to the other.
abbrev pub TellsOwn : (time : Entry → ℕ) (image : MemoryImage) (end number count : ℕ) (port port_after : LoggedPortState) (core after : TimedCore) (legs legs_after : List Leg) (steps steps_after : List Step) → Type 0
TellsOwn time image end number count port port_after core after legs legs_after steps steps_after =
    (cores : List TimedCore) (there : TimedCore) → slice_get cores number ≡ Some there → IsAhead image end number there core legs
    → (behind : TimedCore) × (IsAhead image end number behind after legs_after
    × ((rest : List ℕ) → steps_after ++ phase_steps shards_serve leaves_shards image end time rest (phase_with (slice_set cores number behind) port_after)
    ≡ steps ++ phase_steps shards_serve leaves_shards image end time (replicate count number ++ rest) (phase_with cores port)))
