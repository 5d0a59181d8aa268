-- That pipelines change how long programs take, and nothing else that they do.
use Rattle.std.specs.Prelude.{◌≡◌, ◌≤◌, ℕ, List, map, slice_get, Option, Some, None}
use Rattle.zs_num.specs.declared.entry.Entry.{Entry}
use Rattle.elf_load.specs.MemoryImage.{MemoryImage}
use Rattle.machine_desc.specs.declared.machine.Machine.{Machine}
use Rattle.machine_desc.specs.declared.machine.Pipe.{Pipe}
use Rattle.rv_core.specs.CoreState.{CoreState}
use Rattle.event_graph.specs.PlainTiming.{access_time}
use Rattle.event_graph.specs.declared.access_path.AccessPath.{AccessPath}
use Rattle.reference.specs.MachineWorld.{MachineWorld}
use Rattle.reference.specs.ReferenceMachine.{BoundState}
use Rattle.reference.specs.Steps.{after_steps, at_start}
use Rattle.reference.specs.TimedCore.{TimedCore}

-- a machine with other pipelines, or with none, which is else the same
abbrev pub with_pipe : Option Pipe → Machine → Machine
with_pipe pipe m = record m { pipe = pipe }

-- how far a core has come on its path, whenever
pub record PathSoFar : Type 0 where
  pub core : CoreState
  pub instructions : ℕ
  pub console : List ℕ

abbrev pub path_of_core : TimedCore → PathSoFar
path_of_core c = record { core = c.core; instructions = c.instructions; console = c.console }

-- an access as it was asked, answered and met, whenever it started
abbrev pub whenever : Entry → Entry
whenever e = record e { start = 0 }

-- The cores of both have gone the same path, by the same accesses, which left the same memory, cache lists and stamps.
pub record GoTheSamePath (s t : BoundState MachineWorld) : Type 0 where
  pub cores : map path_of_core s.cores ≡ map path_of_core t.cores
  pub accesses : map whenever s.entries ≡ map whenever t.entries
  pub world : s.world ≡ t.world

-- no clock of the first is earlier than that of the same core in the second
abbrev pub IsNoEarlier : (s t : BoundState MachineWorld) → Type 0
IsNoEarlier s t = (number : ℕ) (c d : TimedCore) → slice_get s.cores number ≡ Some c → slice_get t.cores number ≡ Some d → d.clock ≤ c.clock

-- how long an access takes does not depend on when it starts
abbrev pub IsWheneverItStarts : (time : Entry → ℕ) → Type 0
IsWheneverItStarts time = (e : Entry) → time e ≡ time (whenever e)

-- So it is where there is neither a mesh nor open rows, whatever else an access goes through.
abbrev pub AccessesTakeAsLongWhenever : Type 0
AccessesTakeAsLongWhenever = (path : AccessPath) → IsWheneverItStarts (access_time path)

-- Whatever cores step, one after the other, and however long accesses take: machines that differ in their pipelines alone
-- go the same path.
abbrev pub PipelinesChangeTimesAlone : Type 0
PipelinesChangeTimesAlone = (m : Machine) (pipe : Option Pipe) (image : MemoryImage) (time : Entry → ℕ) (numbers : List ℕ)
    → GoTheSamePath (after_steps time image (at_start m image) numbers) (after_steps time image (at_start (with_pipe pipe m) image) numbers)

-- And where an access takes as long whenever it starts, none is earlier than the one without pipelines.
abbrev pub PipelinesAreNoFaster : Type 0
PipelinesAreNoFaster = (m : Machine) (image : MemoryImage) (time : Entry → ℕ) (numbers : List ℕ) → IsWheneverItStarts time
    → IsNoEarlier (after_steps time image (at_start m image) numbers) (after_steps time image (at_start (with_pipe None m) image) numbers)
