-- When cores and shards with marks stand for the machine of one thread: one flat memory with a reservation for each
-- core, and one list for each set of the caches.
use Rattle.std.specs.Prelude.{◌≡◌, ℕ, ◌<◌, Bool, List, [], length, map, All, IsTrue, Option, Ok}
use Rattle.zs_num.specs.declared.entry.Entry.{Entry}
use Rattle.elf_load.specs.MemoryImage.{MemoryImage}
use Rattle.zs_num.specs.declared.pairing.Pairing.{Pairing}
use Rattle.rv_core.specs.Sound.{IsSoundCore}
use Rattle.shard.specs.Marks.{MarkedMemory}
use Rattle.shard.specs.Served.{ShardState}
use Rattle.shard.specs.HaveL1i.{have_l1i}
use Rattle.shard.specs.StandsFor.{StandFor, flat_for}
use Rattle.access_log.specs.RecordedOrder.{recorded_order}
use Rattle.reference.specs.History.{IsHistory, after_history}
use Rattle.reference.specs.MachineWorld as machine
use Rattle.reference.specs.MachineWorld.{MachineWorld}
use Rattle.reference.specs.ReferenceMachine.{BoundState, bound_from, bound_phase}
use Rattle.reference.specs.ShardWorld as shards
use Rattle.reference.specs.ShardWorld.{ShardWorld, begun_world}
use Rattle.reference.specs.Correspondence.{AreRelated, EndAlike}
use Rattle.reference.specs.TimedCore.{TimedCore}

-- the pairings of cores, in the cores' order
abbrev pub pairings_of : List TimedCore → List (Option Pairing)
pairings_of cores = map (λ c. c.core.pairing) cores

-- the core is sound, and its memory is this; it fetches only where the cores have instruction caches
pub record IsCoreOf (base size : ℕ) (l1i : Bool) (c : TimedCore) : Type 0 where
  pub sound : IsSoundCore c.core
  pub base_is : c.core.memory.base ≡ base
  pub size_is : c.core.memory.size ≡ size
  pub fetches : IsTrue c.core.fetching → IsTrue l1i

-- The memory and the caches are those for which the shards stand: a core has reserved the bytes of its pairing, where
-- they are marked in their shard. The stamps are the same.
pub record StandForMachine (cores : List TimedCore) (w : ShardWorld) (m : MachineWorld) : Type 0 where
  pub memory : MarkedMemory
  pub stand : StandFor w.shards memory m.caches
  pub flat : m.memory ≡ flat_for memory (pairings_of cores)
  pub some : 0 < length w.shards
  pub cores_known : All (λ shard. length shard.marks ≡ length cores) w.shards
  pub cores_are : All (IsCoreOf memory.base (length memory.bytes) (have_l1i m.caches)) cores
  pub banks_stamped : m.stamps.banks ≡ map (λ shard. shard.last) w.shards
  pub cores_stamped : m.stamps.cores ≡ w.stamps

-- a bound phase of the machine of one thread before its first access
abbrev pub begun_over_machine : List TimedCore → MachineWorld → BoundState MachineWorld
begun_over_machine cores m = record { cores = cores; world = m; entries = [] }

module _ (time : Entry → ℕ) (image : MemoryImage) (end : ℕ) where
  -- From cores and shards that stand for a machine, every bound phase over the shards is that of the machine: the same
  -- entries and cores, in worlds that belong together; or the schedule is not legal at the same place for both.
  abbrev pub ShardsDoAsTheMachine : Type 0
  ShardsDoAsTheMachine = (s : BoundState ShardWorld) (t : BoundState MachineWorld) → AreRelated StandForMachine s t → (numbers : List ℕ) (place : ℕ)
      → EndAlike StandForMachine (bound_from shards.shards_serve time image end place numbers s) (bound_from machine.serve time image end place numbers t)

  -- What the machine of one thread did, where cores took their turns at shards in any order: under the schedule of the
  -- entries in recorded order, its bound phase gave these entries and the same cores, and the shards stand for what it
  -- left.
  pub record IsRunOfTheMachine (cores : List TimedCore) (shards : List ShardState) (entries : List Entry) (m : MachineWorld) : Type 0 where
    pub left : BoundState MachineWorld
    pub phase : bound_phase machine.serve time image end (map (λ e. e.core) (recorded_order entries)) (begun_over_machine cores m) ≡ Ok left
    pub cores_are : left.cores ≡ (after_history time image end cores shards entries).cores
    pub entries_are : left.entries ≡ recorded_order entries
    pub stand : StandForMachine left.cores (after_history time image end cores shards entries).world left.world

  -- Whatever the order in which cores took their turns at shards that stand for a machine, in recorded order the
  -- entries are a run of that machine.
  abbrev pub HistoriesAreRunsOfTheMachine : Type 0
  HistoriesAreRunsOfTheMachine = (cores : List TimedCore) (shards : List ShardState) (entries : List Entry) (m : MachineWorld)
      → IsHistory time image end cores shards entries → StandForMachine cores (begun_world (length cores) shards) m → IsRunOfTheMachine cores shards entries m
