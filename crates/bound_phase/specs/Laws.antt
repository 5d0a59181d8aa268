-- What an interval by several workers comes to: a bound phase of the machine of one thread, under the schedule of its
-- entries.
use Rattle.std.specs.Prelude.{◌≡◌, ℕ, List, length, map, Ok}
use Rattle.zs_num.specs.declared.entry.Entry.{Entry}
use Rattle.elf_load.specs.MemoryImage.{MemoryImage}
use Rattle.shard.specs.Accesses.{caches_after_all, outcomes_of}
use Rattle.shard.specs.Laws.{flat_after_all, flat_replies}
use Rattle.shard.specs.Served.{ShardState}
use Rattle.shard.specs.StandsFor.{accesses_of}
use Rattle.bound_core.specs.History as history
use Rattle.bound_core.specs.MachineOfShards.{StandForMachine, begun_over_machine}
use Rattle.bound_core.specs.MachineWorld as machine
use Rattle.bound_core.specs.MachineWorld.{MachineWorld}
use Rattle.bound_core.specs.ReferenceMachine.{bound_phase}
use Rattle.bound_core.specs.ShardWorld.{begun_world, restarted, shards_serve}
use Rattle.bound_core.specs.TimedCore.{TimedCore}
use Rattle.bound_core.specs.NumberedCores.{NumberedCore, timed_of}
use Rattle.bound_phase.specs.Bounds.{IsBound}

-- who made the accesses
abbrev pub turns_of : List Entry → List ℕ
turns_of entries = map (λ e. e.core) entries

-- One flat memory and the caches of one machine serve these accesses, one after the other, and come from the first
-- world to the other.
pub record AreOfOneMemory (before after : MachineWorld) (entries : List Entry) : Type 0 where
  pub replies : map (λ e. e.reply) entries ≡ flat_replies before.memory (accesses_of entries)
  pub outcomes : map (λ e. e.outcome) entries ≡ outcomes_of before.caches (accesses_of entries)
  pub memory : after.memory ≡ flat_after_all before.memory (accesses_of entries)
  pub caches : after.caches ≡ caches_after_all before.caches (accesses_of entries)

module _ (time : Entry → ℕ) (image : MemoryImage) (end : ℕ) where
  -- The schedule of the entries is legal for the machine of one thread, and under it the machine makes these entries
  -- and leaves these cores. The shards stand for the memory and the caches that it leaves.
  pub record IsPhaseOfTheMachine (cores : List TimedCore) (m : MachineWorld) (cores_after : List TimedCore) (shards_after : List ShardState) (entries : List Entry) : Type 0 where
    pub world : MachineWorld
    pub phase : bound_phase machine.serve time image end (turns_of entries) (begun_over_machine cores m) ≡ Ok (record { cores = cores_after; world = world; entries = entries })
    pub served : AreOfOneMemory m world entries
    -- the latest stamp of each core
    pub stamps : List ℕ
    pub stand : StandForMachine cores_after (record { shards = shards_after; stamps = stamps }) world

  -- Whoever ran the cores, and however their accesses crossed: where cores and shards stood for the machine of one
  -- thread, what they did is its bound phase.
  abbrev pub BoundsAreOfTheMachine : Type 0
  BoundsAreOfTheMachine = (cores : List NumberedCore) (shards : List ShardState) (cores_after : List NumberedCore) (shards_after : List ShardState) (entries : List Entry) (m : MachineWorld)
      → IsBound time image end cores shards cores_after shards_after entries
      → StandForMachine (timed_of cores) (begun_world (length (timed_of cores)) (map restarted shards)) m
      → IsPhaseOfTheMachine (timed_of cores) m (timed_of cores_after) shards_after entries

  -- So it is over the shards, whatever they stand for.
  abbrev pub BoundsArePhases : Type 0
  BoundsArePhases = (cores : List NumberedCore) (shards : List ShardState) (cores_after : List NumberedCore) (shards_after : List ShardState) (entries : List Entry)
      → IsBound time image end cores shards cores_after shards_after entries
      → (stamps : List ℕ)
      × (bound_phase shards_serve time image end (turns_of entries) (history.begun_over_shards (timed_of cores) (map restarted shards))
      ≡ Ok (record { cores = timed_of cores_after; world = record { shards = shards_after; stamps = stamps }; entries = entries }))
