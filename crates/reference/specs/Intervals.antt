-- Cores and shards stand for the machine of one thread from interval to interval.
use Rattle.std.specs.Prelude.{◌≡◌, List, length, map}
use Rattle.std.specs.List.{range_with_len}
use Rattle.elf_load.specs.MemoryImage.{MemoryImage}
use Rattle.elf_load.specs.SoundImage.{IsSoundImage}
use Rattle.machine_desc.specs.Machine.{IsMachine}
use Rattle.machine_desc.specs.declared.machine.Machine.{Machine}
use Rattle.shard.specs.StandsFor.{new_shards}
use Rattle.access_log.specs.RecordedOrder.{no_stamps}
use Rattle.reference.specs.MachineOfShards.{StandForMachine}
use Rattle.reference.specs.MachineWorld.{MachineWorld, first_world}
use Rattle.reference.specs.ShardWorld.{ShardWorld, begun_world, restarted}
use Rattle.reference.specs.TimedCore.{TimedCore, first_core}

-- A machine's cores and new shards stand for its first world, where memory is that of an image that can be loaded.
abbrev pub FirstIntervalBegins : Type 0
FirstIntervalBegins = (machine : Machine) (image : MemoryImage) → IsMachine machine → IsSoundImage image → image.base ≡ machine.memory.base → image.size ≡ machine.memory.size
    → StandForMachine (map (first_core machine image) (range_with_len 0 machine.cores)) (begun_world machine.cores (new_shards machine image)) (first_world machine image)

-- Between two intervals all last stamps become 0 again, and clocks may move on: the cores' own states are as they were.
abbrev pub NextIntervalBegins : Type 0
NextIntervalBegins = (cores later : List TimedCore) (w : ShardWorld) (m : MachineWorld) → StandForMachine cores w m → map (λ c. c.core) later ≡ map (λ c. c.core) cores
    → StandForMachine later (begun_world (length later) (map restarted w.shards)) (record m { stamps = no_stamps (length w.shards) (length later) })
