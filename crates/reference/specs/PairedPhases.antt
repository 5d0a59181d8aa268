-- That store-conditionals say rightly whether they are paired, whichever cores make them.
use Rattle.std.specs.Prelude.{◌≡◌, ℕ, List, All, Ok}
use Rattle.zs_num.specs.PairedRight.{AreAllPairedRight, pairings_after_all}
use Rattle.zs_num.specs.declared.entry.Entry.{Entry}
use Rattle.elf_load.specs.MemoryImage.{MemoryImage}
use Rattle.rv_core.specs.Sound.{IsSoundCore}
use Rattle.shard.specs.Served.{ShardState}
use Rattle.shard.specs.StandsFor.{accesses_of}
use Rattle.reference.specs.History.{IsHistory, after_history}
use Rattle.reference.specs.MachineOfShards.{begun_over_machine, pairings_of}
use Rattle.reference.specs.MachineWorld as machine
use Rattle.reference.specs.MachineWorld.{MachineWorld}
use Rattle.reference.specs.ReferenceMachine.{BoundState, bound_phase}
use Rattle.reference.specs.TimedCore.{TimedCore}

abbrev pub AreSound : List TimedCore → Type 0
AreSound cores = All (λ c. IsSoundCore c.core) cores

-- The accesses of these entries, each with its core, are paired right from the pairings that the cores have before the
-- first of them, and leave the pairings that the cores have after the last.
pub record ArePaired (cores cores_after : List TimedCore) (entries : List Entry) : Type 0 where
  pub right : AreAllPairedRight (pairings_of cores) (accesses_of entries)
  pub left : pairings_of cores_after ≡ pairings_after_all (pairings_of cores) (accesses_of entries)

module _ (time : Entry → ℕ) (image : MemoryImage) (end : ℕ) where
  -- So are those of every legal bound phase of the machine of one thread, in the order of its turns.
  abbrev pub PhasesArePaired : Type 0
  PhasesArePaired = (cores : List TimedCore) (m : MachineWorld) (numbers : List ℕ) (s : BoundState MachineWorld) → AreSound cores
      → bound_phase machine.serve time image end numbers (begun_over_machine cores m) ≡ Ok s → ArePaired cores s.cores s.entries

  -- And so are those of every history of an interval, in whatever order its cores took their turns.
  abbrev pub HistoriesArePaired : Type 0
  HistoriesArePaired = (cores : List TimedCore) (shards : List ShardState) (entries : List Entry) → AreSound cores
      → IsHistory time image end cores shards entries → ArePaired cores (after_history time image end cores shards entries).cores entries
