-- A history in recorded order is a run of the machine of one thread.
use Rattle.std.proofs.Common.{◌≡◌, ℕ, List, map, length, Ok, Err, Result, refl, sym, ◌∙◌, ap, subst}
use Rattle.zs_num.specs.declared.entry.Entry.{Entry}
use Rattle.elf_load.specs.MemoryImage.{MemoryImage}
use Rattle.shard.specs.Served.{ShardState}
use Rattle.access_log.specs.RecordedOrder.{recorded_order}
use Rattle.reference.specs.History.{IsHistory, after_history}
use Rattle.reference.specs.History as history
use Rattle.reference.specs.HistoryLaws.{HistoriesArePhases, RecordedOrderIsHistory}
use Rattle.reference.specs.MachineOfShards.{IsRunOfTheMachine, ShardsDoAsTheMachine, StandForMachine, begun_over_machine}
use Rattle.reference.specs.MachineWorld as machine
use Rattle.reference.specs.MachineWorld.{MachineWorld}
use Rattle.reference.specs.ReferenceMachine.{BoundState, bound_phase}
use Rattle.reference.specs.ShardWorld.{ShardWorld, begun_world}
use Rattle.reference.specs.Correspondence.{AreRelated, EndAlike}
use Rattle.reference.specs.TimedCore.{TimedCore}

-- what ends like a legal bound phase is legal
legal_alike : (s : BoundState ShardWorld) (r : Result (BoundState MachineWorld) ℕ) → EndAlike StandForMachine (Ok s) r → (t : BoundState MachineWorld) × (r ≡ Ok t) × AreRelated StandForMachine s t
legal_alike s (Ok t) alike = (t, refl, alike)
legal_alike s (Err place) alike = absurd alike

module _ (time : Entry → ℕ) (image : MemoryImage) (end : ℕ) (phases : HistoriesArePhases time image end) (sorted : RecordedOrderIsHistory time image end) (same : ShardsDoAsTheMachine time image end) where
  pub run_of_machine : (cores : List TimedCore) (shards : List ShardState) (entries : List Entry) (m : MachineWorld)
      → IsHistory time image end cores shards entries → StandForMachine cores (begun_world (length cores) shards) m → IsRunOfTheMachine time image end cores shards entries m
  run_of_machine cores shards entries m h stand =
      let order : List Entry = recorded_order entries in
      let recorded = sorted cores shards entries h in
      let left : BoundState ShardWorld = after_history time image end cores shards order in
      let numbers : List ℕ = map (λ (e : Entry). e.core) order in
      let first : AreRelated StandForMachine (history.begun_over_shards cores shards) (begun_over_machine cores m) = record { cores = refl; entries = refl; worlds = stand } in
      let alike = same (history.begun_over_shards cores shards) (begun_over_machine cores m) first numbers 0 in
      let legal = legal_alike left (bound_phase machine.serve time image end numbers (begun_over_machine cores m))
      (subst (λ (o : Result (BoundState ShardWorld) ℕ). EndAlike StandForMachine o (bound_phase machine.serve time image end numbers (begun_over_machine cores m))) (phases cores shards order recorded.0) alike) in
      let world : left.world ≡ (after_history time image end cores shards entries).world = ap (λ (b : BoundState ShardWorld). b.world) recorded.1 in
      let cores_are : legal.0.cores ≡ left.cores = legal.2.cores in
      record {
        left = legal.0;
        phase = legal.1;
        cores_are = cores_are ∙ ap (λ (b : BoundState ShardWorld). b.cores) recorded.1;
        entries_are = legal.2.entries;
        stand = subst (λ (w : ShardWorld). StandForMachine legal.0.cores w legal.0.world) world
            (subst (λ (cs : List TimedCore). StandForMachine cs left.world legal.0.world) (sym cores_are) legal.2.worlds);
      }
