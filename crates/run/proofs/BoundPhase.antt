-- The bound phase of an interval, in whatever order the cores took their turns.
use Rattle.std.proofs.Common.{◌≡◌, ℕ, ◌<◌, List, length, map, Ok, refl, sym, ◌∙◌, ap, subst, arith}
use Rattle.std.proofs.lemmas.List.{length-map}
use Rattle.std.proofs.lemmas.List.Elements.{All-map}
use Rattle.zs_num.specs.declared.entry.Entry.{Entry}
use Rattle.elf_load.specs.MemoryImage.{MemoryImage}
use Rattle.machine_desc.specs.declared.machine.Machine.{Machine}
use Rattle.shard.specs.Served.{ShardState}
use Rattle.access_log.specs.Laws.{CoresDecideTheOrder, RecordedOrderKeepsTheStamps, StampsRise}
use Rattle.access_log.specs.RecordedOrder.{recorded_order}
use Rattle.bound_core.specs.History.{begun_over_shards}
use Rattle.bound_core.specs.HistoryLaws.{HistoriesArePhases, PhasesAreHistories, RecordedOrderIsHistory}
use Rattle.bound_core.specs.ReferenceMachine.{BoundState, bound_phase}
use Rattle.bound_core.specs.ShardWorld.{ShardWorld, restarted, shards_serve}
use Rattle.run.specs.declared.simulation.Simulation.{Simulation}
use Rattle.reference.specs.ReferenceRun.{time_of}
use Rattle.run.specs.Simulation.{IsBoundPhase, cores_of}
use Rattle.run.proofs.RecordedOrder.{recorded_again}

-- the laws of histories, and of the recorded order
pub record OrderLaws (time : Entry → ℕ) (image : MemoryImage) (end : ℕ) : Type 0 where
  pub histories : PhasesAreHistories time image end
  pub phases : HistoriesArePhases time image end
  pub recorded : RecordedOrderIsHistory time image end
  pub rise : StampsRise
  pub keep : RecordedOrderKeepsTheStamps
  pub decide : CoresDecideTheOrder

-- the turns in recorded order lead there too
pub in_recorded_order : (machine : Machine) (image : MemoryImage) (end : ℕ) (p q : Simulation) (turns : List ℕ) (entries : List Entry) → 0 < length p.recorder.world.shards
    → OrderLaws (time_of machine) image end → IsBoundPhase machine image end p turns q entries → IsBoundPhase machine image end p (map (λ e. e.core) entries) q entries
in_recorded_order machine image end p q turns entries some laws b =
    let cores = cores_of p in
    let shards = map restarted p.recorder.world.shards in
    let time = time_of machine in
    let some_shard : 0 < length shards = omega (arith, some, length-map p.recorder.world.shards restarted) in
    let taken : List Entry = b.left.entries in
    let found = laws.histories cores shards turns b.left some_shard (All-map (λ (shard : ShardState). shard.last ≡ 0) restarted p.recorder.world.shards (λ k d below. refl)) b.phase in
    let sorted = laws.recorded cores shards taken found.0 in
    let left : BoundState ShardWorld = record { cores = b.left.cores; world = b.left.world; entries = entries } in
    let phase : bound_phase shards_serve time image end (map (λ e. e.core) (recorded_order taken)) (begun_over_shards cores shards) ≡ Ok (record b.left { entries = recorded_order taken }) =
    laws.phases cores shards (recorded_order taken) sorted.0 ∙ ap Ok (sorted.1 ∙ ap (λ (s : BoundState ShardWorld). let t : BoundState ShardWorld = record { cores = s.cores; world = s.world; entries = recorded_order taken } in t) (sym found.2))
    in
    let again : recorded_order (recorded_order taken) ≡ recorded_order taken =
    recorded_again laws.rise laws.keep laws.decide (length shards) (length cores) taken found.0.some found.0.known found.0.stamped
    in
    record {
      left = left;
      phase = subst (λ (es : List Entry). bound_phase shards_serve time image end (map (λ e. e.core) es) (begun_over_shards cores shards) ≡ Ok (let t : BoundState ShardWorld = record { cores = b.left.cores; world = b.left.world; entries = es } in t)) (sym b.in_order) phase;
      cores_are = b.cores_are;
      shards_are = b.shards_are;
      in_order = b.in_order ∙ sym again ∙ ap recorded_order (sym b.in_order);
      cores = b.cores;
      starts = b.starts;
      few = b.few;
      clocks = b.clocks;
      count = b.count;
      numbered = b.numbered;
      over = b.over;
      stamps = b.stamps;
    }
