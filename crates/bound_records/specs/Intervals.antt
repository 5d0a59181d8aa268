-- The bound phase of an interval, and what is kept of its accesses.
use Rattle.std.specs.Prelude.{◌≡◌, ℕ, ◌-◌, ◌*◌, ◌^◌, ◌<◌, ◌≤◌, List, length, map, slice_get, Some, Ok, All}
use Rattle.zs_num.specs.declared.entry.Entry.{Entry}
use Rattle.elf_load.specs.MemoryImage.{MemoryImage}
use Rattle.machine_desc.specs.declared.machine.Machine.{Machine}
use Rattle.event_graph.specs.AccessPaths.{path_of}
use Rattle.event_graph.specs.EventGraph.{all_events}
use Rattle.noc_mesh.specs.NetTiming.{net_pieces}
use Rattle.access_log.specs.History.{of_core}
use Rattle.access_log.specs.RecordedOrder.{recorded_order}
use Rattle.access_record.specs.Records.{IsInReach}
use Rattle.bound_core.specs.History.{begun_over_shards}
use Rattle.bound_core.specs.ReferenceMachine.{bound_phase}
use Rattle.bound_core.specs.ShardPort.{base_of, l1i_of, size_of}
use Rattle.bound_core.specs.ShardWorld.{ShardWorld, begun_world, restarted, shards_serve}
use Rattle.bound_core.specs.NumberedCores.{NumberedCore, timed_of}
use Rattle.bound_core.specs.Turn.{IsOver}
use Rattle.weave_chains.specs.Listed.{one_after_other}
use Rattle.weave_chains.specs.Rounds.{AreChained}
use Rattle.weave_chains.specs.Woven.{AreOrdered}
use Rattle.bound_records.specs.CoreRuns.{AreNumbered, CanRunInterval, access_time_of}
use Rattle.bound_records.specs.declared.turns_fail.TurnsFail.{TurnsFail}
use Rattle.bound_records.specs.declared.turns_fail.TurnsFail.TheVariants as turns_fail
use Rattle.bound_records.specs.Recorders.{AreStampedInTurn, IsRecorderFor, RecorderState, core_room, entries_of, kept_lists, recorded_kept}

-- caches and memory before the first access of an interval
abbrev pub begun : Machine → RecorderState → ShardWorld
begun machine r = begun_world machine.cores (map restarted r.world.shards)

-- of the place that is not legal
abbrev pub IfIllegalTurn : TurnsFail → ((place : ℕ) → Type 0) → Type 0
IfIllegalTurn (turns_fail.Illegal place) P = P place
IfIllegalTurn turns_fail.NoMemory P = Unit {0}

-- each core can run the interval that ends then
abbrev pub CanAllRun : Machine → (end : ℕ) → List NumberedCore → RecorderState → Type 0
CanAllRun machine end cores r = (i : ℕ) (c : NumberedCore) → slice_get cores i ≡ Some c → CanRunInterval machine end (base_of (begun machine r)) (size_of (begun machine r)) (l1i_of (begun machine r)) c.timed

-- All cores have run to the end of the interval, by these turns, which took the accesses in this order.
pub record HaveRun (machine : Machine) (image : MemoryImage) (end : ℕ) (turns : List ℕ) (taken : List Entry) (cores after : List NumberedCore) (r r_after : RecorderState) : Type 0 where
  -- caches and memory with their last stamps, which need not be kept
  pub left : ShardWorld
  -- it is the bound phase of the interval
  pub phase : bound_phase shards_serve (access_time_of machine) image end turns (begun_over_shards (timed_of cores) (map restarted r.world.shards)) ≡ Ok (record { cores = timed_of after; world = left; entries = taken })
  pub same : map restarted left.shards ≡ map restarted r_after.world.shards
  pub turns_are : turns ≡ map (λ e. e.core) taken
  pub in_turn : AreStampedInTurn taken r_after
  -- in recorded order they are those of the cores, one after the other
  pub in_order : recorded_order taken ≡ recorded_order (entries_of r_after)
  -- each core has its own there, in its order
  pub own : (core : ℕ) (entries : List Entry) → slice_get r_after.lists core ≡ Some entries → of_core core (recorded_order (entries_of r_after)) ≡ entries
  pub known : All (λ e. e.core < machine.cores) (entries_of r_after)
  pub starts : All (λ e. e.start ≤ 2 ^ 34) (entries_of r_after)
  pub few : length (entries_of r_after) ≤ machine.cores * core_room machine
  -- their records give back their events
  pub reach : All (IsInReach r_after.begin r_after.base) (entries_of r_after)
  pub count : length after ≡ machine.cores
  pub numbered : AreNumbered after
  pub over : All (IsOver end) (timed_of after)
  pub clocks : All (λ c. c.clock ≤ 2 ^ 57) (timed_of after)
  pub recorder : IsRecorderFor machine r_after
  pub begins : r_after.begin ≡ end - machine.interval
  pub banks : length r_after.world.shards ≡ length r.world.shards

-- What the weave can take of it: the accesses that make events, as their records give them back.
pub record AreKept (machine : Machine) (r : RecorderState) : Type 0 where
  -- each core has its own, and their events are chains
  pub chained : AreChained (net_pieces (path_of machine)) (kept_lists r)
  pub many : length (kept_lists r) ≡ machine.cores
  pub cores : All (λ e. e.core < machine.cores) (one_after_other (kept_lists r))
  pub starts : All (λ e. e.start ≤ 2 ^ 34) (one_after_other (kept_lists r))
  pub few : length (one_after_other (kept_lists r)) ≤ machine.cores * core_room machine
  -- in recorded order each core has the same ones
  pub ordered : AreOrdered (net_pieces (path_of machine)) (one_after_other (kept_lists r)) (recorded_kept r)
  pub recorded_cores : All (λ e. e.core < machine.cores) (recorded_kept r)
  pub recorded_starts : All (λ e. e.start ≤ 2 ^ 34) (recorded_kept r)
  pub recorded_few : length (recorded_kept r) ≤ length (entries_of r)
  -- and the events of these are those of the interval
  pub events : all_events (net_pieces (path_of machine)) (recorded_kept r) ≡ all_events (net_pieces (path_of machine)) (recorded_order (entries_of r))
