-- A run between two intervals as the code keeps it: its shards stand for memory and the caches, and its counts for the
-- intervals, which it does not keep.
use Rattle.std.specs.Prelude.{◌≡◌, ℕ, ◌+◌, ◌*◌, ◌^◌, ◌<◌, ◌≤◌, false, List, [], ◌∷◌, ◌++◌, length, map, slice_get, Option, None, Some, Ok, All, IfSome}
use Rattle.zs_num.specs.declared.entry.Entry.{Entry}
use Rattle.elf_load.specs.MemoryImage.{MemoryImage}
use Rattle.machine_desc.specs.declared.machine.Machine.{Machine}
use Rattle.machine_desc.specs.Components.{component_count}
use Rattle.component.specs.declared.comp.Comp.{Comp}
use Rattle.component.specs.ComponentStep.{free_of}
use Rattle.component.specs.Components.{AreComponents, AreFresh}
use Rattle.bound_core.specs.History.{begun_over_shards}
use Rattle.bound_core.specs.MachineOfShards.{StandForMachine}
use Rattle.bound_core.specs.ReferenceMachine.{BoundState, bound_phase}
use Rattle.bound_core.specs.ShardPort.{AreShardsOf, base_of, l1i_of, size_of}
use Rattle.bound_core.specs.ShardWorld.{ShardWorld, begun_world, restarted, shards_serve}
use Rattle.bound_core.specs.TimedCore.{TimedCore}
use Rattle.bound_core.specs.NumberedCores.{NumberedCore, timed_of}
use Rattle.bound_core.specs.Turn.{IsOver}
use Rattle.access_log.specs.RecordedOrder.{recorded_order}
use Rattle.stats.specs.Counts.{counts_of, total_accesses, total_events}
use Rattle.stats.specs.Laws.{WasRun}
use Rattle.bound_records.specs.CoreRuns.{AreNumbered, CanRunInterval}
use Rattle.access_record.specs.declared.turns.Turns.{Turns}
use Rattle.access_record.specs.declared.turns.Turns.TheVariants.{CoreByCore, Listed}
use Rattle.bound_records.specs.Recorders.{AreStampedInTurn, IsRecorderFor, RecorderState, entries_of}
use Rattle.run.specs.declared.recording.Recording.{Recording}
use Rattle.run.specs.declared.simulation.Simulation.{Simulation}
use Rattle.run.specs.Records.{IsRecorded, accesses_in, taken_by}
use Rattle.run.specs.Recording.{IsRecordingOf}
use Rattle.reference.specs.ReferenceRun.{RunState, access_room, after_interval, end_of, first_state, has_ended, recorded_turns, time_of, world_of, woven_interval}

-- ---- cores and shards

-- the cores of a run in time
abbrev pub cores_of : Simulation → List TimedCore
cores_of p = timed_of p.cores.items

-- the shards before the first access of an interval
abbrev pub begun_shards : Machine → Simulation → ShardWorld
begun_shards machine p = begun_world machine.cores (map restarted p.recorder.world.shards)

-- ---- between two intervals

-- the sums of a run
pub record IsCounted (machine : Machine) (s : RunState) : Type 0 where
  pub components : AreComponents machine s.comps
  pub within : length s.intervals ≤ machine.intervals
  pub accesses : total_accesses s.intervals ≤ 2 ^ 26
  pub events : total_events s.intervals ≤ 60 * total_accesses s.intervals
  pub were_run : All WasRun s.intervals

-- The code has come to this point of a run. Its cores have come to the end of the last interval.
pub record StandsFor (machine : Machine) (s : RunState) (p : Simulation) : Type 0 where
  pub cores : s.cores ≡ cores_of p
  pub count : length s.cores ≡ machine.cores
  pub numbered : AreNumbered p.cores.items
  pub stamps : IsRecorderFor machine p.recorder
  pub banks : length p.recorder.world.shards ≡ machine.l2.banks
  pub placed : AreShardsOf machine.cores p.recorder.world.shards machine.memory.base machine.memory.size
  pub stand : StandForMachine s.cores (begun_shards machine p) (world_of machine s)
  pub comps : p.comps ≡ s.comps
  pub counters : p.counters ≡ counts_of machine.cores s.comps s.intervals
  pub over : All (IsOver (length s.intervals * machine.interval)) s.cores
  pub counted : IsCounted machine s

-- no instruction was executed, and the components are fresh
abbrev pub IsAtStart : Machine → MemoryImage → Simulation → Type 0
IsAtStart machine image p = (comps : List Comp) × AreFresh machine comps × StandsFor machine (first_state machine image comps) p

-- the run goes on with an interval that ends then
pub record HasNextInterval (machine : Machine) (end : ℕ) (s : RunState) (p : Simulation) : Type 0 where
  pub come : StandsFor machine s p
  pub on : has_ended machine s ≡ false
  pub ends : end ≡ end_of machine s

-- ---- an interval

-- what an interval asks of the numbers of a run that goes on
pub record HasRoomForInterval (machine : Machine) (end : ℕ) (p : Simulation) : Type 0 where
  pub ready : (i : ℕ) (c : NumberedCore) → slice_get p.cores.items i ≡ Some c → CanRunInterval machine end (base_of (begun_shards machine p)) (size_of (begun_shards machine p)) (l1i_of (begun_shards machine p)) c.timed
  pub count : length p.cores.items ≡ machine.cores
  pub numbered : AreNumbered p.cores.items
  pub stamps : IsRecorderFor machine p.recorder
  pub shards : AreShardsOf machine.cores p.recorder.world.shards machine.memory.base machine.memory.size
  pub banks : length p.recorder.world.shards ≡ machine.l2.banks
  pub free : All (λ c. free_of c ≤ 2 ^ 56) p.comps
  pub components : AreComponents machine p.comps
  pub cores : length p.counters.core_counts ≡ machine.cores
  pub comps : length p.counters.comp_counts ≡ component_count machine

-- The bound phase of an interval under these turns, from one point of the code to another. The last stamps of the
-- shards are not kept.
pub record IsBoundPhase (machine : Machine) (image : MemoryImage) (end : ℕ) (before : Simulation) (turns : List ℕ) (after : Simulation) (entries : List Entry) : Type 0 where
  -- what it comes to
  pub left : BoundState ShardWorld
  pub phase : bound_phase shards_serve (time_of machine) image end turns (begun_over_shards (cores_of before) (map restarted before.recorder.world.shards)) ≡ Ok left
  pub cores_are : cores_of after ≡ left.cores
  pub shards_are : map restarted after.recorder.world.shards ≡ map restarted left.world.shards
  pub in_order : entries ≡ recorded_order left.entries
  pub cores : All (λ e. e.core < machine.cores) entries
  pub starts : All (λ e. e.start ≤ 2 ^ 34) entries
  pub few : length entries ≤ access_room machine
  pub clocks : All (λ c. c.clock ≤ 2 ^ 57) (cores_of after)
  pub count : length after.cores.items ≡ machine.cores
  pub numbered : AreNumbered after.cores.items
  pub over : All (IsOver end) (cores_of after)
  pub stamps : IsRecorderFor machine after.recorder

-- the turns of a list, where there is one
abbrev pub listed : Turns → Option (List ℕ)
listed CoreByCore = None
listed (Listed turns) = Some turns.now

-- The run has the bound phase of its next interval behind it, which is recorded. The cores ran by the turns of a list,
-- or one after the other where there is none.
pub record HasRecorded (machine : Machine) (image : MemoryImage) (end : ℕ) (before : Simulation) (turns : Option (List ℕ)) (after : Simulation) : Type 0 where
  pub bounded : IsBoundPhase machine image end before (map (λ e. e.core) (taken_by turns after.recorder)) after (accesses_in after.recorder)
  pub named : IfSome turns (λ cores. cores ≡ map (λ e. e.core) (taken_by turns after.recorder))
  pub in_turn : AreStampedInTurn (taken_by turns after.recorder) after.recorder
  pub recorded : IsRecorded machine after.recorder
  pub comps : after.comps ≡ before.comps
  pub counters : after.counters ≡ before.counters

-- an interval under these turns leads on from there
pub record LeadsTo (machine : Machine) (image : MemoryImage) (s : RunState) (turns : List ℕ) (p : Simulation) : Type 0 where
  pub state : RunState
  pub after : after_interval machine image s turns ≡ Ok state
  -- its accesses, in recorded order
  pub entries : List Entry
  pub recorded : map recorded_turns state.intervals ≡ map recorded_turns s.intervals ++ map (λ e. e.core) entries ∷ []
  pub longer : length state.intervals ≡ length s.intervals + 1
  -- the interval is the weave of these
  pub gained : state.intervals ≡ s.intervals ++ woven_interval machine s.comps entries ∷ []
  pub come : StandsFor machine state p

-- The run is an interval further, under the turns of its accesses in recorded order, and so is its recording.
pub record HasGoneOn (machine : Machine) (image : MemoryImage) (s : RunState) (turns : List ℕ) (recording later : Recording) (p : Simulation) : Type 0 where
  pub leads : LeadsTo machine image s turns p
  pub in_order : turns ≡ map (λ e. e.core) leads.entries
  pub recorded : IsRecordingOf machine s.intervals recording → IsRecordingOf machine leads.state.intervals later
