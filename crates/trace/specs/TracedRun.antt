-- A run between two intervals that is traced.
use Rattle.std.specs.Prelude.{◌≡◌, ℕ, List, [], replicate}
use Rattle.zs_num.specs.declared.entry.Entry.{Entry}
use Rattle.elf_load.specs.MemoryImage.{MemoryImage}
use Rattle.machine_desc.specs.declared.machine.Machine.{Machine}
use Rattle.event_graph.specs.declared.event.Event.{Event}
use Rattle.event_graph.specs.declared.fired.Fired.{Fired}
use Rattle.bound_records.specs.Recorders.{core_room}
use Rattle.reference.specs.ReferenceRun.{RunState}
use Rattle.run.specs.IntervalWeave.{HaveFired}
use Rattle.run.specs.Simulation.{HasNextInterval, HasRoomForInterval, IsBoundPhase}
use Rattle.run.specs.declared.simulation.Simulation.{Simulation}
use Rattle.trace.specs.declared.traced_run.TracedRun.{TracedRun}

-- It has come as far as this run, which has recorded nothing in the next interval.
abbrev pub as_run : Machine → TracedRun → Simulation
as_run machine p = record {
  cores = p.cores;
  recorder = record { world = p.port.world; lists = replicate machine.cores []; begin = 0; base = machine.memory.base; room = core_room machine };
  comps = p.comps;
  counters = p.counters;
}

-- The run has the bound phase of its next interval behind it, under these turns and with these entries.
pub record HasBounded (machine : Machine) (image : MemoryImage) (s : RunState) (turns : List ℕ) (p : Simulation) (entries : List Entry) : Type 0 where
  pub end : ℕ
  pub before : Simulation
  pub goes_on : HasNextInterval machine end s before
  pub room : HasRoomForInterval machine end before
  pub bounded : IsBoundPhase machine image end before turns p entries
  pub comps : p.comps ≡ before.comps
  pub counters : p.counters ≡ before.counters

-- The run has the bound phase of its next interval behind it, under these turns and with these entries, and the events
-- of these have fired.
pub record HasFired (machine : Machine) (image : MemoryImage) (s : RunState) (turns : List ℕ) (p : Simulation) (entries : List Entry) (graph : List Event) (fired : List Fired) : Type 0 where
  pub end : ℕ
  pub before : Simulation
  pub goes_on : HasNextInterval machine end s before
  pub bounded : IsBoundPhase machine image end before turns p entries
  pub woven : HaveFired machine before.comps entries graph fired p.comps
  pub counters : p.counters ≡ before.counters
