-- The events of a run, and their file.
use Rattle.std.specs.Prelude.{◌≡◌, ℕ, ◌^◌, List, map, Ok}
use Rattle.elf_load.specs.MemoryImage.{MemoryImage}
use Rattle.machine_desc.specs.declared.machine.Machine.{Machine}
use Rattle.machine_desc.specs.Components.{component_count}
use Rattle.component.specs.declared.comp.Comp.{Comp}
use Rattle.component.specs.Components.{AreFresh}
use Rattle.event_graph.specs.OneListWeave.{FiredEvent}
use Rattle.stats.specs.Counts.{Interval}
use Rattle.certify.specs.EventsFile.{events_file_of, with_times}
use Rattle.reference.specs.ReferenceRun.{RunState, after_intervals, first_state}

-- the most bytes of the events file of a run
abbrev pub events_limit : ℕ
events_limit = 2 ^ 28

-- the events of an interval in order of number, as they fired
abbrev pub timed_events : Interval → List FiredEvent
timed_events interval = with_times interval.events interval.fired

-- the events file of a run on this machine that had these intervals
abbrev pub events_file_of_run : Machine → List Interval → List ℕ
events_file_of_run machine intervals = events_file_of (component_count machine) (map timed_events intervals)

-- These bytes are the events file of the run of an image under a schedule that is legal for it.
pub record IsEventsFileOf (machine : Machine) (image : MemoryImage) (lists : List (List ℕ)) (bytes : List ℕ) : Type 0 where
  pub comps : List Comp
  pub fresh : AreFresh machine comps
  pub state : RunState
  pub reached : after_intervals machine image (first_state machine image comps) lists ≡ Ok state
  pub file : bytes ≡ events_file_of_run machine state.intervals
