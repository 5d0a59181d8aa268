-- The run of the machine of one thread under a schedule, which has a list of turns for each interval. An interval is
-- its bound phase, the weave of the events that were recorded in it, and the feedback of what the cores waited.
use Rattle.std.specs.Prelude.{◌≡◌, ℕ, ◌+◌, ◌*◌, ◌==◌, nat_lt, Bool, ◌||◌, not, if◌then◌else◌, List, [], ◌∷◌, ◌++◌, length, map, slice_index, is_some, Result, Ok, Err}
use Rattle.std.specs.List.{enumerate_from, list_all, list_any, range_with_len}
use Rattle.zs_num.specs.declared.entry.Entry.{Entry}
use Rattle.elf_load.specs.MemoryImage.{MemoryImage}
use Rattle.machine_desc.specs.declared.machine.Machine.{Machine}
use Rattle.component.specs.declared.comp.Comp.{Comp}
use Rattle.component.specs.ComponentStep.{comp_step, free_of}
use Rattle.component.specs.Components.{AreFresh}
use Rattle.event_graph.specs.EventGraph.{all_events}
use Rattle.event_graph.specs.OneListWeave.{comps_after, fired_of, woven}
use Rattle.event_graph.specs.AccessPaths.{path_of}
use Rattle.noc_mesh.specs.NetTiming.{net_pieces, net_time}
use Rattle.feedback.specs.FeedbackDelay.{feedback_delays}
use Rattle.stats.specs.Counts.{Interval, counts_of, total_accesses}
use Rattle.reference.specs.Limits.{access_limit, cycle_limit}
use Rattle.reference.specs.ReferenceMachine.{BoundState, bound_phase}
use Rattle.reference.specs.TimedCore.{TimedCore, beside_cycles, delayed, first_core}
use Rattle.reference.specs.MachineWorld.{MachineWorld, first_world, serve}
use Rattle.flat_memory.specs.FlatMemory.{MemoryState}
use Rattle.shard.specs.Coherence.{Caches}
use Rattle.access_log.specs.RecordedOrder.{no_stamps, recorded_order}
use Rattle.reference.specs.Results.{Results}

-- a run between two intervals
pub record RunState : Type 0 where
  -- in order of their numbers
  pub cores : List TimedCore
  pub memory : MemoryState
  -- the cache lists of the whole machine
  pub caches : Caches
  -- the banks, the controllers and the links, in order of their numbers
  pub comps : List Comp
  -- the intervals that were run
  pub intervals : List Interval

-- the time of an access where nothing else runs, by what it asked and how it was met
abbrev pub time_of : Machine → Entry → ℕ
time_of machine e = net_time (path_of machine) e

-- An interval as it is recorded, from the components before it and its accesses: the events of these, the one-list
-- weave of the events, and the delay of each core.
unfoldable pub woven_interval : Machine → List Comp → List Entry → Interval
woven_interval machine comps entries =
    let events = all_events (net_pieces (path_of machine)) entries in
    let fired = map fired_of (woven comp_step events comps) in
    record { entries = entries; events = events; fired = fired; delays = feedback_delays events fired machine.cores }

-- each core waited for as long as the delay of its number
abbrev pub all_delayed : List ℕ → List TimedCore → List TimedCore
all_delayed delays cores = map (λ at. delayed (slice_index delays at.0) at.1) (enumerate_from 0 cores)

-- After the weave and the feedback of an interval with this bound phase. The weave takes the accesses in recorded
-- order, whatever the order of the turns.
unfoldable pub after_weave : Machine → RunState → BoundState MachineWorld → RunState
after_weave machine s b = let interval = woven_interval machine s.comps (recorded_order b.entries) in record {
  cores = all_delayed interval.delays b.cores;
  memory = b.world.memory;
  caches = b.world.caches;
  comps = comps_after comp_step interval.events s.comps;
  intervals = s.intervals ++ interval ∷ [];
}

-- what serves the accesses of the next interval, before the first of them
abbrev pub world_of : Machine → RunState → MachineWorld
world_of machine s = record { memory = s.memory; caches = s.caches; stamps = no_stamps machine.l2.banks machine.cores }

-- the bound phase of the next interval begins without an access
abbrev pub begun_interval : Machine → RunState → BoundState MachineWorld
begun_interval machine s = record { cores = s.cores; world = world_of machine s; entries = [] }

-- interval k, from 0, ends at (k + 1) times its length
abbrev pub end_of : Machine → RunState → ℕ
end_of machine s = (length s.intervals + 1) * machine.interval

-- a place of a schedule that is not legal
pub record Illegal : Type 0 where
  pub interval : ℕ
  pub place : ℕ

-- after the weave of a bound phase, or where its list is not legal
abbrev pub woven_after : Machine → RunState → Result (BoundState MachineWorld) ℕ → Result RunState Illegal
woven_after machine s (Ok b) = Ok (after_weave machine s b)
woven_after machine s (Err place) = Err (record { interval = length s.intervals; place = place })

-- after one more interval under a list of turns, or the first place of the list that is not legal for it
abbrev pub after_interval : Machine → MemoryImage → RunState → List ℕ → Result RunState Illegal
after_interval machine image s turns =
    woven_after machine s (bound_phase serve (time_of machine) image (end_of machine s) turns (begun_interval machine s))

-- The room for the accesses of an interval: for each core one a cycle, and those beside.
abbrev pub access_room : Machine → ℕ
access_room machine = machine.cores * (machine.interval + beside_cycles)

-- Whether one of the limits is reached: of intervals; of accesses, with the room for one more interval's; of cycles, by
-- a clock or by a component.
unfoldable pub at_limit : Machine → (intervals accesses : ℕ) → List TimedCore → List Comp → Bool
at_limit machine intervals accesses cores comps =
    intervals == machine.intervals
    || nat_lt access_limit (accesses + access_room machine)
    || list_any (λ c. nat_lt cycle_limit c.clock) cores
    || list_any (λ c. nat_lt cycle_limit (free_of c)) comps

-- whether every core has halted
abbrev pub have_halted : List TimedCore → Bool
have_halted cores = list_all (λ c. is_some c.core.halted) cores

-- whether a run that has come so far has ended: every core has halted, or a limit is reached
abbrev pub has_ended_at : Machine → (intervals accesses : ℕ) → List TimedCore → List Comp → Bool
has_ended_at machine intervals accesses cores comps = have_halted cores || at_limit machine intervals accesses cores comps

-- whether the run has no next interval
abbrev pub has_ended : Machine → RunState → Bool
has_ended machine s = has_ended_at machine (length s.intervals) (total_accesses s.intervals) s.cores s.comps

-- what follows, unless a place was not legal
abbrev pub continued : {A B : Type 0} → (A → Result B Illegal) → Result A Illegal → Result B Illegal
continued f (Ok x) = f x
continued f (Err illegal) = Err illegal

-- the place with which the list of a run's next interval begins
abbrev pub next_place : RunState → Illegal
next_place s = record { interval = length s.intervals; place = 0 }

-- The run after the intervals of a schedule, or the first place that is not legal: of a list that is not legal for its
-- interval, or of one behind the end of the run.
abbrev pub after_intervals : Machine → MemoryImage → RunState → List (List ℕ) → Result RunState Illegal
after_intervals machine image s [] = Ok s
after_intervals machine image s (turns ∷ lists) =
    if has_ended machine s
    then Err (next_place s)
    else continued (λ t. after_intervals machine image t lists) (after_interval machine image s turns)

-- a run before its first interval
abbrev pub first_state : Machine → MemoryImage → List Comp → RunState
first_state machine image comps = let world = first_world machine image in record {
  cores = map (first_core machine image) (range_with_len 0 machine.cores);
  memory = world.memory;
  caches = world.caches;
  comps = comps;
  intervals = [];
}

-- what the run gives where it ends
abbrev pub run_results : Machine → RunState → Results
run_results machine s = record {
  cores = s.cores;
  numbers = range_with_len 0 machine.cores;
  counts = counts_of machine.cores s.comps s.intervals;
  intervals = length s.intervals;
  limit = not (have_halted s.cores);
}

-- what the run gives that has ended, or the place that is missing where it goes on
abbrev pub results_at : Machine → RunState → Result Results Illegal
results_at machine s = if has_ended machine s then Ok (run_results machine s) else Err (next_place s)

-- The run of an image under a schedule, from these components, or the first place of the schedule that is not legal for
-- it: of a list that is not legal for its interval, or where there are not as many lists as intervals.
abbrev pub reference_run : Machine → MemoryImage → List Comp → List (List ℕ) → Result Results Illegal
reference_run machine image comps lists =
    continued (results_at machine) (after_intervals machine image (first_state machine image comps) lists)

-- What the run of an image under a schedule gives, from the machine's components before their first event. There is one
-- list of these (`fresh_components_are_there` and `fresh_components_are_one` of component's laws).
pub record IsRunOf (machine : Machine) (image : MemoryImage) (lists : List (List ℕ)) (results : Results) : Type 0 where
  pub comps : List Comp
  pub fresh : AreFresh machine comps
  pub gives : reference_run machine image comps lists ≡ Ok results

-- The schedule is not legal for the run of an image, and this is the first place that is not.
pub record IsIllegalAt (machine : Machine) (image : MemoryImage) (lists : List (List ℕ)) (illegal : Illegal) : Type 0 where
  pub comps : List Comp
  pub fresh : AreFresh machine comps
  pub gives : reference_run machine image comps lists ≡ Err illegal

-- the cores of an interval's accesses, in recorded order
abbrev pub recorded_turns : Interval → List ℕ
recorded_turns interval = map (λ e. e.core) interval.entries

-- The schedule has a legal list for each of the first intervals of a run, as many as it has lists, and each list names
-- the cores of its interval's accesses in recorded order. The run may go on.
pub record IsKeptInOrder (machine : Machine) (image : MemoryImage) (lists : List (List ℕ)) : Type 0 where
  pub comps : List Comp
  pub fresh : AreFresh machine comps
  pub state : RunState
  pub reached : after_intervals machine image (first_state machine image comps) lists ≡ Ok state
  pub in_order : lists ≡ map recorded_turns state.intervals
