-- The weave of an interval whose accesses are recorded.
use Rattle.std.specs.Prelude.{◌≡◌, ℕ, ◌^◌, ◌<◌, ◌≤◌, List, Option, None, Some, IfSome, length, map, slice_get}
use Rattle.std.specs.List.{All}
use Rattle.zs_num.specs.declared.entry.Entry.{Entry}
use Rattle.machine_desc.specs.declared.machine.Machine.{Machine}
use Rattle.machine_desc.specs.Components.{component_count}
use Rattle.component.specs.declared.comp.Comp.{Comp}
use Rattle.component.specs.ComponentStep.{comp_step}
use Rattle.event_graph.specs.OneListWeave.{comps_after}
use Rattle.access_log.specs.History.{of_core}
use Rattle.access_log.specs.RecordedOrder.{recorded_order}
use Rattle.access_record.specs.Turns.{in_turns}
use Rattle.stats.specs.Added.{added}
use Rattle.stats.specs.Counts.{Counts, Interval}
use Rattle.stats.specs.CountsFit.{CountsFit}
use Rattle.bound_records.specs.Intervals.{AreKept}
use Rattle.bound_records.specs.Recorders.{AreStampedInTurn, RecorderState, entries_of}
use Rattle.reference.specs.ReferenceRun.{access_room, woven_interval}

-- its accesses, in recorded order
abbrev pub accesses_in : RecorderState → List Entry
accesses_in r = recorded_order (entries_of r)

-- the accesses in the order of a list of turns, or core by core where there is none
abbrev pub taken_by : Option (List ℕ) → RecorderState → List Entry
taken_by None r = entries_of r
taken_by (Some turns) r = in_turns turns r.lists

-- the interval, which is woven from these components on
abbrev pub recorded_interval : Machine → List Comp → RecorderState → Interval
recorded_interval machine comps r = woven_interval machine comps (accesses_in r)

-- what is kept of an interval's accesses, core by core
pub record IsRecorded (machine : Machine) (r : RecorderState) : Type 0 where
  pub many : length r.lists ≡ machine.cores
  -- in recorded order each core has its own, in its order
  pub own : (core : ℕ) (entries : List Entry) → slice_get r.lists core ≡ Some entries → of_core core (accesses_in r) ≡ entries
  pub cores : All (λ e. e.core < machine.cores) (entries_of r)
  pub starts : All (λ e. e.start ≤ 2 ^ 34) (entries_of r)
  pub few : length (entries_of r) ≤ access_room machine
  pub kept : AreKept machine r

-- The interval is woven and counted: these are its delays, and what is left of the components and the counts.
pub record IsTakenIn (i : Interval) (comps after : List Comp) (counts counted : Counts) (delays : List ℕ) : Type 0 where
  pub delays_are : delays ≡ i.delays
  pub comps_are : after ≡ comps_after comp_step i.events comps
  pub counts_are : counted ≡ added counts i after

-- no sum passes its type with it
pub record FitsIn (i : Interval) (machine : Machine) (comps : List Comp) (counts : Counts) : Type 0 where
  pub core_counts : length counts.core_counts ≡ machine.cores
  pub comp_counts : length counts.comp_counts ≡ component_count machine
  pub fits : CountsFit (added counts i (comps_after comp_step i.events comps))

-- the accesses were made by the turns of a list, which names their cores, or core by core where there is none
pub record AreTakenSo (turns : Option (List ℕ)) (r : RecorderState) : Type 0 where
  pub stamped : AreStampedInTurn (taken_by turns r) r
  pub named : IfSome turns (λ cores. cores ≡ map (λ e. e.core) (taken_by turns r))

-- caches and memory are as they were
pub record IsSameButAccesses (before after : RecorderState) : Type 0 where
  pub world : after.world ≡ before.world
  pub lists : length after.lists ≡ length before.lists
  pub base : after.base ≡ before.base
  pub room : after.room ≡ before.room
