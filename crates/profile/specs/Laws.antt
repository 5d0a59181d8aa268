-- What a profile of a run adds up to is what the run's report counts.
use Rattle.std.specs.Prelude.{◌≡◌, ℕ, ◌+◌, ◌==◌, ◌<◌, ◌^◌, Bool, not, List, [], ◌∷◌, filter, length, map, slice_get, slice_index_or, sum_by, Some}
use Rattle.std.specs.List.{zip}
use Rattle.elf_load.specs.MemoryImage.{MemoryImage}
use Rattle.elf_load.specs.SoundImage.{IsSoundImage}
use Rattle.machine_desc.specs.declared.machine.Machine.{Machine}
use Rattle.machine_desc.specs.Components.{component_count}
use Rattle.machine_desc.specs.Machine.{IsMachine}
use Rattle.stats.specs.declared.counts.CompCount.{CompCount}
use Rattle.stats.specs.declared.counts.CoreCount.{CoreCount}
use Rattle.event_graph.specs.AccessPaths.{path_of}
use Rattle.stats.specs.Counted.{core_sum}
use Rattle.stats.specs.CountsFit.{CoreFits}
use Rattle.shard.specs.NewCaches.{new_caches}
use Rattle.reference.specs.ReferenceRun.{IsRunOf, time_of}
use Rattle.reference.specs.Results.{Results}
use Rattle.reference.specs.TimedCore.{TimedCore}
use Rattle.trace.specs.Told.{ended_in}
use Rattle.trace.specs.Trace.{IsTraceOf, Step, Accessed, Ended, Executed}
use Rattle.profile_rows.specs.declared.address_row.AddressRow.{AddressRow}
use Rattle.profile_rows.specs.declared.line_row.LineRow.{LineRow}
use Rattle.profile_rows.specs.declared.tally.Tally.{Tally}
use Rattle.profile_rows.specs.Tallies.{total}
use Rattle.profile.specs.declared.contribution.Contribution.{Contribution}
use Rattle.profile.specs.Contributions.{contributions, nothing_before, tally_of}
use Rattle.profile.specs.Copies.{Copies, copies_after, finds_none, is_held, no_copies, own_copy}
use Rattle.profile.specs.Intervals.{all_waits}
use Rattle.profile.specs.Profiled.{Profiled, series_in}
use Rattle.profile.specs.Listed.{AreAddressRows, AreCoreRows, AreLineRows, AreSumRows}
use Rattle.profile.specs.MachineCopies.{LeaveForReasons, OfEachAccess, StayOfCaches, TellsOfOthers}
use Rattle.profile.specs.Series.{SeriesSums}
use Rattle.profile.specs.SharedOut.{EachSharesOut}

-- what the steps of a run on a machine add to a profile
abbrev pub run_contributions : Machine → List Step → List Contribution
run_contributions machine steps = contributions (time_of machine) machine.cores steps

-- ---- the counters of each core

-- it is of this core
abbrev pub is_by : (core : ℕ) → Contribution → Bool
is_by core c = c.core == core

-- a tally has a core's counts of its accesses, by kind and by how the caches met them
pub record AddsUpTo (t : Tally) (c : CoreCount) : Type 0 where
  pub loads : t.loads ≡ c.loads
  pub stores : t.stores ≡ c.stores
  pub atomics : t.atomics ≡ c.atomics
  pub fetches : t.fetches ≡ c.fetches
  pub hits : t.hits ≡ c.hits
  pub upgrades : t.upgrades ≡ c.upgrades
  pub l2hits : t.l2hits ≡ c.l2hits
  pub misses : t.misses ≡ c.misses

-- What a core's steps add, at whatever addresses and lines, is what the run counted of the core.
abbrev pub CoreCountersAddUp : Type 0
CoreCountersAddUp = (machine : Machine) (image : MemoryImage) (lists : List (List ℕ)) (steps : List Step) (results : Results) → IsMachine machine
    → IsTraceOf machine image lists steps → IsRunOf machine image lists results
    → (core : ℕ) (c : CoreCount) → slice_get results.counts.core_counts core ≡ Some c → AddsUpTo (tally_of (is_by core) (run_contributions machine steps)) c

-- ---- rows

-- this is the profile of these steps of a run on a machine
pub record IsProfileOf (machine : Machine) (steps : List Step) (p : Profiled) : Type 0 where
  pub steps_are : p.steps ≡ steps
  pub path : p.path ≡ path_of machine
  pub cores : p.cores ≡ machine.cores

-- The rows of a core's addresses tell together what the run counted of the core: its instructions and its accesses.
abbrev pub AddressRowsAddUp : Type 0
AddressRowsAddUp = (machine : Machine) (image : MemoryImage) (lists : List (List ℕ)) (steps : List Step) (results : Results) → IsMachine machine → IsSoundImage image
    → IsTraceOf machine image lists steps → IsRunOf machine image lists results
    → (p : Profiled) → IsProfileOf machine steps p → (core : ℕ) (c : CoreCount) (timed : TimedCore) → slice_get results.counts.core_counts core ≡ Some c → slice_get results.cores core ≡ Some timed
    → CoreFits c → timed.instructions < 2 ^ 64
    → (rows : List AddressRow) → AreCoreRows p core rows
    → (sum_by (λ row. row.instructions) rows ≡ timed.instructions) × AddsUpTo (total (map (λ row. row.tally) rows)) c

-- and so do the rows of lines that are of the core
abbrev pub LineRowsAddUp : Type 0
LineRowsAddUp = (machine : Machine) (image : MemoryImage) (lists : List (List ℕ)) (steps : List Step) (results : Results) → IsMachine machine → IsSoundImage image
    → IsTraceOf machine image lists steps → IsRunOf machine image lists results
    → (p : Profiled) → IsProfileOf machine steps p → (core : ℕ) (c : CoreCount) → slice_get results.counts.core_counts core ≡ Some c
    → CoreFits c
    → (rows : List LineRow) → AreLineRows p rows
    → AddsUpTo (total (map (λ row. row.tally) (filter (λ row. row.core == core) rows))) c

-- The rows of addresses, each of all cores together, tell what all cores counted.
abbrev pub SumRowsAddUp : Type 0
SumRowsAddUp = (machine : Machine) (image : MemoryImage) (lists : List (List ℕ)) (steps : List Step) (results : Results) → IsMachine machine → IsSoundImage image
    → IsTraceOf machine image lists steps → IsRunOf machine image lists results
    → (p : Profiled) → IsProfileOf machine steps p → length results.cores ≡ machine.cores
    → CoreFits (core_sum results.counts.core_counts) → sum_by (λ c. c.instructions) results.cores < 2 ^ 64
    → (rows : List AddressRow) → AreSumRows p rows
    → (sum_by (λ row. row.instructions) rows ≡ sum_by (λ c. c.instructions) results.cores) × AddsUpTo (total (map (λ row. row.tally) rows)) (core_sum results.counts.core_counts)

-- ---- waiting

-- What all steps add waited as long as the events of the run's intervals, each of which waits for one access.
abbrev pub WaitsAddUp : Type 0
WaitsAddUp = (machine : Machine) (image : MemoryImage) (lists : List (List ℕ)) (steps : List Step) (results : Results) → IsMachine machine
    → IsTraceOf machine image lists steps → IsRunOf machine image lists results
    → (total (map (λ c. c.tally) (run_contributions machine steps))).waited ≡ sum_by (λ i. all_waits (zip i.events i.fired)) (ended_in steps)

-- so all waits are those of the banks, the controllers and the links
abbrev pub WaitsAreOfComponents : Type 0
WaitsAreOfComponents = (machine : Machine) (image : MemoryImage) (lists : List (List ℕ)) (steps : List Step) (results : Results) → IsMachine machine
    → IsTraceOf machine image lists steps → IsRunOf machine image lists results → length results.counts.comp_counts ≡ component_count machine
    → (total (map (λ c. c.tally) (run_contributions machine steps))).waited ≡ sum_by (λ c. c.waited) results.counts.comp_counts

-- Of each core, the waits of each interval are shared out to its accesses, in the order in which it made them.
abbrev pub WaitsAreSharedOut : Type 0
WaitsAreSharedOut = (machine : Machine) (image : MemoryImage) (lists : List (List ℕ)) (steps : List Step) (results : Results) → IsMachine machine
    → IsTraceOf machine image lists steps → IsRunOf machine image lists results
    → EachSharesOut (path_of machine) machine.cores [] nothing_before steps

-- The rows of addresses, of each core apart or of all cores together, tell all waits of the banks, the controllers and the
-- links, where these fit in 128 bits.
abbrev pub AddressRowsWait : Type 0
AddressRowsWait = (machine : Machine) (image : MemoryImage) (lists : List (List ℕ)) (steps : List Step) (results : Results) → IsMachine machine → IsSoundImage image
    → IsTraceOf machine image lists steps → IsRunOf machine image lists results → length results.counts.comp_counts ≡ component_count machine
    → sum_by (λ c. c.waited) results.counts.comp_counts < 2 ^ 128
    → (p : Profiled) → IsProfileOf machine steps p → (separate : Bool) (rows : List AddressRow) → AreAddressRows p separate rows
    → (total (map (λ row. row.tally) rows)).waited ≡ sum_by (λ c. c.waited) results.counts.comp_counts

-- and so do the rows of lines
abbrev pub LineRowsWait : Type 0
LineRowsWait = (machine : Machine) (image : MemoryImage) (lists : List (List ℕ)) (steps : List Step) (results : Results) → IsMachine machine → IsSoundImage image
    → IsTraceOf machine image lists steps → IsRunOf machine image lists results → length results.counts.comp_counts ≡ component_count machine
    → sum_by (λ c. c.waited) results.counts.comp_counts < 2 ^ 128
    → (p : Profiled) → IsProfileOf machine steps p → (rows : List LineRow) → AreLineRows p rows
    → (total (map (λ row. row.tally) rows)).waited ≡ sum_by (λ c. c.waited) results.counts.comp_counts

-- ---- copies

-- The copies that the steps of a run tell are those of its machine's caches, before each access and behind the last.
abbrev pub CopiesAreOfCaches : Type 0
CopiesAreOfCaches = (machine : Machine) (image : MemoryImage) (lists : List (List ℕ)) (steps : List Step) (results : Results) → IsMachine machine → IsSoundImage image
    → IsTraceOf machine image lists steps → IsRunOf machine image lists results
    → StayOfCaches no_copies (new_caches machine) steps

-- Each access tells of the other cores' copies what it did to them in these caches,
abbrev pub OthersCopiesAreTold : Type 0
OthersCopiesAreTold = (machine : Machine) (image : MemoryImage) (lists : List (List ℕ)) (steps : List Step) (results : Results) → IsMachine machine → IsSoundImage image
    → IsTraceOf machine image lists steps → IsRunOf machine image lists results
    → OfEachAccess (λ copies c e leaving. TellsOfOthers machine.cores copies c e) no_copies (new_caches machine) steps

-- and why the copies left that it took away.
abbrev pub CopiesLeaveForReasons : Type 0
CopiesLeaveForReasons = (machine : Machine) (image : MemoryImage) (lists : List (List ℕ)) (steps : List Step) (results : Results) → IsMachine machine → IsSoundImage image
    → IsTraceOf machine image lists steps → IsRunOf machine image lists results
    → OfEachAccess LeaveForReasons no_copies (new_caches machine) steps

-- ---- classes

-- Each access finds a copy in the core's own cache exactly where there is one by the steps before it.
abbrev pub FindWhatIsHeld : Copies → List Step → Type 0
FindWhatIsHeld copies [] = Unit {0}
FindWhatIsHeld copies (Executed core pc ∷ steps) = FindWhatIsHeld copies steps
FindWhatIsHeld copies (Accessed pc e leaving ∷ steps) =
    (is_held (own_copy copies e) ≡ not (finds_none e.outcome)) × FindWhatIsHeld (copies_after e leaving copies) steps
FindWhatIsHeld copies (Ended interval ∷ steps) = FindWhatIsHeld copies steps

-- so it is along every run
abbrev pub CopiesAreTheMachines : Type 0
CopiesAreTheMachines = (machine : Machine) (image : MemoryImage) (lists : List (List ℕ)) (steps : List Step) (results : Results) → IsMachine machine → IsSoundImage image
    → IsTraceOf machine image lists steps → IsRunOf machine image lists results
    → FindWhatIsHeld no_copies steps

-- as many accesses have a class as found no copy
abbrev pub AreClassed : Tally → Type 0
AreClassed t = t.cold + t.coherence + t.inclusion + t.eviction ≡ t.l2hits + t.misses

-- Each access of a run that finds no copy is of one class, at whatever addresses and lines they are added up.
abbrev pub ClassesAddUp : Type 0
ClassesAddUp = (machine : Machine) (image : MemoryImage) (lists : List (List ℕ)) (steps : List Step) (results : Results) → IsMachine machine → IsSoundImage image
    → IsTraceOf machine image lists steps → IsRunOf machine image lists results
    → (test : Contribution → Bool) → AreClassed (tally_of test (run_contributions machine steps))

-- ---- the series

-- what these rows count together is what a run counted
pub record CountTheRun (results : Results) (rows : List SeriesSums) : Type 0 where
  pub intervals : sum_by (λ row. row.intervals) rows ≡ results.intervals
  pub instructions : sum_by (λ row. row.instructions) rows ≡ sum_by (λ c. c.instructions) results.cores
  -- those of all cores
  pub accesses : AddsUpTo (total (map (λ row. row.tally) rows)) (core_sum results.counts.core_counts)
  pub events : sum_by (λ row. row.events) rows ≡ results.counts.events
  -- of each bank, controller and link
  pub waits : (comp : ℕ) (c : CompCount) → slice_get results.counts.comp_counts comp ≡ Some c → sum_by (λ row. slice_index_or row.waits comp 0) rows ≡ c.waited

-- So it is with the rows of a run's series, however many intervals are in each.
abbrev pub SeriesAddsUp : Type 0
SeriesAddsUp = (machine : Machine) (image : MemoryImage) (lists : List (List ℕ)) (steps : List Step) (results : Results) → IsMachine machine
    → IsTraceOf machine image lists steps → IsRunOf machine image lists results
    → (p : Profiled) → IsProfileOf machine steps p → p.comps ≡ length results.counts.comp_counts
    → CountTheRun results (series_in p).rows
