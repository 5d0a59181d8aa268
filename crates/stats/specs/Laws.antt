-- What is true of the counts of every run.
use Rattle.std.specs.Prelude.{◌≡◌, ◌<◌, ◌≤◌, ◌^◌, ℕ, List, [], ◌∷◌, ◌++◌, length, map, sum_by}
use Rattle.std.specs.List.{All}
use Rattle.machine_desc.specs.declared.machine.Machine.{Machine}
use Rattle.component.specs.declared.comp.Comp.{Comp}
use Rattle.component.specs.Components.{AreFresh}
use Rattle.event_graph.specs.OneListWeave.{FiredEvent, fired_of}
use Rattle.event_graph.specs.OrderByCore.{HaveTheSameByCore}
use Rattle.event_graph.specs.Renumbering.{renumbered_fired}
use Rattle.event_graph.specs.Timely.{AreTimely}
use Rattle.event_graph.specs.ServedEvents.{of_component}
use Rattle.stats.specs.Counts.{Counts, Interval, counts_of, total_accesses, total_events}
use Rattle.stats.specs.CountsFit.{CountsFit}
use Rattle.stats.specs.Added.{added, no_counts}

-- to add an interval to the counts of a run gives the counts of the longer run
abbrev pub CountersAreSums : Type 0
CountersAreSums = (cores : ℕ) (before comps : List Comp) (intervals : List Interval) (i : Interval) → length before ≡ length comps
    → added (counts_of cores before intervals) i comps ≡ counts_of cores comps (intervals ++ i ∷ [])

-- the counts of a run without intervals
abbrev pub NothingIsCountedFirst : Type 0
NothingIsCountedFirst = (m : Machine) (comps : List Comp) → AreFresh m comps → counts_of m.cores comps [] ≡ no_counts m

-- what holds of an interval that was run: its events are timely, and no delay is over 2^62 cycles
abbrev pub WasRun : Interval → Type 0
WasRun i = AreTimely i.events i.fired × All (λ d. d ≤ 2 ^ 62) i.delays

-- the counts of a run of bounded length pass no type
abbrev pub SumsFit : Type 0
SumsFit = (cores : ℕ) (comps : List Comp) (intervals : List Interval)
    → total_accesses intervals < 2 ^ 64
    → total_events intervals ≤ 2 ^ 60
    → length intervals ≤ 2 ^ 60
    → All WasRun intervals
    → CountsFit (counts_of cores comps intervals)

-- The interval counts the same in another order of its accesses that keeps those of each core, with other numbers of its
-- events, where these have the same sums on each component.
pub record CountAlike (to : ℕ → ℕ) (i j : Interval) (timed moved : List FiredEvent) : Type 0 where
  pub entries : HaveTheSameByCore i.entries j.entries
  pub as_many : length j.entries ≡ length i.entries
  pub events : i.events ≡ map (λ x. x.event) timed
  pub moved_events : j.events ≡ map (λ x. x.event) moved
  pub as_many_events : length j.events ≡ length i.events
  pub fired : i.fired ≡ map fired_of timed
  pub moved_fired : j.fired ≡ map fired_of moved
  pub delays : j.delays ≡ i.delays
  pub sums : (weight : FiredEvent → ℕ) → ((x : FiredEvent) → weight (renumbered_fired to x) ≡ weight x) → (component : ℕ)
      → sum_by weight (of_component component moved) ≡ sum_by weight (of_component component timed)

abbrev pub OrdersCountAlike : Type 0
OrdersCountAlike = (to : ℕ → ℕ) (i j : Interval) (timed moved : List FiredEvent) (before : Counts) (comps : List Comp) → CountAlike to i j timed moved
    → added before j comps ≡ added before i comps
