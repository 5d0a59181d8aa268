-- What is counted over a run: of each core its accesses and delays, of each component its events and waits.
use Rattle.std.specs.Prelude.{ℕ, ◌==◌, List, ◌∷◌, length, map, filter, slice_index, sum_by}
use Rattle.std.specs.List.{zip, enumerate_from, range_with_len}
use Rattle.zs_num.specs.declared.entry.Entry.{Entry}
use Rattle.component.specs.declared.comp.Comp.{Comp}
use Rattle.component.specs.ComponentStep.{free_of}
use Rattle.event_graph.specs.declared.event.Event.{Event}
use Rattle.event_graph.specs.declared.fired.Fired.{Fired}
use Rattle.stats.specs.declared.counts.CoreCount.{CoreCount}
use Rattle.stats.specs.declared.counts.CompCount.{CompCount}
use Rattle.stats.specs.Counted.{entry_count, delay_count, core_sum, event_count, comp_sum}

-- an interval of a run: its accesses in recorded order, its events in order of number, these as the
-- weave fired them, and the delay of each core
pub record Interval : Type 0 where
  pub entries : List Entry
  pub events : List Event
  pub fired : List Fired
  pub delays : List ℕ

-- what is counted of a core in an interval: its delay and its accesses
abbrev pub core_count_in : Interval → (core : ℕ) → CoreCount
core_count_in i core =
    core_sum (delay_count (slice_index i.delays core) ∷ map entry_count (filter (λ e. e.core == core) i.entries))

-- what is counted of a component in an interval: its events
abbrev pub comp_count_in : Interval → (comp : ℕ) → CompCount
comp_count_in i comp = comp_sum (map event_count (filter (λ x. x.0.component == comp) (zip i.events i.fired)))

-- A run.

-- the sums over its intervals; a component's last state tells from when on it is free
abbrev pub core_total : List Interval → (core : ℕ) → CoreCount
core_total intervals core = core_sum (map (λ i. core_count_in i core) intervals)

abbrev pub comp_total : List Interval → (comp : ℕ) → Comp → CompCount
comp_total intervals comp c = record (comp_sum (map (λ i. comp_count_in i comp) intervals)) { free = free_of c }

-- the accesses and the events of all intervals
abbrev pub total_accesses : List Interval → ℕ
total_accesses intervals = sum_by (λ i. length i.entries) intervals

abbrev pub total_events : List Interval → ℕ
total_events intervals = sum_by (λ i. length i.events) intervals

-- the counts of all cores and components by their numbers, and of all accesses and events
pub record Counts : Type 0 where
  pub core_counts : List CoreCount
  pub comp_counts : List CompCount
  pub accesses : ℕ
  pub events : ℕ

-- all counts of a run of so many cores, whose components are these at its end
unfoldable pub counts_of : (cores : ℕ) → List Comp → List Interval → Counts
counts_of cores comps intervals = record {
  core_counts = map (core_total intervals) (range_with_len 0 cores);
  comp_counts = map (λ at. comp_total intervals at.0 at.1) (enumerate_from 0 comps);
  accesses = total_accesses intervals;
  events = total_events intervals;
}
