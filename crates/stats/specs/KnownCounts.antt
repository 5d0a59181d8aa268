-- An interval whose accesses and events were counted while they were made.
use Rattle.std.specs.Prelude.{◌≡◌, ℕ, ◌==◌, List, length, map, filter, slice_get, Some}
use Rattle.stats.specs.declared.counts.CoreCount.{CoreCount}
use Rattle.stats.specs.declared.counts.CompCount.{CompCount}
use Rattle.stats.specs.Counted.{core_sum, entry_count}
use Rattle.stats.specs.Counts.{Interval, comp_count_in}

-- what a core's accesses count in an interval
abbrev pub access_count_in : Interval → (core : ℕ) → CoreCount
access_count_in i core = core_sum (map entry_count (filter (λ e. e.core == core) i.entries))

-- These are the counts of the interval's accesses, by the numbers of their cores, and of all.
pub record AreAccessCounts (i : Interval) (counts : List CoreCount) (accesses : ℕ) : Type 0 where
  pub each : (core : ℕ) (c : CoreCount) → slice_get counts core ≡ Some c → c ≡ access_count_in i core
  pub count : accesses ≡ length i.entries

-- These are the counts of its events, by the numbers of their components, and of all. From when on a component is free
-- is not among them.
pub record AreEventCounts (i : Interval) (counts : List CompCount) (events : ℕ) : Type 0 where
  pub each : (component : ℕ) (c : CompCount) → slice_get counts component ≡ Some c → c ≡ comp_count_in i component
  pub count : events ≡ length i.events
