-- Counts that grow interval by interval.
use Rattle.std.specs.Prelude.{◌+◌, ℕ, List, length, map, replicate}
use Rattle.std.specs.List.{zip, enumerate_from}
use Rattle.machine_desc.specs.declared.machine.Machine.{Machine}
use Rattle.machine_desc.specs.Components.{component_count}
use Rattle.component.specs.declared.comp.Comp.{Comp}
use Rattle.component.specs.ComponentStep.{free_of}
use Rattle.stats.specs.declared.counts.CoreCount.{CoreCount}
use Rattle.stats.specs.declared.counts.CompCount.{CompCount}
use Rattle.stats.specs.Counted.{no_core_count, core_plus, no_comp_count, comp_plus}
use Rattle.stats.specs.Counts.{Interval, core_count_in, comp_count_in, Counts}

-- the count of a core or of a component after one more interval
abbrev pub core_count_after : Interval → (core : ℕ) → CoreCount → CoreCount
core_count_after i core c = core_plus c (core_count_in i core)

abbrev pub comp_count_after : Interval → (comp : ℕ) → CompCount → Comp → CompCount
comp_count_after i comp c after = record (comp_plus c (comp_count_in i comp)) { free = free_of after }

-- the counts after one more interval, from those before
unfoldable pub added : Counts → Interval → List Comp → Counts
added c i comps = record {
  core_counts = map (λ at. core_count_after i at.0 at.1) (enumerate_from 0 c.core_counts);
  comp_counts = map (λ at. comp_count_after i at.0 at.1.0 at.1.1) (enumerate_from 0 (zip c.comp_counts comps));
  accesses = c.accesses + length i.entries;
  events = c.events + length i.events;
}

-- what is counted of a machine's cores and components before the first interval
abbrev pub no_counts : Machine → Counts
no_counts m = record {
  core_counts = replicate m.cores no_core_count;
  comp_counts = replicate (component_count m) no_comp_count;
  accesses = 0;
  events = 0;
}
