-- What a run gives.
use Rattle.std.specs.Prelude.{◌≡◌, ◌<◌, ◌≤◌, ℕ, Bool, List, length}
use Rattle.machine_desc.specs.declared.machine.Machine.{Machine}
use Rattle.machine_desc.specs.Components.{component_count}
use Rattle.reference.specs.TimedCore.{TimedCore}
use Rattle.stats.specs.Counts.{Counts}
use Rattle.reference.specs.Limits.{access_limit, event_limit}

pub record Results : Type 0 where
  -- the cores at its end, in order of their numbers
  pub cores : List TimedCore
  -- what numbers they have
  pub numbers : List ℕ
  -- what was counted in all intervals
  pub counts : Counts
  -- how many intervals were run
  pub intervals : ℕ
  -- whether it ended by a limit, with a core that has not halted
  pub limit : Bool

-- the results have the cores of the machine, a count for each of them and for each component, and no more accesses and
-- events than a run may have
pub record HasCounts (machine : Machine) (r : Results) : Type 0 where
  pub cores : length r.cores ≡ machine.cores
  pub core_counts : length r.counts.core_counts ≡ machine.cores
  pub comp_counts : length r.counts.comp_counts ≡ component_count machine
  pub accesses : r.counts.accesses ≤ access_limit
  pub events : r.counts.events < event_limit
