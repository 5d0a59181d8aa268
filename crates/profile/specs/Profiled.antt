-- What a profile stands for, and when its tables are right.
use Rattle.std.specs.Prelude.{◌≡◌, ◌==◌, ◌||◌, not, ℕ, Bool, List}
use Rattle.event_graph.specs.declared.access_path.AccessPath.{AccessPath}
use Rattle.noc_mesh.specs.NetTiming.{net_time}
use Rattle.execution_counts.specs.Counted.{Counts, counted}
use Rattle.trace.specs.Trace.{Step}
use Rattle.profile.specs.declared.contribution.Contribution.{Contribution}
use Rattle.profile.specs.declared.parts.Parts.{Parts}
use Rattle.profile.specs.declared.series.SeriesRows.{SeriesRows}
use Rattle.profile.specs.Contributions.{at_address, contributions}
use Rattle.profile.specs.Executed.{executed_at}
use Rattle.profile.specs.Parts.{AreParts}
use Rattle.profile.specs.Rows.{is_something}
use Rattle.profile.specs.Series.{IsSeries, Series, series_of}
use Rattle.profile_rows.specs.Tallies.{capped}

-- The steps that a profile was told, in order, of a machine of so many cores and components whose accesses go this way. A
-- row of its series has `every` intervals.
pub record Profiled : Type 0 where
  pub steps : List Step
  pub path : AccessPath
  pub cores : ℕ
  pub comps : ℕ
  pub every : ℕ

-- what its steps add
abbrev pub added_in : Profiled → List Contribution
added_in p = contributions (net_time p.path) p.cores p.steps

-- what its intervals count
abbrev pub series_in : Profiled → Series
series_in p = series_of (net_time p.path) p.cores p.comps p.every p.steps

-- a core executed the instruction at an address, or something was added to it
abbrev pub has_address : Profiled → (core pc : ℕ) → Bool
has_address p core pc = not (executed_at core pc p.steps == 0) || is_something (at_address core pc (added_in p))

-- the counts are how often each core executed the instruction at each address
abbrev pub CountInstructions : List Step → Counts → Type 0
CountInstructions steps counts = (core pc : ℕ) → counted counts core pc ≡ capped (executed_at core pc steps)

-- and all else is right after these steps
pub record IsRight (p : Profiled) (counts : Counts) (all : Parts) (rows : SeriesRows) : Type 0 where
  pub instructions : CountInstructions p.steps counts
  pub parts : AreParts (net_time p.path) p.cores p.steps all
  pub series : IsSeries (series_in p) rows
