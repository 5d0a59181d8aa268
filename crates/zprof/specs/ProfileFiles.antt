-- The files of a profile.
use Rattle.std.specs.Prelude.{◌≡◌, ℕ, List, [], ◌∷◌, ◌++◌, codes}
use Rattle.event_graph.specs.AccessPaths.{path_of}
use Rattle.machine_desc.specs.declared.machine.Machine.{Machine}
use Rattle.machine_desc.specs.Components.{component_count}
use Rattle.profile.specs.Listed.{AreAddressRows}
use Rattle.profile.specs.Profiled.{Profiled, series_in}
use Rattle.profile.specs.Series.{AreSeries}
use Rattle.profile_files.specs.CallgrindFile.{callgrind_text}
use Rattle.profile_files.specs.HaltsFile.{halts_text}
use Rattle.profile_files.specs.LinesFile.{lines_text}
use Rattle.profile_files.specs.SeriesFile.{series_text}
use Rattle.profile_rows.specs.declared.address_row.AddressRow.{AddressRow}
use Rattle.profile_rows.specs.declared.halt_row.HaltRow.{HaltRow}
use Rattle.profile_rows.specs.declared.line_row.LineRow.{LineRow}
use Rattle.profile_rows.specs.declared.series_row.SeriesRow.{SeriesRow}
use Rattle.reference.specs.Results.{Results}
use Rattle.trace.specs.Trace.{Step}
use Rattle.zsim.specs.Outputs.{NamedFile, named_file}
use Rattle.zprof.specs.CommandLine.{Profiling}
use Rattle.zprof.specs.HaltRows.{AreHaltRows}
use Rattle.zprof.specs.LinesUsed.{AreLinesUsed}

-- the name of a file in a folder
abbrev pub in_folder : (folder name : List ℕ) → List ℕ
in_folder folder name = folder ++ (codes "/" ++ name)

-- the profile of these steps of a machine, with so many intervals in each row of the series
abbrev pub profile_of : Machine → (every : ℕ) → List Step → Profiled
profile_of machine every steps = record { steps = steps; path = path_of machine; cores = machine.cores; comps = component_count machine; every = every }

-- the rows of a profile
pub record ProfileRows : Type 0 where
  pub addresses : List AddressRow
  pub lines : List LineRow
  pub series : List SeriesRow
  pub halts : List HaltRow

-- these are those of the steps of a run that gave these results
pub record AreProfileRows (machine : Machine) (c : Profiling) (steps : List Step) (r : Results) (rows : ProfileRows) : Type 0 where
  pub addresses_are : AreAddressRows (profile_of machine c.every steps) c.separate rows.addresses
  pub lines_are : AreLinesUsed (profile_of machine c.every steps) rows.lines
  pub series_are : AreSeries (series_in (profile_of machine c.every steps)).rows rows.series
  pub halts_are : AreHaltRows steps r.cores rows.halts

-- the files that have these rows, in the order in which they are written
abbrev pub files_with : Machine → (folder : List ℕ) → ProfileRows → List NamedFile
files_with machine folder rows =
    named_file (in_folder folder (codes "callgrind.out")) (callgrind_text rows.addresses)
    ∷ named_file (in_folder folder (codes "lines.csv")) (lines_text rows.lines)
    ∷ named_file (in_folder folder (codes "series.csv")) (series_text machine rows.series)
    ∷ named_file (in_folder folder (codes "halts.txt")) (halts_text rows.halts)
    ∷ []

-- These are the files of the steps of a run that gave these results.
pub record AreFilesOf (machine : Machine) (c : Profiling) (steps : List Step) (r : Results) (outputs : List NamedFile) : Type 0 where
  pub rows : ProfileRows
  pub rows_are : AreProfileRows machine c steps r rows
  pub files_are : outputs ≡ files_with machine c.folder rows
