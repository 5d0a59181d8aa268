-- The text of series.csv.
use Rattle.std.specs.Prelude.{ℕ, zero, suc, List, [], ◌∷◌, ◌++◌, codes}
use Rattle.std.specs.Fmt.{decimal}
use Rattle.std.specs.List.{flat_map, sum}
use Rattle.machine_desc.specs.declared.machine.Machine.{Machine}
use Rattle.machine_desc.specs.Components.{links_of}
use Rattle.profile_rows.specs.declared.series_row.SeriesRow.{SeriesRow}
use Rattle.profile_rows.specs.Tallies.{capped_wide}
use Rattle.profile_files.specs.Numbers.{accesses, marked}

-- the names of the first columns
unfoldable pub series_columns : List ℕ
series_columns =
    codes "interval,intervals,instructions,loads,stores,atomics,fetches," ++ codes "hits,upgrades,l2hits,misses,events,waited"

-- the columns of so many components of a kind, which are numbered from 0 on
abbrev pub numbered : (kind : List ℕ) → (count : ℕ) → List ℕ
numbered kind zero = []
numbered kind (suc n) = numbered kind n ++ (codes "," ++ (kind ++ decimal n))

-- the names of the columns
abbrev pub series_head : Machine → List ℕ
series_head machine =
    series_columns ++ (numbered (codes "bank") machine.l2.banks ++ (numbered (codes "controller") machine.controllers.count
    ++ (numbered (codes "link") (links_of machine) ++ codes "\n")))

-- how many cycles events waited at all components, as far as 128 bits go
abbrev pub all_waits : SeriesRow → ℕ
all_waits row = capped_wide (sum row.waits.items)

-- the line of some intervals
unfoldable pub series_row : SeriesRow → List ℕ
series_row row =
    decimal row.first ++ (marked (codes ",") (row.intervals ∷ row.instructions ∷ []) ++ (marked (codes ",") (accesses row.tally)
    ++ (marked (codes ",") (row.events ∷ all_waits row ∷ []) ++ (marked (codes ",") row.waits.items ++ codes "\n"))))

unfoldable pub series_text : Machine → List SeriesRow → List ℕ
series_text machine rows = series_head machine ++ flat_map series_row rows
