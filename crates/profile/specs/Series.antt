-- What intervals count, some that follow each other in each row: so many, and fewer in the last row.
use Rattle.std.specs.Prelude.{◌≡◌, ℕ, ◌+◌, ◌==◌, nat_lt, Bool, false, List, [], ◌∷◌, ◌++◌, if◌then◌else◌, length, map, filter, replicate, slice_index_or}
use Rattle.std.specs.List.{range_with_len, zip}
use Rattle.zs_num.specs.declared.entry.Entry.{Entry}
use Rattle.event_graph.specs.declared.event.Event.{Event}
use Rattle.event_graph.specs.declared.fired.Fired.{Fired}
use Rattle.trace.specs.Trace.{Step, Accessed, Ended, Executed}
use Rattle.profile.specs.declared.series.OpenInterval.{OpenInterval}
use Rattle.profile.specs.declared.series.SeriesRows.{SeriesRows}
use Rattle.profile.specs.Intervals.{all_waits}
use Rattle.profile.specs.Contributions.{Before, access_adds, after_step, nothing_before}
use Rattle.profile_rows.specs.declared.tally.Tally.{Tally}
use Rattle.profile_rows.specs.declared.series_row.SeriesRow.{SeriesRow}
use Rattle.profile_rows.specs.Tallies.{capped, capped_tally, capped_wide, no_tally, plus}

-- what the instructions and the accesses of an interval count before its first step
abbrev pub nothing_open : OpenInterval
nothing_open = record { instructions = 0; tally = no_tally }

-- what some intervals count that follow each other: the number of the first one, how many they are, their instructions,
-- what their accesses count, their events, and how long these waited at each component
pub record SeriesSums : Type 0 where
  pub first : ℕ
  pub intervals : ℕ
  pub instructions : ℕ
  pub tally : Tally
  pub events : ℕ
  pub waits : List ℕ

-- no interval yet, on a machine of so many components
abbrev pub no_sums : (comps first : ℕ) → SeriesSums
no_sums comps first = record { first = first; intervals = 0; instructions = 0; tally = no_tally; events = 0; waits = replicate comps 0 }

-- how long those of these events waited that a component served
abbrev pub waited_at : List (Event × Fired) → (comp : ℕ) → ℕ
waited_at events comp = all_waits (filter (λ x. x.0.component == comp) events)

-- what components waited, with these events
abbrev pub with_waits : List ℕ → List (Event × Fired) → List ℕ
with_waits waits events = map (λ comp. slice_index_or waits comp 0 + waited_at events comp) (range_with_len 0 (length waits))

-- one interval more
unfoldable pub with_interval : OpenInterval → List Event → List Fired → SeriesSums → SeriesSums
with_interval begun events fired s = record {
  first = s.first;
  intervals = s.intervals + 1;
  instructions = s.instructions + begun.instructions;
  tally = plus s.tally begun.tally;
  events = s.events + length events;
  waits = with_waits s.waits (zip events fired);
}

-- the last row has fewer than `every` intervals
abbrev pub has_room : (every : ℕ) → List SeriesSums → Bool
has_room every [] = false
has_room every (s ∷ []) = nat_lt s.intervals every
has_room every (s ∷ t ∷ rest) = has_room every (t ∷ rest)

-- how many intervals all rows have
abbrev pub next_first : List SeriesSums → ℕ
next_first [] = 0
next_first (s ∷ []) = s.first + s.intervals
next_first (s ∷ t ∷ rest) = next_first (t ∷ rest)

-- the rows, and an empty one behind them where the last one is full
abbrev pub with_room : (comps every : ℕ) → List SeriesSums → List SeriesSums
with_room comps every rows = if has_room every rows then rows else rows ++ no_sums comps (next_first rows) ∷ []

-- the last row as the function has it
abbrev pub with_last : (SeriesSums → SeriesSums) → List SeriesSums → List SeriesSums
with_last f [] = []
with_last f (s ∷ []) = f s ∷ []
with_last f (s ∷ t ∷ rest) = s ∷ with_last f (t ∷ rest)

-- the rows of the intervals that ended, and what the next one counts up to here
pub record Series : Type 0 where
  pub begun : OpenInterval
  pub rows : List SeriesSums

abbrev pub no_series : Series
no_series = record { begun = nothing_open; rows = [] }

-- `time` is how long an access takes where nothing else runs, on a machine of so many cores and components. A row has
-- `every` intervals.
module _ (time : Entry → ℕ) (cores comps every : ℕ) where
  -- a step more, with what the steps before leave
  abbrev pub series_after : Before → Series → Step → Series
  series_after before s (Executed core pc) = record s { begun = record s.begun { instructions = s.begun.instructions + 1 } }
  series_after before s (Accessed pc e leaving) =
      record s { begun = record s.begun { tally = plus s.begun.tally (access_adds time cores before.copies pc e).tally } }
  series_after before s (Ended i) = record {
    begun = nothing_open;
    rows = with_last (with_interval s.begun i.events i.fired) (with_room comps every s.rows);
  }

  abbrev pub series_from : Before → Series → List Step → Series
  series_from before s [] = s
  series_from before s (step ∷ steps) = series_from (after_step before step) (series_after before s step) steps

  -- those of all steps of a run
  abbrev pub series_of : List Step → Series
  series_of steps = series_from nothing_before no_series steps

-- ---- numbers that fit

unfoldable pub capped_open : OpenInterval → OpenInterval
capped_open begun = record { instructions = capped begun.instructions; tally = capped_tally begun.tally }

unfoldable pub capped_sums : SeriesSums → SeriesSums
capped_sums s = record {
  first = capped s.first;
  intervals = capped s.intervals;
  instructions = capped s.instructions;
  tally = capped_tally s.tally;
  events = capped s.events;
  waits = map capped_wide s.waits;
}

-- the numbers of a row
unfoldable pub sums_in : SeriesRow → SeriesSums
sums_in row = record {
  first = row.first;
  intervals = row.intervals;
  instructions = row.instructions;
  tally = row.tally;
  events = row.events;
  waits = row.waits.items;
}

-- the rows have these sums
abbrev pub AreSeries : List SeriesSums → List SeriesRow → Type 0
AreSeries sums rows = map sums_in rows ≡ map capped_sums sums

pub record IsSeries (s : Series) (p : SeriesRows) : Type 0 where
  pub begun : p.begun ≡ capped_open s.begun
  pub rows : AreSeries s.rows p.rows.items
