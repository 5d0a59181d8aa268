-- Each row of intervals has the waits of all components.
use Rattle.std.proofs.Common.{◌≡◌, ℕ, zero, suc, Bool, true, false, List, [], ◌∷◌, ◌++◌, All, length, map, if◌then◌else◌, sym, ◌∙◌, ap, subst, arith}
use Rattle.std.proofs.lemmas.List.{length-map, length-replicate}
use Rattle.zs_num.specs.declared.entry.Entry.{Entry}
use Rattle.event_graph.specs.declared.event.Event.{Event}
use Rattle.event_graph.specs.declared.fired.Fired.{Fired}
use Rattle.trace.specs.Trace.{Accessed, Ended, Executed, Step}
use Rattle.profile_rows.specs.declared.series_row.SeriesRow.{SeriesRow}
use Rattle.profile_rows.specs.Tallies.{capped_wide}
use Rattle.profile.specs.declared.series.OpenInterval.{OpenInterval}
use Rattle.profile.specs.Contributions.{Before, after_step}
use Rattle.profile.specs.Series.{AreSeries, Series, SeriesSums, capped_sums, has_room, next_first, no_sums, series_after, series_from, sums_in, with_interval, with_last, with_room}
use Rattle.profile.proofs.SeriesMore.{head_or, rest_of}
use Rattle.profile.proofs.Waited.{waits_long}

-- each of these sums has the waits of so many components
AreLong : (comps : ℕ) → List SeriesSums → Type 0
AreLong comps [] = Unit {0}
AreLong comps (s ∷ sums) = (length s.waits ≡ comps) × AreLong comps sums

long_room : (comps every : ℕ) (sums : List SeriesSums) → AreLong comps sums → AreLong comps (with_room comps every sums)
unfolding AreLong
long_room comps every sums are = by (has_room every sums)
  where
    more : (first : ℕ) (xs : List SeriesSums) → AreLong comps xs → AreLong comps (xs ++ no_sums comps first ∷ [])
    more first [] none = (length-replicate comps 0, tt)
    more first (x ∷ xs) these = (these.0, more first xs these.1)

    by : (b : Bool) → AreLong comps (if b then sums else sums ++ no_sums comps (next_first sums) ∷ [])
    by true = are
    by false = more (next_first sums) sums are

long_interval : (comps : ℕ) (o : OpenInterval) (events : List Event) (fired : List Fired) (s : SeriesSums) → length s.waits ≡ comps → length (with_interval o events fired s).waits ≡ comps
unfolding with_interval
long_interval comps o events fired s is = waits_long s.waits _ ∙ is

long_last : (comps : ℕ) (f : SeriesSums → SeriesSums) → ((s : SeriesSums) → length s.waits ≡ comps → length (f s).waits ≡ comps) → (sums : List SeriesSums) → AreLong comps sums → AreLong comps (with_last f sums)
unfolding AreLong
long_last comps f keeps [] are = tt
long_last comps f keeps (s ∷ []) are = (keeps s are.0, tt)
long_last comps f keeps (s ∷ t ∷ rest) are = (are.0, long_last comps f keeps (t ∷ rest) are.1)

module _ (time : Entry → ℕ) (cores comps every : ℕ) where
  series_long : (before : Before) (s : Series) (steps : List Step) → AreLong comps s.rows → AreLong comps (series_from time cores comps every before s steps).rows
  series_long before s [] are = are
  series_long before s (Executed core pc ∷ steps) are = series_long before (series_after time cores comps every before s (Executed core pc)) steps are
  series_long before s (Accessed pc e leaving ∷ steps) are =
      series_long (after_step before (Accessed pc e leaving)) (series_after time cores comps every before s (Accessed pc e leaving)) steps are
  series_long before s (Ended i ∷ steps) are =
      series_long (after_step before (Ended i)) (series_after time cores comps every before s (Ended i)) steps
      (long_last comps (with_interval s.begun i.events i.fired) (long_interval comps s.begun i.events i.fired) (with_room comps every s.rows) (long_room comps every s.rows are))

rows_long : (comps : ℕ) (rows : List SeriesRow) (sums : List SeriesSums) → AreSeries sums rows → AreLong comps sums → All (λ row. length row.waits.items ≡ comps) rows
unfolding sums_in capped_sums AreLong head_or rest_of
rows_long comps [] sums are these i d lt = absurd (omega (arith, lt))
rows_long comps (r ∷ rows) [] are these i d lt = absurd (let none : length (map sums_in (r ∷ rows)) ≡ 0 = ap length are in omega (arith, none))
rows_long comps (r ∷ rows) (s ∷ sums) are these zero d lt =
    ap (λ (xs : List SeriesSums). length (head_or s xs).waits) are ∙ length-map s.waits capped_wide ∙ these.0
rows_long comps (r ∷ rows) (s ∷ sums) are these (suc i) d lt = rows_long comps rows sums (ap rest_of are) these.1 i d (omega (arith, lt))

pub all_long : (time : Entry → ℕ) (cores comps every : ℕ) (before : Before) (s : Series) (steps : List Step) (rows : List SeriesRow)
    → s.rows ≡ [] → AreSeries (series_from time cores comps every before s steps).rows rows → All (λ row. length row.waits.items ≡ comps) rows
unfolding AreLong
all_long time cores comps every before s steps rows none are =
    rows_long comps rows (series_from time cores comps every before s steps).rows are
    (series_long time cores comps every before s steps (subst (AreLong comps) (sym none) tt))
