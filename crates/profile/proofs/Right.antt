-- A profile that begins, and one more step.
use Rattle.std.proofs.Common.{◌≡◌, ℕ, ◌+◌, ◌==◌, Global, Vec, List, map, [], ◌∷◌, ◌++◌, refl, sym, ◌∙◌, ap, ap₂, subst}
use Rattle.std.specs.Prelude.{◌&&◌}
use Rattle.zs_num.specs.declared.entry.Entry.{Entry}
use Rattle.event_graph.specs.declared.access_path.AccessPath.{AccessPath}
use Rattle.event_graph.specs.declared.event.Event.{Event}
use Rattle.event_graph.specs.declared.fired.Fired.{Fired}
use Rattle.noc_mesh.specs.NetTiming.{net_time}
use Rattle.execution_counts.specs.Counted.{Counts, counted, is_in_stretch, one_if}
use Rattle.stats.specs.Counts.{Interval}
use Rattle.trace.specs.Trace.{Accessed, Ended, Executed, Step, stretch_steps}
use Rattle.profile.specs.declared.parts.Parts.{Parts}
use Rattle.profile.specs.declared.series.SeriesRows.{SeriesRows}
use Rattle.profile_rows.specs.declared.series_row.SeriesRow.{SeriesRow}
use Rattle.profile_rows.specs.declared.tally.Tally.{Tally}
use Rattle.profile_rows.specs.Tallies.{capped, plus}
use Rattle.shard.specs.declared.leaving.Leaving.{Leaving}
use Rattle.profile.specs.Contributions.{access_adds, nothing_before}
use Rattle.profile.specs.Copies.{Copies}
use Rattle.profile.specs.CopyTables.{copies_in}
use Rattle.profile.specs.Parts.{AreParts}
use Rattle.profile.specs.Profiled.{CountInstructions, IsRight, Profiled, series_in}
use Rattle.profile.specs.Series.{IsSeries, Series, no_series, nothing_open, sums_in, with_interval, with_last, with_room}
use Rattle.profile.proofs.Instructions.{none_more, one_more, stretch_more}
use Rattle.profile.proofs.PartsMore.{executed_more}
use Rattle.profile.proofs.SeriesMore.{instructions_more}
use Rattle.profile.proofs.StepsMore.{series_more}
use Rattle.profile.proofs.StretchMore.{parts_stretch, series_stretch}

abbrev pub profiled : (path : AccessPath) (cores comps every : ℕ) → List Step → Profiled
profiled path cores comps every steps = record { steps = steps; path = path; cores = cores; comps = comps; every = every }

module _ (path : AccessPath) (cores comps every : ℕ) where
  pub begun : (steps : List Step) (counts : Counts) (parts : Parts) (series : SeriesRows)
      → steps ≡ [] → ((core pc : ℕ) → counted counts core pc ≡ 0) → ((time : Entry → ℕ) (cores : ℕ) → AreParts time cores [] parts) → IsSeries no_series series
      → IsRight (profiled path cores comps every steps) counts parts series
  begun steps counts parts series no_steps no_counts right is_series =
      subst (λ (s : List Step). IsRight (profiled path cores comps every s) counts parts series) (sym no_steps)
      (record {
        instructions = no_counts;
        parts = right (net_time path) cores;
        series = is_series;
      })

  -- where all counts are as they were
  pub recounted : (steps : List Step) (counts new : Counts) (parts : Parts) (series : SeriesRows) → ((core pc : ℕ) → counted new core pc ≡ counted counts core pc)
      → IsRight (profiled path cores comps every steps) counts parts series → IsRight (profiled path cores comps every steps) new parts series
  recounted steps counts new parts series same right = record { instructions = λ core pc. same core pc ∙ right.instructions core pc; parts = right.parts; series = right.series }

  module _ (steps all : List Step) (counts : Counts) (parts : Parts) (series : SeriesRows) (right : IsRight (profiled path cores comps every steps) counts parts series) where
    before : Series
    before = series_in (profiled path cores comps every steps)

    -- some instructions more
    ran : (count : ℕ) (new : Counts) (new_series : SeriesRows)
        → CountInstructions all new
        → AreParts (net_time path) cores all parts
        → series_in (profiled path cores comps every all) ≡ record before { begun = record before.begun { instructions = before.begun.instructions + count } }
        → new_series.begun ≡ record { instructions = capped (series.begun.instructions + count); tally = series.begun.tally }
        → new_series.rows ≡ series.rows
        → IsRight (profiled path cores comps every all) new parts new_series
    unfolding before
    ran count new new_series counts_are parts_are series_is begins same = record {
      instructions = counts_are;
      parts = parts_are;
      series = subst (λ (s : Series). IsSeries s new_series) (sym series_is)
          (record {
            begun = begins ∙ instructions_more series.begun before.begun (capped (series.begun.instructions + count)) count right.series.begun refl;
            rows = ap (λ (r : Vec SeriesRow Global). map sums_in r.items) same ∙ right.series.rows;
          });
    }

    pub executed : (core pc : ℕ) (new : Counts) (new_series : SeriesRows)
        → all ≡ steps ++ Executed core pc ∷ []
        → ((c n : ℕ) → counted new c n ≡ capped (counted counts c n + one_if (core == c && pc == n)))
        → new_series.begun ≡ record { instructions = capped (series.begun.instructions + 1); tally = series.begun.tally }
        → new_series.rows ≡ series.rows
        → IsRight (profiled path cores comps every all) new parts new_series
    unfolding before
    executed core pc new new_series all_are adds begins same =
        ran 1 new new_series
        (subst (λ (s : List Step). CountInstructions s new) (sym all_are) (one_more steps counts new core pc right.instructions adds))
        (subst (λ (s : List Step). AreParts (net_time path) cores s parts) (sym all_are) (executed_more (net_time path) cores steps parts parts right.parts core pc))
        (ap (λ (s : List Step). series_in (profiled path cores comps every s)) all_are ∙ series_more (net_time path) cores comps every nothing_before no_series steps (Executed core pc))
        begins same

    pub executed_all : (core pc count : ℕ) (new : Counts) (new_series : SeriesRows)
        → all ≡ steps ++ stretch_steps core pc count
        → ((c n : ℕ) → counted new c n ≡ capped (counted counts c n + one_if (core == c && is_in_stretch pc count n)))
        → new_series.begun ≡ record { instructions = capped (series.begun.instructions + count); tally = series.begun.tally }
        → new_series.rows ≡ series.rows
        → IsRight (profiled path cores comps every all) new parts new_series
    unfolding before
    executed_all core pc count new new_series all_are adds begins same =
        ran count new new_series
        (subst (λ (s : List Step). CountInstructions s new) (sym all_are) (stretch_more steps counts new core pc count right.instructions adds))
        (subst (λ (s : List Step). AreParts (net_time path) cores s parts) (sym all_are) (parts_stretch (net_time path) cores steps parts core pc count right.parts))
        (ap (λ (s : List Step). series_in (profiled path cores comps every s)) all_are ∙ series_stretch (net_time path) cores comps every nothing_before no_series steps core pc count)
        begins same

    pub accessed : (pc : ℕ) (e : Entry) (leaving : Leaving) (tally : Tally) (new : Parts) (new_series : SeriesRows)
        → all ≡ steps ++ Accessed pc e leaving ∷ []
        → AreParts (net_time path) cores (steps ++ Accessed pc e leaving ∷ []) new
        → tally ≡ (access_adds (net_time path) cores (copies_in parts.copies.of_data.items parts.copies.of_instructions.items) pc e).tally
        → ((s : Series) → IsSeries s series → IsSeries (record s { begun = record s.begun { tally = plus s.begun.tally tally } }) new_series)
        → IsRight (profiled path cores comps every all) counts new new_series
    unfolding before
    accessed pc e leaving tally new new_series all_are more tally_is added =
        subst (λ (s : List Step). IsRight (profiled path cores comps every s) counts new new_series) (sym all_are)
        (record {
          instructions = none_more steps (Accessed pc e leaving) counts (λ core at. refl) right.instructions;
          parts = more;
          series = subst (λ (s : Series). IsSeries s new_series)
              (ap (λ (t : Tally). let s : Series = record before { begun = record before.begun { tally = plus before.begun.tally t } } in s)
              (tally_is ∙ ap (λ (k : Copies). (access_adds (net_time path) cores k pc e).tally) right.parts.copies)
              ∙ sym (series_more (net_time path) cores comps every nothing_before no_series steps (Accessed pc e leaving)))
              (added before right.series);
        })

    abbrev interval : List Entry → List Event → List Fired → List ℕ → Interval
    interval entries events fired delays = record { entries = entries; events = events; fired = fired; delays = delays }

    pub ended : (entries : List Entry) (delays : List ℕ) (events given : List Event) (fired times : List Fired) (new : Parts) (new_series : SeriesRows)
        → given ≡ events → times ≡ fired → all ≡ steps ++ Ended (interval entries events fired delays) ∷ []
        → (AreParts (net_time path) cores steps parts → AreParts (net_time path) cores (steps ++ Ended (interval entries given times delays) ∷ []) new)
        → ((s : Series) → IsSeries s series → IsSeries (record { begun = nothing_open; rows = with_last (with_interval s.begun given times) (with_room comps every s.rows) }) new_series)
        → IsRight (profiled path cores comps every all) counts new new_series
    unfolding before
    ended entries delays events given fired times new new_series same_events same_times all_are more added =
        subst (λ (s : List Step). IsRight (profiled path cores comps every s) counts new new_series) (sym all_are)
        (record {
          instructions = none_more steps (Ended (interval entries events fired delays)) counts (λ core at. refl) right.instructions;
          parts = subst (λ (s : List Step). AreParts (net_time path) cores s new)
              (ap₂ (λ (es : List Event) (fs : List Fired). steps ++ Ended (interval entries es fs delays) ∷ []) same_events same_times)
              (more right.parts);
          series = subst (λ (s : Series). IsSeries s new_series)
              (ap₂ (λ (es : List Event) (fs : List Fired). let s : Series = record { begun = nothing_open; rows = with_last (with_interval before.begun es fs) (with_room comps every before.rows) } in s)
              same_events same_times
              ∙ sym (series_more (net_time path) cores comps every nothing_before no_series steps (Ended (interval entries events fired delays))))
              (added before right.series);
        })
