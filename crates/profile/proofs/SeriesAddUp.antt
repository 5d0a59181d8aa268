-- The rows of a series add up to what the run counted.
use Rattle.std.proofs.Common.{◌≡◌, ℕ, ◌+◌, ◌<◌, Bool, true, false, if◌then◌else◌, List, [], ◌∷◌, ◌++◌, length, sum_by, refl, ◌∙◌, arith}
use Rattle.std.specs.Prelude.{slice_index_or}
use Rattle.std.specs.List.{zip}
use Rattle.std.proofs.lemmas.List.{length-replicate}
use Rattle.std.proofs.lemmas.List.FromFn.{length-map-range_with_len}
use Rattle.std.proofs.lemmas.List.Sums.{sum_by-append, sum_by-cons}
use Rattle.zs_num.specs.declared.entry.Entry.{Entry}
use Rattle.event_graph.specs.declared.event.Event.{Event}
use Rattle.event_graph.specs.declared.fired.Fired.{Fired}
use Rattle.trace.specs.Trace.{Accessed, Ended, Executed, Step}
use Rattle.profile_rows.specs.declared.tally.Tally.{Tally}
use Rattle.profile_rows.specs.Tallies.{plus}
use Rattle.profile.specs.declared.series.OpenInterval.{OpenInterval}
use Rattle.profile.specs.Contributions.{Before, access_adds, after_step}
use Rattle.profile.specs.Series.{Series, SeriesSums, has_room, next_first, no_sums, nothing_open, series_after, series_from, waited_at, with_interval, with_last, with_room}

-- ---- rows

-- each row has a wait for each component
abbrev pub HaveWaits : (comps : ℕ) → List SeriesSums → Type 0
HaveWaits comps [] = Unit {0}
HaveWaits comps (s ∷ rows) = (length s.waits ≡ comps) × HaveWaits comps rows

waits_behind : (comps : ℕ) (rows : List SeriesSums) (s : SeriesSums) → HaveWaits comps rows → length s.waits ≡ comps → HaveWaits comps (rows ++ s ∷ [])
waits_behind comps [] s have own = (own, tt)
waits_behind comps (r ∷ rows) s have own = (have.0, waits_behind comps rows s have.1 own)

-- what a row counts: `begun` is what it counts of an interval's steps, `of_events` of its events
pub record IsMeasure (comps : ℕ) (measure : SeriesSums → ℕ) (of_begun : OpenInterval → ℕ) (of_events : List Event → List Fired → ℕ) : Type 0 where
  pub none : (first : ℕ) → measure (no_sums comps first) ≡ 0
  pub more : (begun : OpenInterval) (events : List Event) (fired : List Fired) (s : SeriesSums) → length s.waits ≡ comps → measure (with_interval begun events fired s) ≡ measure s + of_begun begun + of_events events fired
  pub nothing : of_begun nothing_open ≡ 0

as_many_waits : (begun : OpenInterval) (events : List Event) (fired : List Fired) (s : SeriesSums) → length (with_interval begun events fired s).waits ≡ length s.waits
unfolding with_interval
as_many_waits begun events fired s = length-map-range_with_len (λ comp. slice_index_or s.waits comp 0 + waited_at (zip events fired) comp) 0 (length s.waits)

module _ (comps every : ℕ) (measure : SeriesSums → ℕ) (of_begun : OpenInterval → ℕ) (of_events : List Event → List Fired → ℕ) (is : IsMeasure comps measure of_begun of_events) where
  some_behind : (rows : List SeriesSums) (s : SeriesSums) → 0 < length (rows ++ s ∷ [])
  some_behind [] s = omega arith
  some_behind (r ∷ rows) s = omega arith

  record HasRoom (rows with : List SeriesSums) : Type 0 where
    some : 0 < length with
    waits : HaveWaits comps with
    sum : sum_by measure with ≡ sum_by measure rows

  room_if : (test : Bool) (rows : List SeriesSums) → has_room every rows ≡ test → HaveWaits comps rows → HasRoom rows (if test then rows else rows ++ no_sums comps (next_first rows) ∷ [])
  room_if true [] has waits = cc
  room_if true (s ∷ rows) has waits = record { some = omega arith; waits = waits; sum = refl }
  room_if false rows has waits = record {
    some = some_behind rows (no_sums comps (next_first rows));
    waits = waits_behind comps rows (no_sums comps (next_first rows)) waits (length-replicate comps 0);
    sum = omega (arith, sum_by-append measure rows (no_sums comps (next_first rows) ∷ []), is.none (next_first rows));
  }

  module _ (begun : OpenInterval) (events : List Event) (fired : List Fired) where
    abbrev joined : SeriesSums → SeriesSums
    joined s = with_interval begun events fired s

    last_waits : (rows : List SeriesSums) → HaveWaits comps rows → HaveWaits comps (with_last joined rows)
    last_waits [] have = tt
    last_waits (s ∷ []) have = (as_many_waits begun events fired s ∙ have.0, tt)
    last_waits (s ∷ t ∷ rows) have = (have.0, last_waits (t ∷ rows) have.1)

    last_sum : (rows : List SeriesSums) → HaveWaits comps rows → 0 < length rows → sum_by measure (with_last joined rows) ≡ sum_by measure rows + of_begun begun + of_events events fired
    last_sum [] have some = absurd (omega (arith, some))
    last_sum (s ∷ []) have some = omega (arith, is.more begun events fired s have.0)
    last_sum (s ∷ t ∷ rows) have some =
        omega (
          arith,
          sum_by-cons measure s (with_last joined (t ∷ rows)),
          last_sum (t ∷ rows) have.1 (omega arith),
          sum_by-cons measure s (t ∷ rows),
        )

  -- ---- steps

  -- what a step counts
  module _ (time : Entry → ℕ) (cores : ℕ) (of_instruction : ℕ) (of_tally : Tally → ℕ)
      (instruction_is : (begun : OpenInterval) → of_begun (record begun { instructions = begun.instructions + 1 }) ≡ of_begun begun + of_instruction)
      (tally_is : (begun : OpenInterval) (t : Tally) → of_begun (record begun { tally = plus begun.tally t }) ≡ of_begun begun + of_tally t) where
    abbrev pub weight : Before → Step → ℕ
    weight before (Executed core pc) = of_instruction
    weight before (Accessed pc e leaving) = of_tally (access_adds time cores before.copies pc e).tally
    weight before (Ended i) = of_events i.events i.fired

    abbrev pub weights : Before → List Step → ℕ
    weights before [] = 0
    weights before (step ∷ steps) = weight before step + weights (after_step before step) steps

    abbrev all_of : Series → ℕ
    all_of s = sum_by measure s.rows + of_begun s.begun

    pub series_sum : (before : Before) (s : Series) (steps : List Step) → HaveWaits comps s.rows
        → let after = series_from time cores comps every before s steps in sum_by measure after.rows + of_begun after.begun ≡ sum_by measure s.rows + of_begun s.begun + weights before steps
    series_sum before s [] have = omega arith
    series_sum before s (Executed core pc ∷ steps) have =
        omega (arith, series_sum before (series_after time cores comps every before s (Executed core pc)) steps have, instruction_is s.begun)
    series_sum before s (Accessed pc e leaving ∷ steps) have =
        let step = Accessed pc e leaving in
        omega (arith, series_sum (after_step before step) (series_after time cores comps every before s step) steps have, tally_is s.begun (access_adds time cores before.copies pc e).tally)
    series_sum before s (Ended i ∷ steps) have =
        let step = Ended i in
        let room = room_if (has_room every s.rows) s.rows refl have in
        let rows : List SeriesSums = with_room comps every s.rows in
        omega (
          arith,
          series_sum (after_step before step) (series_after time cores comps every before s step) steps (last_waits s.begun i.events i.fired rows room.waits),
          last_sum s.begun i.events i.fired rows room.waits room.some,
          room.sum,
          is.nothing,
        )
