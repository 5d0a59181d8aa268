-- All waits are those of the banks, the controllers and the links.
use Rattle.std.proofs.Common.{◌≡◌, ℕ, ◌+◌, ◌<◌, ◌≤◌, ◌==◌, nat_lt, Bool, true, cond, List, [], ◌∷◌, ◌++◌, length, map, get_or, sum_by, All, Some, refl, sym, ◌∙◌, ap, subst, arith}
use Rattle.std.specs.Prelude.{slice_get}
use Rattle.std.specs.List.{enumerate_from, range_with_len, zip}
use Rattle.std.proofs.lemmas.Bool.{ne_eqb}
use Rattle.std.proofs.lemmas.List.{length-map}
use Rattle.std.proofs.lemmas.List.Elements.{All-cons, All-head, All-nil, All-tail}
use Rattle.std.proofs.lemmas.List.FromFn.{length-enumerate_from}
use Rattle.std.proofs.lemmas.List.Sums.{sum_by-cons}
use Rattle.std.proofs.lemmas.Option.{slice_get-get_or, slice_get_within}
use Rattle.zs_num.specs.declared.entry.Entry.{Entry}
use Rattle.elf_load.specs.MemoryImage.{MemoryImage}
use Rattle.machine_desc.specs.Components.{component_count}
use Rattle.machine_desc.specs.declared.machine.Machine.{Machine}
use Rattle.machine_desc.specs.Machine.{IsMachine}
use Rattle.component.specs.declared.comp.Comp.{Comp}
use Rattle.event_graph.specs.AccessPaths.{path_of}
use Rattle.event_graph.specs.EventGraph.{all_events}
use Rattle.event_graph.specs.declared.event.Event.{Event}
use Rattle.event_graph.specs.declared.fired.Fired.{Fired}
use Rattle.noc_mesh.specs.Laws.{NetGraphsFit}
use Rattle.noc_mesh.specs.NetTiming.{net_pieces}
use Rattle.stats.specs.declared.counts.CompCount.{CompCount}
use Rattle.stats.specs.Counted.{wait_of}
use Rattle.stats.specs.Counts.{Counts, Interval, comp_total}
use Rattle.reference.specs.ReferenceRun.{IsRunOf}
use Rattle.reference.specs.Results.{Results}
use Rattle.trace.specs.Laws.{CountsAreOfWhatEnded, EndBehindTheirAccesses, EndsBehind}
use Rattle.trace.specs.Told.{ended_in}
use Rattle.trace.specs.Trace.{Accessed, Ended, Executed, IsTraceOf, Step}
use Rattle.profile.specs.Intervals.{all_waits}
use Rattle.profile.specs.Series.{waited_at}
use Rattle.profile.proofs.CoresTogether.{each_core_once, not_known}
use Rattle.profile.proofs.Fields.{counted_if, sum_by-filter, sum_by-same}
use Rattle.profile.proofs.Numbered.{all_numbers}
use Rattle.profile.proofs.SeriesCounts.{comp_counts_are, waited_in_all}
use Rattle.profile.proofs.SumRows.{turned_sum}
use Rattle.profile.proofs.WaitsAddUp.{IsOfEntries, is_of_entries}

abbrev IsOfKnown : (comps : ℕ) → Event → Type 0
IsOfKnown comps e = e.component < comps

abbrev AreOfKnown : (comps : ℕ) → Interval → Type 0
AreOfKnown comps i = All (IsOfKnown comps) i.events

module _ (fit : NetGraphsFit) (machine : Machine) (is : IsMachine machine) where
  -- the events of an interval are of components that are there
  events_known : (accesses : List Entry) (i : Interval) → EndsBehind machine accesses i → AreOfKnown (component_count machine) i
  events_known accesses i ends k d within =
      let of = subst (IsOfEntries machine) (sym ends.woven) (is_of_entries machine ends.comps i.entries) in
      let there : slice_get (all_events (net_pieces (path_of machine)) i.entries) k ≡ Some (get_or i.events k d) =
      ap (λ (es : List Event). slice_get es k) (sym of.events) ∙ slice_get-get_or i.events k d within
      in
      let fits = fit machine ends.comps i.entries is ends.are k (get_or i.events k d) there in
      omega (arith, slice_get_within ends.comps (get_or i.events k d).component fits.component fits.there, ends.are.count)

  intervals_known : (so_far : List Entry) (steps : List Step) → EndBehindTheirAccesses machine so_far steps → All (AreOfKnown (component_count machine)) (ended_in steps)
  intervals_known so_far [] ends = All-nil (AreOfKnown (component_count machine))
  intervals_known so_far (Executed core pc ∷ steps) ends = intervals_known so_far steps ends
  intervals_known so_far (Accessed pc e leaving ∷ steps) ends = intervals_known (so_far ++ e ∷ []) steps ends
  intervals_known so_far (Ended i ∷ steps) ends =
      All-cons (AreOfKnown (component_count machine)) i (ended_in steps) (events_known so_far i ends.0) (intervals_known [] steps ends.1)

-- ---- an interval

abbrev wait_in : Event × Fired → ℕ
wait_in x = wait_of x.0 x.1

none_past : (comps k : ℕ) → comps ≤ k → (events : List Event) (fired : List Fired) → All (IsOfKnown comps) events → sum_by (counted_if (λ (x : Event × Fired). x.0.component == k) wait_in) (zip events fired) ≡ 0
none_past comps k past [] fired known = refl
none_past comps k past (e ∷ events) [] known = refl
none_past comps k past (e ∷ events) (f ∷ fired) known =
    let within = All-head (IsOfKnown comps) e events known in
    let apart : counted_if (λ (x : Event × Fired). x.0.component == k) wait_in (e, f) ≡ 0 = ap (λ (b : Bool). cond b (wait_of e f) 0) (ne_eqb e.component k (λ same. omega (arith, same, within, past))) in
    omega (arith, apart, none_past comps k past events fired (All-tail (IsOfKnown comps) e events known), sum_by-cons (counted_if (λ (x : Event × Fired). x.0.component == k) wait_in) (e, f) (zip events fired))

-- what its events waited is what they waited at each component
of_components : (comps : ℕ) (i : Interval) → AreOfKnown comps i → all_waits (zip i.events i.fired) ≡ sum_by (λ k. waited_at (zip i.events i.fired) k) (range_with_len 0 comps)
of_components comps i known =
    let xs : List (Event × Fired) = zip i.events i.fired in
    let ks : List ℕ = range_with_len 0 comps in
    sym (
    sum_by-same (λ k. waited_at xs k) (λ k. sum_by (counted_if (λ (x : Event × Fired). x.0.component == k) wait_in) xs) (λ k. sum_by-filter (λ (x : Event × Fired). x.0.component == k) wait_in xs) ks
    ∙ all_numbers (λ (x : Event × Fired). true) (λ (x : Event × Fired). Some x.0.component) wait_in (λ k. nat_lt k comps) ks (each_core_once comps) xs
    (λ k not. none_past comps k (not_known k comps not) i.events i.fired known)
    )

intervals_of_components : (comps : ℕ) (intervals : List Interval) → All (AreOfKnown comps) intervals
    → sum_by (λ (i : Interval). all_waits (zip i.events i.fired)) intervals ≡ sum_by (λ (i : Interval). sum_by (λ k. waited_at (zip i.events i.fired) k) (range_with_len 0 comps)) intervals
intervals_of_components comps [] known = refl
intervals_of_components comps (i ∷ intervals) known =
    omega (
      arith,
      of_components comps i (All-head (AreOfKnown comps) i intervals known),
      intervals_of_components comps intervals (All-tail (AreOfKnown comps) i intervals known),
      sum_by-cons (λ (x : Interval). all_waits (zip x.events x.fired)) i intervals,
      sum_by-cons (λ (x : Interval). sum_by (λ k. waited_at (zip x.events x.fired) k) (range_with_len 0 comps)) i intervals,
    )

-- ---- the run

comps_waited : (intervals : List Interval) (from : ℕ) (comps : List Comp) → sum_by (λ (c : CompCount). c.waited) (map (λ at. comp_total intervals at.0 at.1) (enumerate_from from comps))
    ≡ sum_by (λ k. sum_by (λ (i : Interval). waited_at (zip i.events i.fired) k) intervals) (range_with_len from (length comps))
comps_waited intervals from [] = refl
comps_waited intervals from (c ∷ comps) =
    omega (
      arith,
      waited_in_all intervals from c,
      comps_waited intervals (from + 1) comps,
      sum_by-cons (λ (x : CompCount). x.waited) (comp_total intervals from c) (map (λ at. comp_total intervals at.0 at.1) (enumerate_from (from + 1) comps)),
      sum_by-cons (λ k. sum_by (λ (i : Interval). waited_at (zip i.events i.fired) k) intervals) from (range_with_len (from + 1) (length comps)),
    )

pub all_of_components : (fit : NetGraphsFit) (ended : CountsAreOfWhatEnded)
    → (machine : Machine) (image : MemoryImage) (lists : List (List ℕ)) (steps : List Step) (results : Results) → IsMachine machine → IsTraceOf machine image lists steps → IsRunOf machine image lists results
    → EndBehindTheirAccesses machine [] steps → length results.counts.comp_counts ≡ component_count machine
    → sum_by (λ (i : Interval). all_waits (zip i.events i.fired)) (ended_in steps) ≡ sum_by (λ (c : CompCount). c.waited) results.counts.comp_counts
all_of_components fit ended machine image lists steps results is trace run ends many =
    let counts = ended machine image lists steps results trace run in
    let intervals : List Interval = ended_in steps in
    let listed : results.counts.comp_counts ≡ map (λ at. comp_total intervals at.0 at.1) (enumerate_from 0 counts.0) =
    ap (λ (x : Counts). x.comp_counts) counts.1 ∙ comp_counts_are machine.cores counts.0 intervals
    in
    let as_many : length counts.0 ≡ component_count machine =
    sym (ap length listed ∙ length-map (enumerate_from 0 counts.0) (λ at. comp_total intervals at.0 at.1) ∙ length-enumerate_from 0 counts.0) ∙ many
    in
    intervals_of_components (component_count machine) intervals (intervals_known fit machine is [] steps ends)
    ∙ turned_sum (λ k (i : Interval). waited_at (zip i.events i.fired) k) (range_with_len 0 (component_count machine)) intervals
    ∙ sym (ap (sum_by (λ (c : CompCount). c.waited)) listed ∙ comps_waited intervals 0 counts.0 ∙ ap (λ (n : ℕ). sum_by (λ k. sum_by (λ (i : Interval). waited_at (zip i.events i.fired) k) intervals) (range_with_len 0 n)) as_many)
