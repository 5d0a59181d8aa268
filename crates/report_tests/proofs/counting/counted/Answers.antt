use Rattle.std.proofs.Common.{◌≡◌, ◌≤◌, ◌^◌, ℕ, List, [], ◌∷◌, ◌++◌, length, None, ap, refl, ◌∙◌, sym, subst, arith}
use Rattle.std.specs.List.{All}
use Rattle.std.proofs.lemmas.List.Elements.{All-cons, All-nil, All-weaker}
use Rattle.machine_desc.specs.declared.machine.Machine.{Machine}
use Rattle.machine_desc.specs.Components.{links_of}
use Rattle.component.specs.declared.comp.Comp.{Comp}
use Rattle.component.specs.Components.{AreFresh}
use Rattle.event_graph.specs.Timely.{AreTimely}
use Rattle.stats.specs.Counts.{Counts, Interval, counts_of}
use Rattle.stats.specs.CountsFit.{CountsFit}
use Rattle.stats.specs.Added.{added, no_counts}
use Rattle.stats.specs.Laws.{CountersAreSums, NothingIsCountedFirst}
use Rattle.report_tests.specs.declared.counting.WovenInterval.{WovenInterval}
use Rattle.report_tests.proofs.counting.counted.Goals as goal

abbrev interval : WovenInterval → Interval
interval w = record { entries = w.entries; events = w.graph; fired = w.fired; delays = w.delays }

-- what the laws ask of each interval
abbrev IsBounded : Interval → Type 0
IsBounded i = AreTimely i.events i.fired × All (λ d. d ≤ 2 ^ 62) i.delays

bounded : (w : WovenInterval) → IsBounded (interval w)
bounded w = (w.timely, All-weaker (λ d. d ≤ 100) (λ d. d ≤ 2 ^ 62) (λ d le. omega arith) w.delays w.short_delays)

-- the counters with one interval more
counts_more : CountersAreSums → (cores : ℕ) (before : List Comp) (intervals : List Interval) (c : Counts) (w : WovenInterval) → c ≡ counts_of cores before intervals → length before ≡ 2
    → added c (interval w) w.comps ≡ counts_of cores w.comps (intervals ++ interval w ∷ [])
counts_more sums cores before intervals c w is two =
    ap (λ (x : Counts). added x (interval w) w.comps) is ∙ sums cores before w.comps intervals (interval w) (two ∙ sym w.comp_count)

-- without a mesh there are no links
no_links : (m : Machine) → m.mesh ≡ None → links_of m ≡ 0
no_links m none = rw none refl

-- the counters with the first interval
counted_once : NothingIsCountedFirst → CountersAreSums → (m : Machine) → m.mesh ≡ None → m.l2.banks ≡ 1 → m.controllers.count ≡ 1 → (before : List Comp) → AreFresh m before
    → (c : Counts) → c ≡ no_counts m → (w : WovenInterval) → added c (interval w) w.comps ≡ counts_of m.cores w.comps (interval w ∷ [])
counted_once none sums m meshless bank controller before fresh c is w =
    let two : length before ≡ 2 = omega (arith, fresh.are.count, no_links m meshless) in
    counts_more sums m.cores before [] c w (is ∙ sym (none m before fresh)) two

pub add-requires-clause-fits : goal.add-requires-clause-fits
add-requires-clause-fits g c =
    let m : Machine = c.args.machine.now in
    let before = c.first_comps-before.ensures in
    let one : WovenInterval = c.first-one.result in
    let once = counted_once c.nothing_is_counted_first.ensures c.counters_are_sums.ensures m c.requires.mesh c.requires.banks c.requires.controllers
    c.first_comps-before.result before c.first_counters-counters.result c.first_counters-counters.ensures one in
    subst CountsFit (sym once)
    (c.sums_fit.ensures m.cores one.comps (interval one ∷ []) (omega (arith, one.few_entries)) (omega (arith, one.few_events)) (omega arith)
    (All-cons IsBounded (interval one) [] (bounded one) (All-nil IsBounded)))

pub add-requires-2-clause-fits : goal.add-requires-2-clause-fits
add-requires-2-clause-fits g c =
    let m : Machine = c.args.machine.now in
    let before = c.first_comps-before.ensures in
    let one : WovenInterval = c.first-one.result in
    let two : WovenInterval = c.second-two.result in
    let once = counted_once c.nothing_is_counted_first.ensures c.counters_are_sums.ensures m c.requires.mesh c.requires.banks c.requires.controllers
    c.first_comps-before.result before c.first_counters-counters.result c.first_counters-counters.ensures one in
    let twice = counts_more c.counters_are_sums.ensures m.cores one.comps (interval one ∷ []) c.add.new.counters two (c.add.ensures.added ∙ once) one.comp_count in
    subst CountsFit (sym twice)
    (c.sums_fit.ensures m.cores two.comps (interval one ∷ interval two ∷ []) (omega (arith, one.few_entries, two.few_entries)) (omega (arith, one.few_events, two.few_events)) (omega arith)
    (All-cons IsBounded (interval one) (interval two ∷ []) (bounded one) (All-cons IsBounded (interval two) [] (bounded two) (All-nil IsBounded))))
