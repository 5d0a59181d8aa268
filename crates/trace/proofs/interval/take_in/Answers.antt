use Rattle.std.proofs.Common.{◌≡◌, ◌++◌, ◌∷◌, [], ◌^◌, ◌<◌, ◌≤◌, ℕ, List, length, All, refl, sym, subst, ap, ◌∙◌, arith}
use Rattle.std.specs.Vec.{with_items}
use Rattle.std.proofs.lemmas.List.{with_items_is}
use Rattle.zs_num.specs.declared.entry.Entry.{Entry}
use Rattle.component.specs.declared.comp.Comp.{Comp}
use Rattle.component.specs.ComponentStep.{comp_step}
use Rattle.component.specs.Components.{AreComponents}
use Rattle.event_graph.specs.declared.event.Event.{Event}
use Rattle.event_graph.specs.OneListWeave.{comps_after}
use Rattle.stats.specs.Counts.{Counts, Interval}
use Rattle.stats.specs.CountsFit.{CountsFit}
use Rattle.stats.specs.Added.{added}
use Rattle.stats.specs.Laws.{WasRun}
use Rattle.bound_core.specs.NumberedCores.{NumberedCore, timed_of}
use Rattle.run.specs.IntervalWeave.{interval_of}
use Rattle.reference.specs.ReferenceRun.{all_delayed, time_of, woven_interval}
use Rattle.bound_records.specs.CoreRuns.{AreNumbered}
use Rattle.run.proofs.Cores.{each_clock}
use Rattle.run.proofs.IntervalWeave.{woven_events}
use Rattle.run.proofs.NextInterval.{Laws, fits_more, leads_on}
use Rattle.trace.specs.Trace.{Ended}
use Rattle.trace.specs.TracedRun.{as_run}
use Rattle.trace.proofs.interval.take_in.Goals as goal

pub woven_of-requires-clause-fired : goal.woven_of-requires-clause-fired
woven_of-requires-clause-fired g c =
    let h = c.requires.fired.3 in
    (h.before.comps, c.args.entries.now, c.args.run.now.comps, h.woven)

pub delay_all-requires-clause-clocks : goal.delay_all-requires-clause-clocks
delay_all-requires-clause-clocks g c =
    subst (λ (cores : List NumberedCore). All (λ x. x.timed.clock ≤ 2 ^ 57) cores) (sym c.deref_mut.ensures.value)
    (each_clock (2 ^ 57) c.args.run.now.cores.items c.requires.fired.3.bounded.clocks)

pub delay_all-requires-clause-count : goal.delay_all-requires-clause-count
delay_all-requires-clause-count g c =
    let h = c.requires.fired.3 in
    let weave = c.in_ok-woven.ensures h.before.comps c.args.entries.now c.args.run.now.comps h.woven in
    ap length c.as_slice.ensures ∙ weave.delays ∙ sym h.bounded.count ∙ sym (ap length c.deref_mut.ensures.value)

pub delay_all-requires-clause-delays : goal.delay_all-requires-clause-delays
delay_all-requires-clause-delays g c =
    let h = c.requires.fired.3 in
    let weave = c.in_ok-woven.ensures h.before.comps c.args.entries.now c.args.run.now.comps h.woven in
    subst (All (λ (d : ℕ). d ≤ 2 ^ 62)) (sym c.as_slice.ensures) weave.delays_small

pub add-requires-clause-components : goal.add-requires-clause-components
add-requires-clause-components g c =
    let h = c.requires.fired.3 in
    let weave = c.in_ok-woven.ensures h.before.comps c.args.entries.now c.args.run.now.comps h.woven in
    subst (λ (n : ℕ). All (λ e. e.component < n) c.in_ok-woven.woven.graph) (sym c.requires.comp_counts) weave.there

pub add-requires-clause-delays : goal.add-requires-clause-delays
add-requires-clause-delays g c =
    let h = c.requires.fired.3 in
    let weave = c.in_ok-woven.ensures h.before.comps c.args.entries.now c.args.run.now.comps h.woven in
    weave.delays ∙ sym c.requires.core_counts

pub add-requires-clause-comps : goal.add-requires-clause-comps
add-requires-clause-comps g c =
    let h = c.requires.fired.3 in
    let stay : AreComponents c.args.machine.now c.args.run.now.comps =
    subst (AreComponents c.args.machine.now) (sym h.woven.after_are) (c.machine_components_stay.ensures c.args.machine.now h.before.comps c.args.graph h.woven.components)
    in
    stay.count ∙ sym c.requires.comp_counts

pub add-requires-clause-took : goal.add-requires-clause-took
add-requires-clause-took g c =
    let h = c.requires.fired.3 in
    let timely = (c.in_ok-woven.ensures h.before.comps c.args.entries.now c.args.run.now.comps h.woven).timely in
    record { count = timely.count; each = λ i e f at there. (timely.each i e f at there).time }

pub add-requires-clause-fits : goal.add-requires-clause-fits
add-requires-clause-fits g c =
    let machine = c.args.machine.now in
    let h = c.requires.fired.3 in
    let entries : List Entry = c.args.entries.now in
    let weave = c.in_ok-woven.ensures h.before.comps entries c.args.run.now.comps h.woven in
    let components : AreComponents machine c.args.run.now.comps =
    subst (AreComponents machine) (sym h.woven.after_are) (c.machine_components_stay.ensures machine h.before.comps c.args.graph h.woven.components)
    in
    let i : Interval = interval_of entries c.in_ok-woven.woven in
    let was_run : WasRun i = (weave.timely, weave.delays_small) in
    let fits = fits_more machine c.requires.machine h.end c.requires.fired.1 h.before h.goes_on i was_run weave.few h.bounded.few
    c.counters_are_sums.ensures c.sums_fit.ensures c.args.run.now.comps components
    in
    subst (λ (counts : Counts). CountsFit (added counts i c.args.run.now.comps)) (sym h.counters) fits

pub returns-clause-leads : goal.returns-clause-leads
returns-clause-leads g c = λ image s turns h.
    let machine = c.args.machine.now in
    let entries : List Entry = c.args.entries.now in
    let b = h.bounded in
    let q = c.args.run.now in
    let weave = c.in_ok-woven.ensures h.before.comps entries q.comps h.woven in
    let i : Interval = interval_of entries c.in_ok-woven.woven in
    let from : h.before.comps ≡ s.comps = h.goes_on.come.comps in
    let is : i ≡ woven_interval machine s.comps entries = weave.is ∙ ap (λ (comps : List Comp). woven_interval machine comps entries) from in
    let same_events : c.args.graph ≡ i.events = woven_events machine h.before.comps entries c.args.graph h.woven.events.are ∙ ap (λ (j : Interval). j.events) (sym weave.is) in
    let comps : q.comps ≡ comps_after comp_step i.events s.comps =
    h.woven.after_are ∙ ap (λ (events : List Event). comps_after comp_step events h.before.comps) same_events ∙ ap (comps_after comp_step i.events) from
    in
    let stay : AreComponents machine q.comps = subst (AreComponents machine) (sym h.woven.after_are) (c.machine_components_stay.ensures machine h.before.comps c.args.graph h.woven.components) in
    let are : AreComponents machine (comps_after comp_step i.events s.comps) = subst (AreComponents machine) comps stay in
    let laws : Laws (time_of machine) image h.end = record {
      alike = c.shards_do_as_the_machine.ensures (time_of machine) image h.end;
      histories = c.phases_are_histories.ensures (time_of machine) image h.end;
      next = c.intervals_begin.ensures.next;
      sums = c.counters_are_sums.ensures;
    }
    in
    let waited : timed_of c.delay_all.new.cores ≡ all_delayed i.delays (timed_of q.cores.items) =
    c.delay_all.ensures.timed
    ∙ ap (λ (delays : List ℕ). all_delayed delays (timed_of c.deref_mut.result.now)) c.as_slice.ensures
    ∙ ap (λ (cores : List NumberedCore). all_delayed i.delays (timed_of cores)) c.deref_mut.ensures.value
    in
    let numbered : AreNumbered c.delay_all.new.cores = c.delay_all.ensures.numbered (subst AreNumbered (sym c.deref_mut.ensures.value) b.numbered) in
    let long : length c.delay_all.new.cores ≡ q.cores.len = omega (arith, c.delay_all.auto.cores, ap length c.deref_mut.ensures.value, q.cores.ok.0) in
    let written = with_items_is q.cores c.delay_all.new.cores long in
    leads_on machine c.requires.machine image h.end s h.before (as_run machine q) h.goes_on turns entries b laws i is refl (weave.timely, weave.delays_small) weave.few are
    (as_run machine (record { cores = with_items q.cores c.delay_all.new.cores; port = q.port; comps = q.comps; counters = c.add.new.self; way = q.way }))
    (ap timed_of written ∙ waited) (subst AreNumbered (sym written) numbered) refl comps
    (c.add.ensures ∙ ap (λ (counts : Counts). added counts i q.comps) h.counters)

pub returns-clause-told : goal.returns-clause-told
returns-clause-told g c = λ image s turns h.
    let machine = c.args.machine.now in
    let entries : List Entry = c.args.entries.now in
    let weave = c.in_ok-woven.ensures h.before.comps entries c.args.run.now.comps h.woven in
    let from : h.before.comps ≡ s.comps = h.goes_on.come.comps in
    let is : interval_of entries c.in_ok-woven.woven ≡ woven_interval machine s.comps entries = weave.is ∙ ap (λ (comps : List Comp). woven_interval machine comps entries) from in
    let before = g.T.Tracer.steps c.args.tracer.now in
    c.in_ok-tell_end.ensures.told ∙ ap (λ (i : Interval). before ++ Ended i ∷ []) is
