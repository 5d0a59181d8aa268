use Rattle.std.proofs.Common.{◌≡◌, ◌<◌, ℕ, List, length, All, sym, ◌∙◌, ap, subst, arith}
use Rattle.std.proofs.lemmas.List.{length-map}
use Rattle.component.specs.declared.comp.Comp.{Comp}
use Rattle.component.specs.ComponentStep.{comp_step}
use Rattle.component.specs.Components.{AreComponents}
use Rattle.event_graph.specs.declared.event.Event.{Event}
use Rattle.event_graph.specs.OneListWeave.{comps_after}
use Rattle.stats.specs.Added.{added}
use Rattle.stats.specs.Counts.{Interval}
use Rattle.stats.specs.CountsFit.{CountsFit}
use Rattle.bound_records.proofs.Lists.{length_recorded}
use Rattle.bound_records.specs.Counted.{count_of}
use Rattle.bound_records.specs.Recorders.{counts_in, entries_of}
use Rattle.run.specs.Records.{accesses_in, recorded_interval}
use Rattle.run.proofs.GoneOn.{small_room}
use Rattle.run.proofs.IntervalWeave.{woven_events}
use Rattle.run.proofs.RecordedWeave.{access_counts, counted_so}
use Rattle.run.proofs.Recordings.{are_firings}
use Rattle.run.proofs.records.take_in.Goals as goal

pub woven_of-requires-clause-fired : goal.woven_of-requires-clause-fired
woven_of-requires-clause-fired c = (c.requires.fired.0, accesses_in c.args.recorder.now, c.args.comps.now, c.requires.fired.1)

pub keep-requires-clause-fired : goal.keep-requires-clause-fired
keep-requires-clause-fired c =
    let machine = c.args.machine.now in
    let r = c.args.recorder.now in
    let comps : List Comp = c.requires.fired.0 in
    let has = c.requires.fired.1 in
    are_firings c.in_ok-woven.woven.graph c.in_ok-woven.woven.fired (c.in_ok-woven.ensures comps (accesses_in r) c.args.comps.now has).timely

pub keep-requires-clause-few : goal.keep-requires-clause-few
keep-requires-clause-few c =
    let machine = c.args.machine.now in
    let r = c.args.recorder.now in
    let comps : List Comp = c.requires.fired.0 in
    let has = c.requires.fired.1 in
    let weave = c.in_ok-woven.ensures comps (accesses_in r) c.args.comps.now has in
    omega (arith, weave.few, length_recorded (entries_of r), c.requires.recorded.few, small_room machine c.requires.machine)

pub keep-requires-clause-there : goal.keep-requires-clause-there
keep-requires-clause-there c =
    let machine = c.args.machine.now in
    let r = c.args.recorder.now in
    let comps : List Comp = c.requires.fired.0 in
    let has = c.requires.fired.1 in
    (machine, c.requires.recording, (c.in_ok-woven.ensures comps (accesses_in r) c.args.comps.now has).there)

pub access_count-requires : goal.access_count-requires
access_count-requires c = omega (arith, c.requires.recorded.few, small_room c.args.machine.now c.requires.machine)

pub add_events-requires-clause-cores : goal.add_events-requires-clause-cores
add_events-requires-clause-cores c =
    ap length c.counts.ensures ∙ length-map c.args.recorder.now.lists count_of ∙ c.requires.recorded.many ∙ sym c.requires.fired.2.core_counts

pub add_events-requires-clause-components : goal.add_events-requires-clause-components
add_events-requires-clause-components c =
    let machine = c.args.machine.now in
    let r = c.args.recorder.now in
    let comps : List Comp = c.requires.fired.0 in
    let has = c.requires.fired.1 in
    subst (λ (n : ℕ). All (λ e. e.component < n) c.in_ok-woven.woven.graph) (sym c.requires.fired.2.comp_counts) (c.in_ok-woven.ensures comps (accesses_in r) c.args.comps.now has).there

pub add_events-requires-clause-delays : goal.add_events-requires-clause-delays
add_events-requires-clause-delays c =
    let machine = c.args.machine.now in
    let r = c.args.recorder.now in
    let comps : List Comp = c.requires.fired.0 in
    let has = c.requires.fired.1 in
    (c.in_ok-woven.ensures comps (accesses_in r) c.args.comps.now has).delays ∙ sym c.requires.fired.2.core_counts

pub add_events-requires-clause-comps : goal.add_events-requires-clause-comps
add_events-requires-clause-comps c =
    let machine = c.args.machine.now in
    let has = c.requires.fired.1 in
    let stay : AreComponents machine c.args.comps.now =
    subst (AreComponents machine) (sym has.after_are) (c.machine_components_stay.ensures machine c.requires.fired.0 c.args.graph has.components)
    in
    stay.count ∙ sym c.requires.fired.2.comp_counts

pub add_events-requires-clause-took : goal.add_events-requires-clause-took
add_events-requires-clause-took c =
    let machine = c.args.machine.now in
    let r = c.args.recorder.now in
    let comps : List Comp = c.requires.fired.0 in
    let has = c.requires.fired.1 in
    let timely = (c.in_ok-woven.ensures comps (accesses_in r) c.args.comps.now has).timely in
    record { count = timely.count; each = λ i e f at there. (timely.each i e f at there).time }

pub add_events-requires-clause-fits : goal.add_events-requires-clause-fits
add_events-requires-clause-fits c =
    let machine = c.args.machine.now in
    let r = c.args.recorder.now in
    let comps : List Comp = c.requires.fired.0 in
    let has = c.requires.fired.1 in
    let weave = c.in_ok-woven.ensures comps (accesses_in r) c.args.comps.now has in
    let i : Interval = recorded_interval machine comps r in
    let graph_is : c.args.graph ≡ i.events = woven_events machine comps (accesses_in r) c.args.graph has.events.are in
    let comps_are : c.args.comps.now ≡ comps_after comp_step i.events comps = has.after_are ∙ ap (λ (g : List Event). comps_after comp_step g comps) graph_is in (
      i,
      counted_so i c.counts.result.now (counts_in r) c.from.result (length (entries_of r)) c.counts.ensures (c.from.ensures ∙ c.access_count.ensures) (access_counts machine r c.requires.recorded comps),
      ap (λ (j : Interval). j.events) (sym weave.is),
      ap (λ (j : Interval). j.fired) (sym weave.is),
      ap (λ (j : Interval). j.delays) (sym weave.is),
      subst (λ (after : List Comp). CountsFit (added c.args.counters.now i after)) (sym comps_are) c.requires.fired.2.fits,
    )

pub returns-clause-taken : goal.returns-clause-taken
returns-clause-taken c = λ comps has.
    let machine = c.args.machine.now in
    let r = c.args.recorder.now in
    let weave = c.in_ok-woven.ensures comps (accesses_in r) c.args.comps.now has in
    let i : Interval = recorded_interval machine comps r in
    let graph_is : c.args.graph ≡ i.events = woven_events machine comps (accesses_in r) c.args.graph has.events.are in
    record {
      delays_are = ap (λ (j : Interval). j.delays) weave.is;
      comps_are = has.after_are ∙ ap (λ (g : List Event). comps_after comp_step g comps) graph_is;
      counts_are = c.add_events.ensures i
          (counted_so i c.counts.result.now (counts_in r) c.from.result (length (entries_of r)) c.counts.ensures (c.from.ensures ∙ c.access_count.ensures) (access_counts machine r c.requires.recorded comps))
          (ap (λ (j : Interval). j.events) (sym weave.is)) (ap (λ (j : Interval). j.fired) (sym weave.is)) (ap (λ (j : Interval). j.delays) (sym weave.is));
    }

pub returns-clause-recorded : goal.returns-clause-recorded
returns-clause-recorded c = λ comps has intervals was.
    let machine = c.args.machine.now in
    let r = c.args.recorder.now in
    let weave = c.in_ok-woven.ensures comps (accesses_in r) c.args.comps.now has in
    let i : Interval = recorded_interval machine comps r in
    c.in_ok-keep.ensures.added machine intervals i (ap (λ (j : Interval). j.events) (sym weave.is)) (ap (λ (j : Interval). j.fired) (sym weave.is)) was
