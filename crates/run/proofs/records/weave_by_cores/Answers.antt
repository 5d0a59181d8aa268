use Rattle.std.proofs.Common.{List, length, sym, ◌∙◌, ap, subst, arith}
use Rattle.std.proofs.lemmas.List.{length-map}
use Rattle.component.specs.declared.comp.Comp.{Comp}
use Rattle.component.specs.Components.{AreComponents}
use Rattle.stats.specs.Added.{added}
use Rattle.stats.specs.Counts.{Interval}
use Rattle.stats.specs.CountsFit.{CountsFit}
use Rattle.bound_records.specs.Counted.{count_of}
use Rattle.bound_records.specs.Recorders.{counts_in, entries_of}
use Rattle.run.specs.Records.{recorded_interval}
use Rattle.run.proofs.GoneOn.{small_room}
use Rattle.run.proofs.RecordedChains as F
use Rattle.run.proofs.RecordedWeave as W
use Rattle.run.proofs.records.weave_by_cores.Goals as goal

pub weave_lists-requires-clause-chained : goal.weave_lists-requires-clause-chained
weave_lists-requires-clause-chained g c κs within =
    F.chained c.args.machine.now c.args.recorder.now c.requires.recorded c.args.net.now c.requires.net

pub weave_lists-requires-clause-few : goal.weave_lists-requires-clause-few
weave_lists-requires-clause-few g c κs within =
    F.few_events c.args.machine.now c.args.recorder.now c.requires.recorded c.args.net.now c.requires.net c.requires.machine c.args.comps.now c.requires.components c.requires.free c.intervals_are_woven.ensures

pub weave_lists-requires-clause-fits : goal.weave_lists-requires-clause-fits
weave_lists-requires-clause-fits g c κs within =
    F.graph_fits c.args.machine.now c.args.recorder.now c.requires.recorded c.args.net.now c.requires.net c.requires.machine c.args.comps.now c.requires.components c.requires.free c.intervals_are_woven.ensures

pub weave_lists-requires-clause-small : goal.weave_lists-requires-clause-small
weave_lists-requires-clause-small g c κs within =
    F.small_steps c.args.machine.now c.args.recorder.now c.requires.recorded c.args.net.now c.requires.net c.requires.machine c.args.comps.now c.requires.components c.requires.free c.intervals_are_woven.ensures

pub access_count-requires : goal.access_count-requires
access_count-requires g c = omega (arith, c.requires.recorded.few, small_room c.args.machine.now c.requires.machine)

pub add_counts-requires-clause-cores : goal.add_counts-requires-clause-cores
add_counts-requires-clause-cores g c =
    ap length c.counts.ensures ∙ length-map c.args.recorder.now.lists count_of ∙ c.requires.recorded.many ∙ sym c.requires.fits.core_counts

pub add_counts-requires-clause-delays : goal.add_counts-requires-clause-delays
add_counts-requires-clause-delays g c =
    let machine = c.args.machine.now in
    let r = c.args.recorder.now in
    let comps : List Comp = c.args.comps.now in
    let wove = F.wove machine r c.requires.recorded c.args.net.now c.requires.net comps c.weave_lists.new.comps c.in_ok-found.found c.in-Some.woven c.in-Some.is c.in_ok-found.ensures.woven in
    let sound = F.whole machine r c.requires.recorded c.args.net.now c.requires.net c.requires.machine comps c.requires.components c.requires.free c.intervals_are_woven.ensures in
    ap length (W.woven_delays machine r c.requires.recorded c.args.net.now c.requires.net comps c.weave_lists.new.comps c.in-Some.woven wove) ∙ sound.delays ∙ sym c.requires.fits.core_counts

pub add_counts-requires-clause-components : goal.add_counts-requires-clause-components
add_counts-requires-clause-components g c =
    let machine = c.args.machine.now in
    let r = c.args.recorder.now in
    let comps : List Comp = c.args.comps.now in
    let wove = F.wove machine r c.requires.recorded c.args.net.now c.requires.net comps c.weave_lists.new.comps c.in_ok-found.found c.in-Some.woven c.in-Some.is c.in_ok-found.ensures.woven in
    ap length c.deref.ensures.value ∙ W.as_many_counts machine r c.requires.recorded c.args.net.now c.requires.net comps c.weave_lists.new.comps c.in-Some.woven wove ∙ c.requires.components.count ∙ sym c.requires.fits.comp_counts

pub add_counts-requires-clause-comps : goal.add_counts-requires-clause-comps
add_counts-requires-clause-comps g c =
    let machine = c.args.machine.now in
    let r = c.args.recorder.now in
    let comps : List Comp = c.args.comps.now in
    let wove = F.wove machine r c.requires.recorded c.args.net.now c.requires.net comps c.weave_lists.new.comps c.in_ok-found.found c.in-Some.woven c.in-Some.is c.in_ok-found.ensures.woven in
    let sound = F.whole machine r c.requires.recorded c.args.net.now c.requires.net c.requires.machine comps c.requires.components c.requires.free c.intervals_are_woven.ensures in
    let stay : AreComponents machine c.weave_lists.new.comps =
    subst (AreComponents machine) (sym (W.woven_comps machine r c.requires.recorded c.args.net.now c.requires.net comps c.weave_lists.new.comps c.in-Some.woven wove)) sound.stay
    in
    stay.count ∙ sym c.requires.fits.comp_counts

pub add_counts-requires-clause-fits : goal.add_counts-requires-clause-fits
add_counts-requires-clause-fits g c =
    let machine = c.args.machine.now in
    let r = c.args.recorder.now in
    let comps : List Comp = c.args.comps.now in
    let wove = F.wove machine r c.requires.recorded c.args.net.now c.requires.net comps c.weave_lists.new.comps c.in_ok-found.found c.in-Some.woven c.in-Some.is c.in_ok-found.ensures.woven in
    let i : Interval = recorded_interval machine comps r in (
      i,
      W.counted_so i c.counts.result.now (counts_in r) c.from.result (length (entries_of r)) c.counts.ensures (c.from.ensures ∙ c.access_count.ensures) (W.access_counts machine r c.requires.recorded comps),
      sym (W.woven_delays machine r c.requires.recorded c.args.net.now c.requires.net comps c.weave_lists.new.comps c.in-Some.woven wove),
      W.events_counted_so i c.deref.result.now c.in-Some.woven.counts.items c.from-2.result c.in-Some.woven.events c.deref.ensures.value c.from-2.ensures (W.event_counts machine r c.requires.recorded c.args.net.now c.requires.net comps c.weave_lists.new.comps c.in-Some.woven wove),
      subst (λ (after : List Comp). CountsFit (added c.args.counters.now i after)) (sym (W.woven_comps machine r c.requires.recorded c.args.net.now c.requires.net comps c.weave_lists.new.comps c.in-Some.woven wove)) c.requires.fits.fits,
    )

pub returns-clause-taken : goal.returns-clause-taken
returns-clause-taken g c =
    let machine = c.args.machine.now in
    let r = c.args.recorder.now in
    let comps : List Comp = c.args.comps.now in
    let wove = F.wove machine r c.requires.recorded c.args.net.now c.requires.net comps c.weave_lists.new.comps c.in_ok-found.found c.in-Some.woven c.in-Some.is c.in_ok-found.ensures.woven in
    let i : Interval = recorded_interval machine comps r in
    record {
      delays_are = W.woven_delays machine r c.requires.recorded c.args.net.now c.requires.net comps c.weave_lists.new.comps c.in-Some.woven wove;
      comps_are = W.woven_comps machine r c.requires.recorded c.args.net.now c.requires.net comps c.weave_lists.new.comps c.in-Some.woven wove;
      counts_are = c.add_counts.ensures i
          (W.counted_so i c.counts.result.now (counts_in r) c.from.result (length (entries_of r)) c.counts.ensures (c.from.ensures ∙ c.access_count.ensures) (W.access_counts machine r c.requires.recorded comps))
          (sym (W.woven_delays machine r c.requires.recorded c.args.net.now c.requires.net comps c.weave_lists.new.comps c.in-Some.woven wove))
          (W.events_counted_so i c.deref.result.now c.in-Some.woven.counts.items c.from-2.result c.in-Some.woven.events c.deref.ensures.value c.from-2.ensures (W.event_counts machine r c.requires.recorded c.args.net.now c.requires.net comps c.weave_lists.new.comps c.in-Some.woven wove));
    }

pub returns-clause-off : goal.returns-clause-off
returns-clause-off g c = c.can_fire_by_cores.ensures.off c.if-not-can_fire_by_cores.false
