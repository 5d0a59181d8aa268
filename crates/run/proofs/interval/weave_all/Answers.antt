use Rattle.std.proofs.Common.{◌≡◌, ℕ, ◌^◌, ◌<◌, ◌≤◌, List, [], ◌∷◌, ◌++◌, length, map, All, refl, sym, subst, ap, ◌∙◌, arith}
use Rattle.std.specs.Vec.{with_items}
use Rattle.std.proofs.lemmas.List.{length-map, with_items_is}
use Rattle.std.proofs.lemmas.List.Elements.{All-map}
use Rattle.zs_num.specs.declared.entry.Entry.{Entry}
use Rattle.component.specs.declared.comp.Comp.{Comp}
use Rattle.stats.specs.Counts.{Interval}
use Rattle.bound_core.specs.NumberedCores.{NumberedCore, timed_of}
use Rattle.bound_core.specs.ShardWorld.{restarted}
use Rattle.bound_records.specs.CoreRuns.{AreNumbered}
use Rattle.run.specs.declared.simulation.Simulation.{Simulation}
use Rattle.run.specs.Recording.{IsRecordingOf}
use Rattle.run.specs.Records.{accesses_in, recorded_interval, taken_by}
use Rattle.reference.specs.ReferenceRun.{all_delayed, time_of, woven_interval}
use Rattle.run.specs.Simulation.{cores_of, listed}
use Rattle.run.proofs.BoundPhase.{OrderLaws, in_recorded_order}
use Rattle.run.proofs.Cores.{each_clock}
use Rattle.run.proofs.GoneOn.{gone_on, small_room}
use Rattle.run.proofs.NextInterval.{Laws}
use Rattle.run.proofs.RecordedFacts as F
use Rattle.run.proofs.interval.weave_all.Goals as goal

pub weave_recorded-requires-clause-turns : goal.weave_recorded-requires-clause-turns
weave_recorded-requires-clause-turns g c κs within =
    let h = c.requires.recorded.5 in
    F.taken_so c.args.turns c.args.simulation.now.recorder h.in_turn h.named

pub weave_recorded-requires-clause-recorded : goal.weave_recorded-requires-clause-recorded
weave_recorded-requires-clause-recorded g c κs within = c.requires.recorded.5.recorded

pub weave_recorded-requires-clause-components : goal.weave_recorded-requires-clause-components
weave_recorded-requires-clause-components g c κs within = F.components c.args.context.now.machine.now c.requires.recorded.0 c.requires.recorded.1 c.requires.recorded.2 (listed c.args.turns) c.args.simulation.now c.requires.recorded.3 c.requires.recorded.4 c.requires.recorded.5

pub weave_recorded-requires-clause-free : goal.weave_recorded-requires-clause-free
weave_recorded-requires-clause-free g c κs within = F.free c.args.context.now.machine.now c.requires.recorded.0 c.requires.recorded.1 c.requires.recorded.2 (listed c.args.turns) c.args.simulation.now c.requires.recorded.3 c.requires.recorded.4 c.requires.recorded.5

pub weave_recorded-requires-clause-fits : goal.weave_recorded-requires-clause-fits
weave_recorded-requires-clause-fits g c κs within =
    F.fits_in c.args.context.now.machine.now c.requires.recorded.0 c.requires.recorded.1 c.requires.recorded.2 (listed c.args.turns) c.args.simulation.now c.requires.recorded.3 c.requires.recorded.4 c.requires.recorded.5
    c.requires.machine c.intervals_are_woven.ensures c.args.context.now.net.now c.requires.net c.counters_are_sums.ensures c.sums_fit.ensures

pub delay_all-requires-clause-clocks : goal.delay_all-requires-clause-clocks
delay_all-requires-clause-clocks g c =
    subst (λ (cores : List NumberedCore). All (λ x. x.timed.clock ≤ 2 ^ 57) cores) (sym c.deref_mut.ensures.value)
    (each_clock (2 ^ 57) c.args.simulation.now.cores.items c.requires.recorded.5.bounded.clocks)

pub delay_all-requires-clause-count : goal.delay_all-requires-clause-count
delay_all-requires-clause-count g c =
    let sound = F.sound c.args.context.now.machine.now c.requires.recorded.0 c.requires.recorded.1 c.requires.recorded.2 (listed c.args.turns) c.args.simulation.now c.requires.recorded.3 c.requires.recorded.4 c.requires.recorded.5
    c.requires.machine c.intervals_are_woven.ensures c.args.context.now.net.now c.requires.net in
    ap length c.as_slice.ensures ∙ ap length c.in_ok-delays.ensures.taken.delays_are ∙ sound.delays ∙ sym c.requires.recorded.5.bounded.count ∙ sym (ap length c.deref_mut.ensures.value)

pub delay_all-requires-clause-delays : goal.delay_all-requires-clause-delays
delay_all-requires-clause-delays g c =
    let sound = F.sound c.args.context.now.machine.now c.requires.recorded.0 c.requires.recorded.1 c.requires.recorded.2 (listed c.args.turns) c.args.simulation.now c.requires.recorded.3 c.requires.recorded.4 c.requires.recorded.5
    c.requires.machine c.intervals_are_woven.ensures c.args.context.now.net.now c.requires.net in
    subst (All (λ (d : ℕ). d ≤ 2 ^ 62)) (sym (c.as_slice.ensures ∙ c.in_ok-delays.ensures.taken.delays_are)) sound.delays_small

pub returns-clause-turns : goal.returns-clause-turns
returns-clause-turns g c =
    let accesses : List Entry = accesses_in c.args.simulation.now.recorder in
    let bounded = c.requires.recorded.5.bounded in
    record {
      known = All-map (λ (n : ℕ). n < c.args.context.now.machine.now.cores) (λ (e : Entry). e.core) accesses bounded.cores;
      short = omega (arith, length-map accesses (λ (e : Entry). e.core), bounded.few, small_room c.args.context.now.machine.now c.requires.machine);
    }

pub returns-clause-goes_on : goal.returns-clause-goes_on
returns-clause-goes_on g c = λ image end before s goes h.
    let machine = c.args.context.now.machine.now in
    let q = c.args.simulation.now in
    let entries : List Entry = accesses_in q.recorder in
    let order : List ℕ = map (λ (e : Entry). e.core) entries in
    let taken = c.in_ok-delays.ensures.taken in
    let i : Interval = recorded_interval machine q.comps q.recorder in
    let laws : Laws (time_of machine) image end = record {
      alike = c.shards_do_as_the_machine.ensures (time_of machine) image end;
      histories = c.phases_are_histories.ensures (time_of machine) image end;
      next = c.intervals_begin.ensures.next;
      sums = c.counters_are_sums.ensures;
    }
    in
    let orders : OrderLaws (time_of machine) image end = record {
      histories = c.phases_are_histories.ensures (time_of machine) image end;
      phases = c.histories_are_phases.ensures (time_of machine) image end;
      recorded = c.recorded_order_is_a_history.ensures (time_of machine) image end;
      rise = c.stamps_rise.ensures;
      keep = c.recorded_order_keeps_the_stamps.ensures;
      decide = c.cores_decide_the_order.ensures;
    }
    in
    let some : 0 < length before.recorder.world.shards = omega (arith, goes.come.stand.some, length-map before.recorder.world.shards restarted) in
    let bounded = in_recorded_order machine image end before q (map (λ (e : Entry). e.core) (taken_by (listed c.args.turns) q.recorder)) entries some orders h.bounded in
    let waited : timed_of c.delay_all.new.cores ≡ all_delayed i.delays (cores_of q) =
    c.delay_all.ensures.timed
    ∙ ap (λ (delays : List ℕ). all_delayed delays (timed_of c.deref_mut.result.now)) (c.as_slice.ensures ∙ taken.delays_are)
    ∙ ap (λ (cores : List NumberedCore). all_delayed i.delays (timed_of cores)) c.deref_mut.ensures.value
    in
    let numbered : AreNumbered c.delay_all.new.cores = c.delay_all.ensures.numbered (subst AreNumbered (sym c.deref_mut.ensures.value) h.bounded.numbered) in
    let long : length c.delay_all.new.cores ≡ q.cores.len = omega (arith, c.delay_all.auto.cores, ap length c.deref_mut.ensures.value, q.cores.ok.0) in
    let written = with_items_is q.cores c.delay_all.new.cores long in
    let p : Simulation = record { cores = with_items q.cores c.delay_all.new.cores; recorder = q.recorder; comps = c.weave_recorded.new.comps; counters = c.weave_recorded.new.counters } in
    let found = F.led machine image end before (listed c.args.turns) q s goes h c.requires.machine c.intervals_are_woven.ensures c.args.context.now.net.now c.requires.net laws order bounded
    p (ap timed_of written ∙ waited) (subst AreNumbered (sym written) numbered) refl taken.comps_are taken.counts_are
    in
    let from : q.comps ≡ s.comps = h.comps ∙ goes.come.comps in
    let is : i ≡ woven_interval machine s.comps entries = ap (λ (comps : List Comp). woven_interval machine comps entries) from in
    gone_on machine image s order order entries c.args.recording.now c.weave_recorded.new.recording p
    refl refl found.0 found.1
    (λ was. subst (λ (j : Interval). IsRecordingOf machine (s.intervals ++ j ∷ []) c.weave_recorded.new.recording) is (c.in_ok-delays.ensures.recorded s.intervals was))
