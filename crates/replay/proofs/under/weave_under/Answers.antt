use Rattle.std.proofs.Common.{◌≡◌, ℕ, ◌^◌, ◌≤◌, List, length, Some, All, refl, sym, subst, ap, ◌∙◌, arith}
use Rattle.std.specs.Vec.{with_items}
use Rattle.std.proofs.lemmas.List.{with_items_is}
use Rattle.stats.specs.Counts.{Interval}
use Rattle.bound_core.specs.NumberedCores.{NumberedCore, timed_of}
use Rattle.bound_records.specs.CoreRuns.{AreNumbered}
use Rattle.run.specs.declared.simulation.Simulation.{Simulation}
use Rattle.run.specs.Records.{accesses_in, recorded_interval}
use Rattle.reference.specs.ReferenceRun.{all_delayed, time_of}
use Rattle.run.specs.Simulation.{IsBoundPhase, cores_of}
use Rattle.run.proofs.Cores.{each_clock}
use Rattle.run.proofs.NextInterval.{Laws}
use Rattle.run.proofs.RecordedFacts as F
use Rattle.replay.proofs.under.weave_under.Goals as goal

pub weave_replayed-requires-clause-turns : goal.weave_replayed-requires-clause-turns
weave_replayed-requires-clause-turns c = record { stamped = c.requires.recorded.5.in_turn; named = c.requires.recorded.5.named }

pub weave_replayed-requires-clause-recorded : goal.weave_replayed-requires-clause-recorded
weave_replayed-requires-clause-recorded c = c.requires.recorded.5.recorded

pub weave_replayed-requires-clause-components : goal.weave_replayed-requires-clause-components
weave_replayed-requires-clause-components c = F.components c.args.machine.now c.requires.recorded.0 c.requires.recorded.1 c.requires.recorded.2 (Some c.args.turns.now) c.args.simulation.now c.requires.recorded.3 c.requires.recorded.4 c.requires.recorded.5

pub weave_replayed-requires-clause-free : goal.weave_replayed-requires-clause-free
weave_replayed-requires-clause-free c = F.free c.args.machine.now c.requires.recorded.0 c.requires.recorded.1 c.requires.recorded.2 (Some c.args.turns.now) c.args.simulation.now c.requires.recorded.3 c.requires.recorded.4 c.requires.recorded.5

pub weave_replayed-requires-clause-fits : goal.weave_replayed-requires-clause-fits
weave_replayed-requires-clause-fits c =
    F.fits_in c.args.machine.now c.requires.recorded.0 c.requires.recorded.1 c.requires.recorded.2 (Some c.args.turns.now) c.args.simulation.now c.requires.recorded.3 c.requires.recorded.4 c.requires.recorded.5
    c.requires.machine c.intervals_are_woven.ensures c.args.net.now c.requires.net c.counters_are_sums.ensures c.sums_fit.ensures

pub delay_all-requires-clause-clocks : goal.delay_all-requires-clause-clocks
delay_all-requires-clause-clocks c =
    subst (λ (cores : List NumberedCore). All (λ x. x.timed.clock ≤ 2 ^ 57) cores) (sym c.deref_mut.ensures.value)
    (each_clock (2 ^ 57) c.args.simulation.now.cores.items c.requires.recorded.5.bounded.clocks)

pub delay_all-requires-clause-count : goal.delay_all-requires-clause-count
delay_all-requires-clause-count c =
    let sound = F.sound c.args.machine.now c.requires.recorded.0 c.requires.recorded.1 c.requires.recorded.2 (Some c.args.turns.now) c.args.simulation.now c.requires.recorded.3 c.requires.recorded.4 c.requires.recorded.5
    c.requires.machine c.intervals_are_woven.ensures c.args.net.now c.requires.net in
    ap length c.as_slice.ensures ∙ ap length c.in_ok-delays.ensures.delays_are ∙ sound.delays ∙ sym c.requires.recorded.5.bounded.count ∙ sym (ap length c.deref_mut.ensures.value)

pub delay_all-requires-clause-delays : goal.delay_all-requires-clause-delays
delay_all-requires-clause-delays c =
    let sound = F.sound c.args.machine.now c.requires.recorded.0 c.requires.recorded.1 c.requires.recorded.2 (Some c.args.turns.now) c.args.simulation.now c.requires.recorded.3 c.requires.recorded.4 c.requires.recorded.5
    c.requires.machine c.intervals_are_woven.ensures c.args.net.now c.requires.net in
    subst (All (λ (d : ℕ). d ≤ 2 ^ 62)) (sym (c.as_slice.ensures ∙ c.in_ok-delays.ensures.delays_are)) sound.delays_small

pub returns : goal.returns
returns c = λ image end before s goes h.
    let machine = c.args.machine.now in
    let q = c.args.simulation.now in
    let turns : List ℕ = c.args.turns.now in
    let taken = c.in_ok-delays.ensures in
    let i : Interval = recorded_interval machine q.comps q.recorder in
    let laws : Laws (time_of machine) image end = record {
      alike = c.shards_do_as_the_machine.ensures (time_of machine) image end;
      histories = c.phases_are_histories.ensures (time_of machine) image end;
      next = c.intervals_begin.ensures.next;
      sums = c.counters_are_sums.ensures;
    }
    in
    let bounded = subst (λ (ns : List ℕ). IsBoundPhase machine image end before ns q (accesses_in q.recorder)) (sym h.named) h.bounded in
    let waited : timed_of c.delay_all.new.cores ≡ all_delayed i.delays (cores_of q) =
    c.delay_all.ensures.timed
    ∙ ap (λ (delays : List ℕ). all_delayed delays (timed_of c.deref_mut.result.now)) (c.as_slice.ensures ∙ taken.delays_are)
    ∙ ap (λ (cores : List NumberedCore). all_delayed i.delays (timed_of cores)) c.deref_mut.ensures.value
    in
    let numbered : AreNumbered c.delay_all.new.cores = c.delay_all.ensures.numbered (subst AreNumbered (sym c.deref_mut.ensures.value) h.bounded.numbered) in
    let long : length c.delay_all.new.cores ≡ q.cores.len = omega (arith, c.delay_all.auto.cores, ap length c.deref_mut.ensures.value, q.cores.ok.0) in
    let written = with_items_is q.cores c.delay_all.new.cores long in
    let p : Simulation = record { cores = with_items q.cores c.delay_all.new.cores; recorder = q.recorder; comps = c.weave_replayed.new.comps; counters = c.weave_replayed.new.counters } in
    let found = F.led machine image end before (Some turns) q s goes h c.requires.machine c.intervals_are_woven.ensures c.args.net.now c.requires.net laws turns bounded
    p (ap timed_of written ∙ waited) (subst AreNumbered (sym written) numbered) refl taken.comps_are taken.counts_are
    in
    found.0
