-- One firing is one of the weave's.
use Rattle.std.proofs.Common.{◌≡◌, ◌<◌, length, get_or, set, subst, ap, ◌∙◌, refl, arith, rules, add-one, length-set, ◌∷◌}
use Rattle.std.specs.Prelude.{slice_index}
use Rattle.std.proofs.lemmas.List.Sorted.{length_permutation}
use Rattle.event_graph.specs.OneListWeave.{after_firings}
use Rattle.weave_seq.proofs.CoreFiring.{AreTold, none_told}
use Rattle.weave_seq.proofs.CoreKeys.{key_of}
use Rattle.weave_seq.proofs.CoreStep.{component_within, comps_next, is_small, key_within, keys_with, keys_without, next_within, not_empty, serves_it, small_first, small_second, times_woven, told_next}
use Rattle.weave_seq.proofs.Firing.{no_event}
use Rattle.weave_seq.proofs.FiringStep.{time_parts}
use Rattle.weave_seq.proofs.by_core.fire_by_core.Goals as goal
use Rattle.weave_seq.proofs.by_core.fire_by_core.Goals.{then-next-gt0, else-next-gt0}

pub loop-init : goal.loop-init
unfolding after_firings
loop-init g c = record { comps = refl; told = none_told c.args.times.now; size = c.requires.times_size; keys = c.requires.ready; room = c.requires.room }

pub unreachable-requires : goal.unreachable-requires
unreachable-requires g c = not_empty g.C.Component.serves g.C.Component.floor g.C.Component.stepped g.C.Component.greatest c.each_firing_is_of_the_next_event.ensures c.events_fire_by_the_rules.ensures c.starts_so_far_stay_small.ensures c.args.events.now c.args.comps.now c.requires.numbered c.requires.fits c.requires.small c.requires.order c.requires.parents c.loop.counter (omega (arith, c.loop-test.true)) c.loop.ready.list c.loop.invariant.keys c.in_default.ensures.none

pub bounds-events-key : goal.bounds-events-key
bounds-events-key g c = key_within g.C.Component.serves g.C.Component.floor g.C.Component.stepped g.C.Component.greatest c.each_firing_is_of_the_next_event.ensures c.events_fire_by_the_rules.ensures c.starts_so_far_stay_small.ensures c.args.events.now c.args.comps.now c.requires.numbered c.requires.fits c.requires.small c.requires.order c.requires.parents c.loop.counter (omega (arith, c.loop-test.true)) c.loop.ready.list c.loop.invariant.keys c.in-Some.key c.pop.new.self.list c.in-Some.ensures.list c.in-Some.ensures.least

pub offset_bounds-comps-event : goal.offset_bounds-comps-event
offset_bounds-comps-event g c =
    let within_comps : (get_or c.args.events.now c.in-Some.key.number no_event).component < length c.loop.comps = component_within g.C.Component.serves g.C.Component.floor g.C.Component.stepped g.C.Component.greatest c.each_firing_is_of_the_next_event.ensures c.events_fire_by_the_rules.ensures c.starts_so_far_stay_small.ensures c.args.events.now c.args.comps.now c.requires.numbered c.requires.fits c.requires.small c.requires.order c.requires.parents c.loop.counter (omega (arith, c.loop-test.true)) c.loop.ready.list c.loop.invariant.keys c.in-Some.key c.pop.new.self.list c.in-Some.ensures.list c.in-Some.ensures.least c.loop.comps c.loop.invariant.comps in
    search rules

pub bounds-comps-event : goal.bounds-comps-event
bounds-comps-event g c = component_within g.C.Component.serves g.C.Component.floor g.C.Component.stepped g.C.Component.greatest c.each_firing_is_of_the_next_event.ensures c.events_fire_by_the_rules.ensures c.starts_so_far_stay_small.ensures c.args.events.now c.args.comps.now c.requires.numbered c.requires.fits c.requires.small c.requires.order c.requires.parents c.loop.counter (omega (arith, c.loop-test.true)) c.loop.ready.list c.loop.invariant.keys c.in-Some.key c.pop.new.self.list c.in-Some.ensures.list c.in-Some.ensures.least c.loop.comps c.loop.invariant.comps

pub step-finish-requires-clause-serves : goal.step-finish-requires-clause-serves
step-finish-requires-clause-serves g c = serves_it g.C.Component.serves g.C.Component.floor g.C.Component.stepped g.C.Component.greatest c.each_firing_is_of_the_next_event.ensures c.events_fire_by_the_rules.ensures c.starts_so_far_stay_small.ensures c.args.events.now c.args.comps.now c.requires.numbered c.requires.fits c.requires.small c.requires.order c.requires.parents c.loop.counter (omega (arith, c.loop-test.true)) c.loop.ready.list c.loop.invariant.keys c.in-Some.key c.pop.new.self.list c.in-Some.ensures.list c.in-Some.ensures.least c.loop.comps c.loop.invariant.comps c.index-comps-event.result

pub step-finish-requires-clause-small : goal.step-finish-requires-clause-small
step-finish-requires-clause-small g c = is_small g.C.Component.serves g.C.Component.floor g.C.Component.stepped g.C.Component.greatest c.each_firing_is_of_the_next_event.ensures c.events_fire_by_the_rules.ensures c.starts_so_far_stay_small.ensures c.args.events.now c.args.comps.now c.requires.numbered c.requires.fits c.requires.small c.requires.order c.requires.parents c.loop.counter (omega (arith, c.loop-test.true)) c.loop.ready.list c.loop.invariant.keys c.in-Some.key c.pop.new.self.list c.in-Some.ensures.list c.in-Some.ensures.least c.loop.comps c.loop.invariant.comps c.index-comps-event.result

pub bounds-times-key : goal.bounds-times-key
bounds-times-key g c = omega (arith, c.loop.invariant.size, key_within g.C.Component.serves g.C.Component.floor g.C.Component.stepped g.C.Component.greatest c.each_firing_is_of_the_next_event.ensures c.events_fire_by_the_rules.ensures c.starts_so_far_stay_small.ensures c.args.events.now c.args.comps.now c.requires.numbered c.requires.fits c.requires.small c.requires.order c.requires.parents c.loop.counter (omega (arith, c.loop-test.true)) c.loop.ready.list c.loop.invariant.keys c.in-Some.key c.pop.new.self.list c.in-Some.ensures.list c.in-Some.ensures.least)

pub bounds-following-key : goal.bounds-following-key
bounds-following-key g c = omega (arith, c.requires.following_size, key_within g.C.Component.serves g.C.Component.floor g.C.Component.stepped g.C.Component.greatest c.each_firing_is_of_the_next_event.ensures c.events_fire_by_the_rules.ensures c.starts_so_far_stay_small.ensures c.args.events.now c.args.comps.now c.requires.numbered c.requires.fits c.requires.small c.requires.order c.requires.parents c.loop.counter (omega (arith, c.loop-test.true)) c.loop.ready.list c.loop.invariant.keys c.in-Some.key c.pop.new.self.list c.in-Some.ensures.list c.in-Some.ensures.least)

pub bounds-events-next : goal.bounds-events-next
bounds-events-next g c = next_within g.C.Component.serves g.C.Component.floor g.C.Component.stepped g.C.Component.greatest c.each_firing_is_of_the_next_event.ensures c.events_fire_by_the_rules.ensures c.starts_so_far_stay_small.ensures c.args.events.now c.args.comps.now c.requires.numbered c.requires.fits c.requires.small c.requires.order c.requires.parents c.loop.counter (omega (arith, c.loop-test.true)) c.loop.ready.list c.loop.invariant.keys c.in-Some.key c.pop.new.self.list c.in-Some.ensures.list c.in-Some.ensures.least c.args.following.now c.requires.following c.if-next-gt0.true no_event

pub start_by-start-requires-clause-first : goal.start_by-start-requires-clause-first
start_by-start-requires-clause-first g c = small_first g.C.Component.serves g.C.Component.floor g.C.Component.stepped g.C.Component.greatest c.each_firing_is_of_the_next_event.ensures c.events_fire_by_the_rules.ensures c.starts_so_far_stay_small.ensures c.args.events.now c.args.comps.now c.requires.numbered c.requires.fits c.requires.small c.requires.order c.requires.parents c.loop.counter (omega (arith, c.loop-test.true)) c.loop.ready.list c.loop.invariant.keys c.in-Some.key c.pop.new.self.list c.in-Some.ensures.list c.in-Some.ensures.least c.args.following.now c.requires.following c.if-next-gt0.true no_event (set c.loop.times c.in-Some.key.number (time_parts c.in-Some.key.number c.in-Some.key.start c.step-finish.result)) (told_next g.C.Component.serves g.C.Component.floor g.C.Component.stepped g.C.Component.greatest c.each_firing_is_of_the_next_event.ensures c.events_fire_by_the_rules.ensures c.starts_so_far_stay_small.ensures c.args.events.now c.args.comps.now c.requires.numbered c.requires.fits c.requires.small c.requires.order c.requires.parents c.loop.counter (omega (arith, c.loop-test.true)) c.loop.ready.list c.loop.invariant.keys c.in-Some.key c.pop.new.self.list c.in-Some.ensures.list c.in-Some.ensures.least c.loop.comps c.loop.invariant.comps c.index-comps-event.result c.step-finish.result (ap (λ p. p.1) c.step-finish.ensures) c.loop.times c.loop.invariant.size c.loop.invariant.told)

pub start_by-start-requires-clause-second : goal.start_by-start-requires-clause-second
start_by-start-requires-clause-second g c = small_second g.C.Component.serves g.C.Component.floor g.C.Component.stepped g.C.Component.greatest c.each_firing_is_of_the_next_event.ensures c.events_fire_by_the_rules.ensures c.starts_so_far_stay_small.ensures c.args.events.now c.args.comps.now c.requires.numbered c.requires.fits c.requires.small c.requires.order c.requires.parents c.loop.counter (omega (arith, c.loop-test.true)) c.loop.ready.list c.loop.invariant.keys c.in-Some.key c.pop.new.self.list c.in-Some.ensures.list c.in-Some.ensures.least c.args.following.now c.requires.following c.if-next-gt0.true no_event (set c.loop.times c.in-Some.key.number (time_parts c.in-Some.key.number c.in-Some.key.start c.step-finish.result)) (told_next g.C.Component.serves g.C.Component.floor g.C.Component.stepped g.C.Component.greatest c.each_firing_is_of_the_next_event.ensures c.events_fire_by_the_rules.ensures c.starts_so_far_stay_small.ensures c.args.events.now c.args.comps.now c.requires.numbered c.requires.fits c.requires.small c.requires.order c.requires.parents c.loop.counter (omega (arith, c.loop-test.true)) c.loop.ready.list c.loop.invariant.keys c.in-Some.key c.pop.new.self.list c.in-Some.ensures.list c.in-Some.ensures.least c.loop.comps c.loop.invariant.comps c.index-comps-event.result c.step-finish.result (ap (λ p. p.1) c.step-finish.ensures) c.loop.times c.loop.invariant.size c.loop.invariant.told)

pub push-requires : goal.push-requires
push-requires g c = omega (arith, c.loop.invariant.room, c.in-Some.ensures.room, length_permutation c.loop.ready.list (c.in-Some.key ∷ c.pop.new.self.list) c.in-Some.ensures.list)

pub loop-preserved : goal.loop-preserved
loop-preserved g c =
    rw add-one
    (record {
      comps = comps_next g.C.Component.serves g.C.Component.floor g.C.Component.stepped g.C.Component.greatest c.each_firing_is_of_the_next_event.ensures c.events_fire_by_the_rules.ensures c.starts_so_far_stay_small.ensures c.args.events.now c.args.comps.now c.requires.numbered c.requires.fits c.requires.small c.requires.order c.requires.parents c.loop.counter (omega (arith, c.loop-test.true)) c.loop.ready.list c.loop.invariant.keys c.in-Some.key c.pop.new.self.list c.in-Some.ensures.list c.in-Some.ensures.least c.loop.comps c.loop.invariant.comps c.index-comps-event.result _ (ap (λ p. p.0) c.step-finish.ensures);
      told = (told_next g.C.Component.serves g.C.Component.floor g.C.Component.stepped g.C.Component.greatest c.each_firing_is_of_the_next_event.ensures c.events_fire_by_the_rules.ensures c.starts_so_far_stay_small.ensures c.args.events.now c.args.comps.now c.requires.numbered c.requires.fits c.requires.small c.requires.order c.requires.parents c.loop.counter (omega (arith, c.loop-test.true)) c.loop.ready.list c.loop.invariant.keys c.in-Some.key c.pop.new.self.list c.in-Some.ensures.list c.in-Some.ensures.least c.loop.comps c.loop.invariant.comps c.index-comps-event.result c.step-finish.result (ap (λ p. p.1) c.step-finish.ensures) c.loop.times c.loop.invariant.size c.loop.invariant.told);
      size = length-set c.loop.times c.in-Some.key.number _ ∙ c.loop.invariant.size;
      keys = elim c.if-next-gt0.branch [
        | then-next-gt0 w ↦
            rw w.ready-is
            (keys_with g.C.Component.serves g.C.Component.floor g.C.Component.stepped g.C.Component.greatest c.each_firing_is_of_the_next_event.ensures c.events_fire_by_the_rules.ensures c.starts_so_far_stay_small.ensures c.args.events.now c.args.comps.now c.requires.numbered c.requires.fits c.requires.small c.requires.order c.requires.parents c.loop.counter (omega (arith, c.loop-test.true)) c.loop.ready.list c.loop.invariant.keys c.in-Some.key c.pop.new.self.list c.in-Some.ensures.list c.in-Some.ensures.least c.args.following.now c.requires.following w.if-next-gt0.true no_event (set c.loop.times c.in-Some.key.number (time_parts c.in-Some.key.number c.in-Some.key.start c.step-finish.result)) (told_next g.C.Component.serves g.C.Component.floor g.C.Component.stepped g.C.Component.greatest c.each_firing_is_of_the_next_event.ensures c.events_fire_by_the_rules.ensures c.starts_so_far_stay_small.ensures c.args.events.now c.args.comps.now c.requires.numbered c.requires.fits c.requires.small c.requires.order c.requires.parents c.loop.counter (omega (arith, c.loop-test.true)) c.loop.ready.list c.loop.invariant.keys c.in-Some.key c.pop.new.self.list c.in-Some.ensures.list c.in-Some.ensures.least c.loop.comps c.loop.invariant.comps c.index-comps-event.result c.step-finish.result (ap (λ p. p.1) c.step-finish.ensures) c.loop.times c.loop.invariant.size c.loop.invariant.told)
            w.start_by-start.result w.start_by-start.ensures w.push.new.self.list w.push.ensures.list)
        | else-next-gt0 w ↦ rw w.ready-is (keys_without g.C.Component.serves g.C.Component.floor g.C.Component.stepped g.C.Component.greatest c.each_firing_is_of_the_next_event.ensures c.events_fire_by_the_rules.ensures c.starts_so_far_stay_small.ensures c.args.events.now c.args.comps.now c.requires.numbered c.requires.fits c.requires.small c.requires.order c.requires.parents c.loop.counter (omega (arith, c.loop-test.true)) c.loop.ready.list c.loop.invariant.keys c.in-Some.key c.pop.new.self.list c.in-Some.ensures.list c.in-Some.ensures.least c.args.following.now c.requires.following (λ some. omega (arith, some, w.if-next-gt0.false)))
      ];
      room = elim c.if-next-gt0.branch [
        | then-next-gt0 w ↦
            rw w.ready-is
            (omega (
              arith,
              c.loop.invariant.room,
              c.in-Some.ensures.room,
              length_permutation c.loop.ready.list (c.in-Some.key ∷ c.pop.new.self.list) c.in-Some.ensures.list,
              w.push.ensures.room,
              length_permutation (key_of w.start_by-start.result (slice_index c.args.following.now c.in-Some.key.number) ∷ c.pop.new.self.list) w.push.new.self.list w.push.ensures.list,
            ))
        | else-next-gt0 w ↦ rw w.ready-is (omega (arith, c.loop.invariant.room, c.in-Some.ensures.room, length_permutation c.loop.ready.list (c.in-Some.key ∷ c.pop.new.self.list) c.in-Some.ensures.list))
      ];
    })

pub returns-clause-times : goal.returns-clause-times
returns-clause-times g c =
    let end : c.loop.counter ≡ length c.args.events.now = omega (arith, c.loop-test.false, c.loop.auto.counter-end) in
    times_woven g.C.Component.stepped c.args.events.now c.args.comps.now c.requires.numbered (c.each_event_fires_once.ensures c.args.events.now c.args.comps.now c.requires.numbered c.requires.fits) c.loop.times c.loop.invariant.size
    (subst (λ k. AreTold (after_firings g.C.Component.stepped c.args.events.now c.args.comps.now k).fired c.loop.times) end c.loop.invariant.told)
