-- One firing is one of the weave's.
use Rattle.std.proofs.Common.{◌≡◌, ◌<◌, length, map, set, get_or, sym, ◌∙◌, ap, refl, arith, rules, add-one, true, false}
use Rattle.std.specs.Prelude.{slice_index}
use Rattle.std.proofs.lemmas.List.{get_or-set_same, length-map}
use Rattle.event_graph.specs.Firing.{time_so_far}
use Rattle.event_graph.specs.OneListWeave.{after_firings, finish_in}
use Rattle.weave_seq.specs.declared.children.ParentSlot.TheVariants.{Second}
use Rattle.weave_seq.specs.Known.{before_firing, finish_at, known_to_all, known_waits, told_to}
use Rattle.weave_seq.specs.SoFar.{SoFar}
use Rattle.weave_seq.proofs.Firing.{after_it, bounded, component_within, comps_next, finish_here, is_small, known_next, no_event, one_is_ready, serves_it, size, unfired, untold, within}
use Rattle.weave_seq.proofs.FiringStep.{finishes_stay, time_parts}
use Rattle.weave_seq.proofs.Telling.{so_far}
use Rattle.weave_seq.proofs.weave.fire_in_order.Goals as goal

pub loop-init : goal.loop-init
unfolding after_firings
loop-init g c = record { state = c.requires.unfired; comps = refl }

pub unreachable-requires : goal.unreachable-requires
unreachable-requires g c = one_is_ready g.C.Component.serves g.C.Component.floor g.C.Component.stepped g.C.Component.greatest c.each_firing_is_of_the_next_event.ensures c.events_fire_by_the_rules.ensures c.starts_so_far_stay_small.ensures c.args.events.now c.args.comps.now c.requires.numbered c.requires.fits c.requires.small c.loop.counter (omega (arith, c.loop-test.true)) c.loop.state c.loop.invariant.state c.in_default.ensures.none

pub bounds-events-key : goal.bounds-events-key
bounds-events-key g c = within g.C.Component.serves g.C.Component.floor g.C.Component.stepped g.C.Component.greatest c.each_firing_is_of_the_next_event.ensures c.events_fire_by_the_rules.ensures c.starts_so_far_stay_small.ensures c.args.events.now c.args.comps.now c.requires.numbered c.requires.fits c.requires.small c.loop.counter (omega (arith, c.loop-test.true)) c.loop.state c.loop.invariant.state c.in-Some.key c.in-Some.ensures.first

pub offset_bounds-comps-event : goal.offset_bounds-comps-event
offset_bounds-comps-event g c =
    let within_comps : (get_or c.args.events.now c.in-Some.key.number no_event).component < length c.loop.comps = component_within g.C.Component.serves g.C.Component.floor g.C.Component.stepped g.C.Component.greatest c.each_firing_is_of_the_next_event.ensures c.events_fire_by_the_rules.ensures c.starts_so_far_stay_small.ensures c.args.events.now c.args.comps.now c.requires.numbered c.requires.fits c.requires.small c.loop.counter (omega (arith, c.loop-test.true)) c.loop.state c.loop.invariant.state c.in-Some.key c.in-Some.ensures.first c.loop.comps c.loop.invariant.comps in
    search rules

pub bounds-comps-event : goal.bounds-comps-event
bounds-comps-event g c = component_within g.C.Component.serves g.C.Component.floor g.C.Component.stepped g.C.Component.greatest c.each_firing_is_of_the_next_event.ensures c.events_fire_by_the_rules.ensures c.starts_so_far_stay_small.ensures c.args.events.now c.args.comps.now c.requires.numbered c.requires.fits c.requires.small c.loop.counter (omega (arith, c.loop-test.true)) c.loop.state c.loop.invariant.state c.in-Some.key c.in-Some.ensures.first c.loop.comps c.loop.invariant.comps

pub step-finish-requires-clause-serves : goal.step-finish-requires-clause-serves
step-finish-requires-clause-serves g c = serves_it g.C.Component.serves g.C.Component.floor g.C.Component.stepped g.C.Component.greatest c.each_firing_is_of_the_next_event.ensures c.events_fire_by_the_rules.ensures c.starts_so_far_stay_small.ensures c.args.events.now c.args.comps.now c.requires.numbered c.requires.fits c.requires.small c.loop.counter (omega (arith, c.loop-test.true)) c.loop.state c.loop.invariant.state c.in-Some.key c.in-Some.ensures.first c.loop.comps c.loop.invariant.comps c.index-comps-event.result

pub step-finish-requires-clause-small : goal.step-finish-requires-clause-small
step-finish-requires-clause-small g c = is_small g.C.Component.serves g.C.Component.floor g.C.Component.stepped g.C.Component.greatest c.each_firing_is_of_the_next_event.ensures c.events_fire_by_the_rules.ensures c.starts_so_far_stay_small.ensures c.args.events.now c.args.comps.now c.requires.numbered c.requires.fits c.requires.small c.loop.counter (omega (arith, c.loop-test.true)) c.loop.state c.loop.invariant.state c.in-Some.key c.in-Some.ensures.first c.loop.comps c.loop.invariant.comps c.index-comps-event.result

pub keep-requires-clause-within : goal.keep-requires-clause-within
keep-requires-clause-within g c =
    omega (arith, within g.C.Component.serves g.C.Component.floor g.C.Component.stepped g.C.Component.greatest c.each_firing_is_of_the_next_event.ensures c.events_fire_by_the_rules.ensures c.starts_so_far_stay_small.ensures c.args.events.now c.args.comps.now c.requires.numbered c.requires.fits c.requires.small c.loop.counter (omega (arith, c.loop-test.true)) c.loop.state c.loop.invariant.state c.in-Some.key c.in-Some.ensures.first, ap (λ (v : SoFar). length v.times) c.in-Some.ensures.taken, ap (λ (v : SoFar). length v.times) c.loop.invariant.state, length-map c.args.events.now (time_so_far (after_firings g.C.Component.stepped c.args.events.now c.args.comps.now c.loop.counter).fired))

pub keep-requires-clause-taken : goal.keep-requires-clause-taken
keep-requires-clause-taken g c =
    let n : c.in-Some.key.number < length c.loop.state.waits =
    omega (arith, within g.C.Component.serves g.C.Component.floor g.C.Component.stepped g.C.Component.greatest c.each_firing_is_of_the_next_event.ensures c.events_fire_by_the_rules.ensures c.starts_so_far_stay_small.ensures c.args.events.now c.args.comps.now c.requires.numbered c.requires.fits c.requires.small c.loop.counter (omega (arith, c.loop-test.true)) c.loop.state c.loop.invariant.state c.in-Some.key c.in-Some.ensures.first, ap (λ (v : SoFar). length v.waits) c.loop.invariant.state, length-map c.args.events.now (known_waits (finish_in (after_firings g.C.Component.stepped c.args.events.now c.args.comps.now c.loop.counter).fired) (finish_in (after_firings g.C.Component.stepped c.args.events.now c.args.comps.now c.loop.counter).fired) (finish_in (after_firings g.C.Component.stepped c.args.events.now c.args.comps.now c.loop.counter).fired)))
    in
    ap (λ (v : SoFar). slice_index v.waits c.in-Some.key.number) c.in-Some.ensures.taken ∙ get_or-set_same c.loop.state.waits c.in-Some.key.number 255 0 n

pub tell_children-requires-clause-within : goal.tell_children-requires-clause-within
tell_children-requires-clause-within g c = within g.C.Component.serves g.C.Component.floor g.C.Component.stepped g.C.Component.greatest c.each_firing_is_of_the_next_event.ensures c.events_fire_by_the_rules.ensures c.starts_so_far_stay_small.ensures c.args.events.now c.args.comps.now c.requires.numbered c.requires.fits c.requires.small c.loop.counter (omega (arith, c.loop-test.true)) c.loop.state c.loop.invariant.state c.in-Some.key c.in-Some.ensures.first

pub tell_children-requires-clause-finish : goal.tell_children-requires-clause-finish
tell_children-requires-clause-finish g c = finish_here g.C.Component.serves g.C.Component.floor g.C.Component.stepped g.C.Component.greatest c.each_firing_is_of_the_next_event.ensures c.events_fire_by_the_rules.ensures c.starts_so_far_stay_small.ensures c.args.events.now c.args.comps.now c.requires.numbered c.requires.fits c.requires.small c.loop.counter (omega (arith, c.loop-test.true)) c.loop.state c.loop.invariant.state c.in-Some.key c.in-Some.ensures.first c.loop.comps c.loop.invariant.comps c.index-comps-event.result c.step-finish.result (ap (λ p. p.1) c.step-finish.ensures) c.keep.new.self (c.keep.ensures ∙ ap (λ (v : SoFar). so_far (set v.times c.in-Some.key.number (time_parts c.in-Some.key.number c.in-Some.key.start c.step-finish.result)) v.waits) c.in-Some.ensures.taken)

pub tell_children-requires-clause-after : goal.tell_children-requires-clause-after
tell_children-requires-clause-after g c = after_it g.C.Component.serves g.C.Component.floor g.C.Component.stepped g.C.Component.greatest c.each_firing_is_of_the_next_event.ensures c.events_fire_by_the_rules.ensures c.starts_so_far_stay_small.ensures c.args.events.now c.args.comps.now c.requires.numbered c.requires.fits c.requires.small c.loop.counter (omega (arith, c.loop-test.true)) c.loop.state c.loop.invariant.state c.in-Some.key c.in-Some.ensures.first c.loop.comps c.loop.invariant.comps c.index-comps-event.result c.step-finish.result (ap (λ p. p.1) c.step-finish.ensures) c.keep.new.self (c.keep.ensures ∙ ap (λ (v : SoFar). so_far (set v.times c.in-Some.key.number (time_parts c.in-Some.key.number c.in-Some.key.start c.step-finish.result)) v.waits) c.in-Some.ensures.taken)

pub tell_children-requires-clause-untold : goal.tell_children-requires-clause-untold
tell_children-requires-clause-untold g c =
    untold g.C.Component.serves g.C.Component.floor g.C.Component.stepped g.C.Component.greatest c.each_firing_is_of_the_next_event.ensures c.events_fire_by_the_rules.ensures c.starts_so_far_stay_small.ensures c.args.events.now c.args.comps.now c.requires.numbered c.requires.fits c.requires.small c.loop.counter (omega (arith, c.loop-test.true)) c.loop.state c.loop.invariant.state c.in-Some.key c.in-Some.ensures.first c.loop.comps c.loop.invariant.comps c.index-comps-event.result c.step-finish.result (ap (λ p. p.1) c.step-finish.ensures) c.keep.new.self (c.keep.ensures ∙ ap (λ (v : SoFar). so_far (set v.times c.in-Some.key.number (time_parts c.in-Some.key.number c.in-Some.key.start c.step-finish.result)) v.waits) c.in-Some.ensures.taken) ∙ ap (λ k. told_to k false c.in-Some.key.number (finish_at c.keep.new.self.times) c.args.events.now) (sym c.requires.first_slot)

pub tell_children-requires-clause-unfired : goal.tell_children-requires-clause-unfired
tell_children-requires-clause-unfired g c = unfired g.C.Component.serves g.C.Component.floor g.C.Component.stepped g.C.Component.greatest c.each_firing_is_of_the_next_event.ensures c.events_fire_by_the_rules.ensures c.starts_so_far_stay_small.ensures c.args.events.now c.args.comps.now c.requires.numbered c.requires.fits c.requires.small c.loop.counter (omega (arith, c.loop-test.true)) c.loop.state c.loop.invariant.state c.in-Some.key c.in-Some.ensures.first c.loop.comps c.loop.invariant.comps c.index-comps-event.result c.step-finish.result (ap (λ p. p.1) c.step-finish.ensures) c.keep.new.self (c.keep.ensures ∙ ap (λ (v : SoFar). so_far (set v.times c.in-Some.key.number (time_parts c.in-Some.key.number c.in-Some.key.start c.step-finish.result)) v.waits) c.in-Some.ensures.taken) c.args.first.now.slot

pub tell_children-requires-clause-small : goal.tell_children-requires-clause-small
tell_children-requires-clause-small g c = bounded g.C.Component.serves g.C.Component.floor g.C.Component.stepped g.C.Component.greatest c.each_firing_is_of_the_next_event.ensures c.events_fire_by_the_rules.ensures c.starts_so_far_stay_small.ensures c.args.events.now c.args.comps.now c.requires.numbered c.requires.fits c.requires.small c.loop.counter (omega (arith, c.loop-test.true)) c.loop.state c.loop.invariant.state c.in-Some.key c.in-Some.ensures.first c.loop.comps c.loop.invariant.comps c.index-comps-event.result c.step-finish.result (ap (λ p. p.1) c.step-finish.ensures) c.keep.new.self (c.keep.ensures ∙ ap (λ (v : SoFar). so_far (set v.times c.in-Some.key.number (time_parts c.in-Some.key.number c.in-Some.key.start c.step-finish.result)) v.waits) c.in-Some.ensures.taken) c.args.first.now.slot

pub tell_children-requires-in-loop-clause-within : goal.tell_children-requires-in-loop-clause-within
tell_children-requires-in-loop-clause-within g c = within g.C.Component.serves g.C.Component.floor g.C.Component.stepped g.C.Component.greatest c.each_firing_is_of_the_next_event.ensures c.events_fire_by_the_rules.ensures c.starts_so_far_stay_small.ensures c.args.events.now c.args.comps.now c.requires.numbered c.requires.fits c.requires.small c.loop.counter (omega (arith, c.loop-test.true)) c.loop.state c.loop.invariant.state c.in-Some.key c.in-Some.ensures.first

pub tell_children-requires-in-loop-clause-finish : goal.tell_children-requires-in-loop-clause-finish
tell_children-requires-in-loop-clause-finish g c = ap (λ f. f c.in-Some.key.number) (finishes_stay c.args.events.now c.requires.numbered (finish_at c.keep.new.self.times) (before_firing c.in-Some.key.number (finish_at c.keep.new.self.times)) c.keep.new.self.times c.tell_children.new.state (size g.C.Component.serves g.C.Component.floor g.C.Component.stepped g.C.Component.greatest c.each_firing_is_of_the_next_event.ensures c.events_fire_by_the_rules.ensures c.starts_so_far_stay_small.ensures c.args.events.now c.args.comps.now c.requires.numbered c.requires.fits c.requires.small c.loop.counter (omega (arith, c.loop-test.true)) c.loop.state c.loop.invariant.state c.in-Some.key c.in-Some.ensures.first c.loop.comps c.loop.invariant.comps c.index-comps-event.result c.step-finish.result (ap (λ p. p.1) c.step-finish.ensures) c.keep.new.self (c.keep.ensures ∙ ap (λ (v : SoFar). so_far (set v.times c.in-Some.key.number (time_parts c.in-Some.key.number c.in-Some.key.start c.step-finish.result)) v.waits) c.in-Some.ensures.taken)) (c.tell_children.ensures ∙ ap (λ k. told_to k true c.in-Some.key.number (finish_at c.keep.new.self.times) c.args.events.now) c.requires.first_slot)) ∙ finish_here g.C.Component.serves g.C.Component.floor g.C.Component.stepped g.C.Component.greatest c.each_firing_is_of_the_next_event.ensures c.events_fire_by_the_rules.ensures c.starts_so_far_stay_small.ensures c.args.events.now c.args.comps.now c.requires.numbered c.requires.fits c.requires.small c.loop.counter (omega (arith, c.loop-test.true)) c.loop.state c.loop.invariant.state c.in-Some.key c.in-Some.ensures.first c.loop.comps c.loop.invariant.comps c.index-comps-event.result c.step-finish.result (ap (λ p. p.1) c.step-finish.ensures) c.keep.new.self (c.keep.ensures ∙ ap (λ (v : SoFar). so_far (set v.times c.in-Some.key.number (time_parts c.in-Some.key.number c.in-Some.key.start c.step-finish.result)) v.waits) c.in-Some.ensures.taken)

pub tell_children-requires-in-loop-clause-after : goal.tell_children-requires-in-loop-clause-after
tell_children-requires-in-loop-clause-after g c = after_it g.C.Component.serves g.C.Component.floor g.C.Component.stepped g.C.Component.greatest c.each_firing_is_of_the_next_event.ensures c.events_fire_by_the_rules.ensures c.starts_so_far_stay_small.ensures c.args.events.now c.args.comps.now c.requires.numbered c.requires.fits c.requires.small c.loop.counter (omega (arith, c.loop-test.true)) c.loop.state c.loop.invariant.state c.in-Some.key c.in-Some.ensures.first c.loop.comps c.loop.invariant.comps c.index-comps-event.result c.step-finish.result (ap (λ p. p.1) c.step-finish.ensures) c.keep.new.self (c.keep.ensures ∙ ap (λ (v : SoFar). so_far (set v.times c.in-Some.key.number (time_parts c.in-Some.key.number c.in-Some.key.start c.step-finish.result)) v.waits) c.in-Some.ensures.taken)

pub tell_children-requires-in-loop-clause-untold : goal.tell_children-requires-in-loop-clause-untold
tell_children-requires-in-loop-clause-untold g c =
    (c.tell_children.ensures ∙ ap (λ k. told_to k true c.in-Some.key.number (finish_at c.keep.new.self.times) c.args.events.now) c.requires.first_slot)
    ∙ (ap (λ f. told_to Second false c.in-Some.key.number f c.args.events.now) (sym (finishes_stay c.args.events.now c.requires.numbered (finish_at c.keep.new.self.times) (before_firing c.in-Some.key.number (finish_at c.keep.new.self.times)) c.keep.new.self.times c.tell_children.new.state (size g.C.Component.serves g.C.Component.floor g.C.Component.stepped g.C.Component.greatest c.each_firing_is_of_the_next_event.ensures c.events_fire_by_the_rules.ensures c.starts_so_far_stay_small.ensures c.args.events.now c.args.comps.now c.requires.numbered c.requires.fits c.requires.small c.loop.counter (omega (arith, c.loop-test.true)) c.loop.state c.loop.invariant.state c.in-Some.key c.in-Some.ensures.first c.loop.comps c.loop.invariant.comps c.index-comps-event.result c.step-finish.result (ap (λ p. p.1) c.step-finish.ensures) c.keep.new.self (c.keep.ensures ∙ ap (λ (v : SoFar). so_far (set v.times c.in-Some.key.number (time_parts c.in-Some.key.number c.in-Some.key.start c.step-finish.result)) v.waits) c.in-Some.ensures.taken)) (c.tell_children.ensures ∙ ap (λ k. told_to k true c.in-Some.key.number (finish_at c.keep.new.self.times) c.args.events.now) c.requires.first_slot))) ∙ ap (λ k. told_to k false c.in-Some.key.number (finish_at c.tell_children.new.state.times) c.args.events.now) (sym c.requires.second_slot))

pub tell_children-requires-in-loop-clause-unfired : goal.tell_children-requires-in-loop-clause-unfired
tell_children-requires-in-loop-clause-unfired g c = λ j e p there parent n. ap (λ f. f j) (finishes_stay c.args.events.now c.requires.numbered (finish_at c.keep.new.self.times) (before_firing c.in-Some.key.number (finish_at c.keep.new.self.times)) c.keep.new.self.times c.tell_children.new.state (size g.C.Component.serves g.C.Component.floor g.C.Component.stepped g.C.Component.greatest c.each_firing_is_of_the_next_event.ensures c.events_fire_by_the_rules.ensures c.starts_so_far_stay_small.ensures c.args.events.now c.args.comps.now c.requires.numbered c.requires.fits c.requires.small c.loop.counter (omega (arith, c.loop-test.true)) c.loop.state c.loop.invariant.state c.in-Some.key c.in-Some.ensures.first c.loop.comps c.loop.invariant.comps c.index-comps-event.result c.step-finish.result (ap (λ p. p.1) c.step-finish.ensures) c.keep.new.self (c.keep.ensures ∙ ap (λ (v : SoFar). so_far (set v.times c.in-Some.key.number (time_parts c.in-Some.key.number c.in-Some.key.start c.step-finish.result)) v.waits) c.in-Some.ensures.taken)) (c.tell_children.ensures ∙ ap (λ k. told_to k true c.in-Some.key.number (finish_at c.keep.new.self.times) c.args.events.now) c.requires.first_slot)) ∙ unfired g.C.Component.serves g.C.Component.floor g.C.Component.stepped g.C.Component.greatest c.each_firing_is_of_the_next_event.ensures c.events_fire_by_the_rules.ensures c.starts_so_far_stay_small.ensures c.args.events.now c.args.comps.now c.requires.numbered c.requires.fits c.requires.small c.loop.counter (omega (arith, c.loop-test.true)) c.loop.state c.loop.invariant.state c.in-Some.key c.in-Some.ensures.first c.loop.comps c.loop.invariant.comps c.index-comps-event.result c.step-finish.result (ap (λ p. p.1) c.step-finish.ensures) c.keep.new.self (c.keep.ensures ∙ ap (λ (v : SoFar). so_far (set v.times c.in-Some.key.number (time_parts c.in-Some.key.number c.in-Some.key.start c.step-finish.result)) v.waits) c.in-Some.ensures.taken) c.args.second.now.slot j e p there parent n

pub tell_children-requires-in-loop-clause-small : goal.tell_children-requires-in-loop-clause-small
tell_children-requires-in-loop-clause-small g c = bounded g.C.Component.serves g.C.Component.floor g.C.Component.stepped g.C.Component.greatest c.each_firing_is_of_the_next_event.ensures c.events_fire_by_the_rules.ensures c.starts_so_far_stay_small.ensures c.args.events.now c.args.comps.now c.requires.numbered c.requires.fits c.requires.small c.loop.counter (omega (arith, c.loop-test.true)) c.loop.state c.loop.invariant.state c.in-Some.key c.in-Some.ensures.first c.loop.comps c.loop.invariant.comps c.index-comps-event.result c.step-finish.result (ap (λ p. p.1) c.step-finish.ensures) c.keep.new.self (c.keep.ensures ∙ ap (λ (v : SoFar). so_far (set v.times c.in-Some.key.number (time_parts c.in-Some.key.number c.in-Some.key.start c.step-finish.result)) v.waits) c.in-Some.ensures.taken) c.args.second.now.slot

pub loop-preserved : goal.loop-preserved
loop-preserved g c =
    let one = add-one c.loop.counter in
    let all_told : c.tell_children-in-loop.new.state ≡ known_to_all (finish_at c.keep.new.self.times) c.args.events.now =
    c.tell_children-in-loop.ensures
    ∙ (ap (λ k. told_to k true c.in-Some.key.number (finish_at c.tell_children.new.state.times) c.args.events.now) c.requires.second_slot ∙ ap (λ f. known_to_all f c.args.events.now) (finishes_stay c.args.events.now c.requires.numbered (finish_at c.keep.new.self.times) (before_firing c.in-Some.key.number (finish_at c.keep.new.self.times)) c.keep.new.self.times c.tell_children.new.state (size g.C.Component.serves g.C.Component.floor g.C.Component.stepped g.C.Component.greatest c.each_firing_is_of_the_next_event.ensures c.events_fire_by_the_rules.ensures c.starts_so_far_stay_small.ensures c.args.events.now c.args.comps.now c.requires.numbered c.requires.fits c.requires.small c.loop.counter (omega (arith, c.loop-test.true)) c.loop.state c.loop.invariant.state c.in-Some.key c.in-Some.ensures.first c.loop.comps c.loop.invariant.comps c.index-comps-event.result c.step-finish.result (ap (λ p. p.1) c.step-finish.ensures) c.keep.new.self (c.keep.ensures ∙ ap (λ (v : SoFar). so_far (set v.times c.in-Some.key.number (time_parts c.in-Some.key.number c.in-Some.key.start c.step-finish.result)) v.waits) c.in-Some.ensures.taken)) (c.tell_children.ensures ∙ ap (λ k. told_to k true c.in-Some.key.number (finish_at c.keep.new.self.times) c.args.events.now) c.requires.first_slot)))
    in
    record {
      state = known_next g.C.Component.serves g.C.Component.floor g.C.Component.stepped g.C.Component.greatest c.each_firing_is_of_the_next_event.ensures c.events_fire_by_the_rules.ensures c.starts_so_far_stay_small.ensures c.args.events.now c.args.comps.now c.requires.numbered c.requires.fits c.requires.small c.loop.counter (omega (arith, c.loop-test.true)) c.loop.state c.loop.invariant.state c.in-Some.key c.in-Some.ensures.first c.loop.comps c.loop.invariant.comps c.index-comps-event.result c.step-finish.result (ap (λ p. p.1) c.step-finish.ensures) c.keep.new.self (c.keep.ensures ∙ ap (λ (v : SoFar). so_far (set v.times c.in-Some.key.number (time_parts c.in-Some.key.number c.in-Some.key.start c.step-finish.result)) v.waits) c.in-Some.ensures.taken) c.tell_children-in-loop.new.state all_told ∙ ap (λ k. known_to_all (finish_in (after_firings g.C.Component.stepped c.args.events.now c.args.comps.now k).fired) c.args.events.now) (sym one);
      comps = comps_next g.C.Component.serves g.C.Component.floor g.C.Component.stepped g.C.Component.greatest c.each_firing_is_of_the_next_event.ensures c.events_fire_by_the_rules.ensures c.starts_so_far_stay_small.ensures c.args.events.now c.args.comps.now c.requires.numbered c.requires.fits c.requires.small c.loop.counter (omega (arith, c.loop-test.true)) c.loop.state c.loop.invariant.state c.in-Some.key c.in-Some.ensures.first c.loop.comps c.loop.invariant.comps c.index-comps-event.result c.step-finish.new.self (ap (λ p. p.0) c.step-finish.ensures) ∙ ap (λ k. (after_firings g.C.Component.stepped c.args.events.now c.args.comps.now k).comps) (sym one);
    }

pub returns-clause-times : goal.returns-clause-times
returns-clause-times g c =
    let last : c.loop.counter ≡ length c.args.events.now = omega (arith, c.loop-test.false) in
    ap (λ (v : SoFar). v.times) c.loop.invariant.state
    ∙ (ap (λ k. map (time_so_far (after_firings g.C.Component.stepped c.args.events.now c.args.comps.now k).fired) c.args.events.now) last ∙ c.times_so_far_become_the_weaves.ensures c.args.events.now c.args.comps.now c.requires.numbered c.requires.fits)
