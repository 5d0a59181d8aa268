-- One event more is linked, and ready where it has no parent. There was room for it.
use Rattle.std.proofs.Common.{◌≡◌, ◌<◌, ◌+◌, ℕ, [], ◌∷◌, length, get_or, sym, ◌∙◌, ap, subst, arith, IsPermutation}
use Rattle.std.proofs.lemmas.List.{length_push}
use Rattle.zs_num.specs.declared.time.Key.{Key}
use Rattle.event_graph.specs.OneListWeave.{finish_in}
use Rattle.weave_seq.specs.Chains.{AreChains, parents_in}
use Rattle.weave_seq.specs.Known.{known_time, known_waits}
use Rattle.weave_seq.proofs.Begins.{below_all, chained, front_more, number_is, parent_within, ready_more, waits_more}
use Rattle.weave_seq.proofs.Firing.{no_event}
use Rattle.weave_seq.proofs.begin.begin.Goals as goal
use Rattle.weave_seq.proofs.begin.begin.Goals.{then-parents-eq0, else-parents-eq0}

abbrev key_of : ℕ → ℕ → Key
key_of start number = record { start = start; number = number }

pub add-requires-clause-parent : goal.add-requires-clause-parent
add-requires-clause-parent c = parent_within c.args.events.now c.requires c.loop-event.event-index no_event (omega (arith, c.loop-event-test.true)) c.loop-event.first.slot c.loop-event.first.last.items c.loop-event.first.before.items c.loop-event.invariant.first

pub add-requires-in-loop-event-clause-parent : goal.add-requires-in-loop-event-clause-parent
add-requires-in-loop-event-clause-parent c = parent_within c.args.events.now c.requires c.loop-event.event-index no_event (omega (arith, c.loop-event-test.true)) c.loop-event.second.slot c.loop-event.second.last.items c.loop-event.second.before.items c.loop-event.invariant.second

pub push-requires : goal.push-requires
push-requires c =
    let i = c.loop-event.invariant in
    let few : length c.loop-event.ready.list < length c.args.events.now =
    below_all c.loop-event.times.items c.loop-event.waits.items c.loop-event.event-index (length c.args.events.now) i.times_size i.waits_size c.loop-event.ready.list i.keys (omega (arith, c.loop-event-test.true))
    in
    omega (arith, few, i.room)

pub loop-event-preserved : goal.loop-event-preserved
loop-event-preserved c =
    let i = c.loop-event.invariant in
    let number : (get_or c.args.events.now c.loop-event.event-index no_event).number ≡ c.loop-event.event-index = number_is c.args.events.now c.requires c.loop-event.event-index no_event (omega (arith, c.loop-event-test.true)) in
    record {
      first_slot = c.add.ensures.slot ∙ i.first_slot;
      second_slot = c.add-in-loop-event.ensures.slot ∙ i.second_slot;
      first = subst (λ k. AreChains (parents_in k c.args.events.now) c.add.new.self.last.items c.add.new.self.before.items (c.loop-event.event-index + 1)) (sym c.add.ensures.slot)
          (chained c.args.events.now c.requires c.loop-event.event-index no_event (omega (arith, c.loop-event-test.true)) c.loop-event.first.slot c.loop-event.first.last.items c.loop-event.first.before.items c.add.new.self.last.items c.add.new.self.before.items i.first c.add.ensures.last c.add.ensures.before);
      second = subst (λ k. AreChains (parents_in k c.args.events.now) c.add-in-loop-event.new.self.last.items c.add-in-loop-event.new.self.before.items (c.loop-event.event-index + 1)) (sym c.add-in-loop-event.ensures.slot)
          (chained c.args.events.now c.requires c.loop-event.event-index no_event (omega (arith, c.loop-event-test.true)) c.loop-event.second.slot c.loop-event.second.last.items c.loop-event.second.before.items c.add-in-loop-event.new.self.last.items c.add-in-loop-event.new.self.before.items i.second c.add-in-loop-event.ensures.last c.add-in-loop-event.ensures.before);
      times = front_more (known_time (finish_in []) (finish_in []) (finish_in [])) c.args.events.now c.loop-event.event-index no_event c.loop-event.times.items c.push_reserved.new.self.items _ (omega (arith, c.loop-event-test.true)) i.times c.push_reserved.ensures.items
          (ap (λ n. record { number = (get_or c.args.events.now c.loop-event.event-index no_event).number; start = n; finish = 0 }) c.earliest_start-start.ensures);
      waits = front_more (known_waits (finish_in []) (finish_in []) (finish_in [])) c.args.events.now c.loop-event.event-index no_event c.loop-event.waits.items c.push_reserved-in-loop-event.new.self.items c.parents-parents.result (omega (arith, c.loop-event-test.true)) i.waits c.push_reserved-in-loop-event.ensures.items c.parents-parents.ensures;
      times_size = ap length c.push_reserved.ensures.items ∙ (length_push c.loop-event.times.items _ ∙ ap (λ n. n + 1) i.times_size);
      waits_size = ap length c.push_reserved-in-loop-event.ensures.items ∙ (length_push c.loop-event.waits.items c.parents-parents.result ∙ ap (λ n. n + 1) i.waits_size);
      keys = elim c.if-parents-eq0.branch [
        | then-parents-eq0 w ↦
            let pushed : IsPermutation (key_of c.earliest_start-start.result c.loop-event.event-index ∷ c.loop-event.ready.list) w.push.new.self.list =
            subst (λ n. IsPermutation (key_of c.earliest_start-start.result n ∷ c.loop-event.ready.list) w.push.new.self.list) number w.push.ensures.list
            in
            rw w.ready-is
            (ready_more c.loop-event.times.items c.push_reserved.new.self.items c.loop-event.waits.items c.push_reserved-in-loop-event.new.self.items _ c.parents-parents.result c.loop-event.event-index i.times_size i.waits_size c.push_reserved.ensures.items c.push_reserved-in-loop-event.ensures.items
            c.loop-event.ready.list i.keys w.if-parents-eq0.true w.push.new.self.list pushed)
        | else-parents-eq0 w ↦
            rw w.ready-is
            (waits_more c.loop-event.times.items c.push_reserved.new.self.items c.loop-event.waits.items c.push_reserved-in-loop-event.new.self.items _ c.parents-parents.result c.loop-event.event-index i.times_size i.waits_size c.push_reserved.ensures.items c.push_reserved-in-loop-event.ensures.items
            c.loop-event.ready.list i.keys w.if-parents-eq0.false)
      ];
      room = elim c.if-parents-eq0.branch [
        | then-parents-eq0 w ↦ rw w.ready-is (omega (arith, i.room, w.push.ensures.room))
        | else-parents-eq0 w ↦ rw w.ready-is i.room
      ];
      first_room = omega (arith, i.first_room, c.add.ensures.capacity);
      second_room = omega (arith, i.second_room, c.add-in-loop-event.ensures.capacity);
      times_room = omega (arith, i.times_room, c.push_reserved.ensures.capacity);
      waits_room = omega (arith, i.waits_room, c.push_reserved-in-loop-event.ensures.capacity);
    }
