-- One event after the other.
use Rattle.std.proofs.Common.{◌≡◌, ◌<◌, ◌++◌, [], false, length, get_or, None, ap, sym, ◌∙◌, subst, arith, length-set}
use Rattle.std.proofs.lemmas.Option.{slice_get-get_or}
use Rattle.event_graph.specs.declared.event.Event.{Event}
use Rattle.component.specs.declared.kind.Kind.TheVariants.{Lookup}
use Rattle.domain_map.specs.Domains.{crossings_into}
use Rattle.domain_map.specs.Inside.{list_at, lists_of}
use Rattle.domain_map.proofs.Lists.{each_more, crossings_more, none_in, no_crossings, parent_within, whole}
use Rattle.domain_map.proofs.make.partition.Goals as goal

-- what is read past the end
abbrev past : Event
past = record { number = 0; core = 0; component = 0; kind = Lookup; min_start = 0; min_finish = 0; critical = false; first = None; second = None }

pub loop-event-init : goal.loop-event-init
loop-event-init c = record {
  count = c.in_ok-lists.ensures.count;
  each = λ domain below. c.in_ok-lists.ensures.empty domain [] (omega (arith, c.in_ok-lists.ensures.count)) ∙ sym (none_in c.args.places.items domain);
  crossings = c.new-crossings.ensures.items ∙ sym (no_crossings c.args.places.items c.args.events.now);
}

pub add_event-requires-clause-first : goal.add_event-requires-clause-first
add_event-requires-clause-first c =
    let events = c.args.events.now in
    let i = c.loop-event.event-index in
    let below : c.loop-event.event-index < length c.args.events.now = omega (arith, c.loop-event-test.true) in
    let e = get_or c.args.events.now c.loop-event.event-index past in
    parent_within events i e e.first below (λ p is. c.requires.numbered.first i e p (slice_get-get_or events i past below) is)

pub add_event-requires-clause-second : goal.add_event-requires-clause-second
add_event-requires-clause-second c =
    let events = c.args.events.now in
    let i = c.loop-event.event-index in
    let below : c.loop-event.event-index < length c.args.events.now = omega (arith, c.loop-event-test.true) in
    let e = get_or c.args.events.now c.loop-event.event-index past in
    parent_within events i e e.second below (λ p is. c.requires.numbered.second i e p (slice_get-get_or events i past below) is)

pub loop-event-preserved : goal.loop-event-preserved
loop-event-preserved c =
    let events = c.args.events.now in
    let i = c.loop-event.event-index in
    let below : c.loop-event.event-index < length c.args.events.now = omega (arith, c.loop-event-test.true) in
    let e = get_or c.args.events.now c.loop-event.event-index past in
    let is = slice_get-get_or events i past below in
    let so_far = c.loop-event.invariant in
    let added = rw c.deref.ensures.value at c.in_ok-add_event.ensures.event in
    let crossed : c.add_event.new.crossings.items ≡ c.loop-event.crossings.items ++ crossings_into c.args.places.items c.args.events.now (get_or c.args.events.now c.loop-event.event-index past) =
    subst (λ places. c.add_event.new.crossings.items ≡ c.loop-event.crossings.items ++ crossings_into places c.args.events.now (get_or c.args.events.now c.loop-event.event-index past)) c.deref.ensures.value c.in_ok-add_event.ensures.crossings
    in
    record {
      count = ap length added ∙ (length-set (lists_of c.loop-event.lists.items) _ _ ∙ so_far.count);
      each = λ domain there.
          ap (λ lists. list_at lists domain) added
          ∙ each_more c.args.places.items (lists_of c.loop-event.lists.items) events i e domain below is (omega (arith, so_far.count)) (so_far.each domain there);
      crossings =
          crossed ∙ (ap (λ xs. xs ++ crossings_into c.args.places.items events e) so_far.crossings
          ∙ sym (crossings_more c.args.places.items events events i e below is));
    }

pub returns-clause-partitions : goal.returns-clause-partitions
returns-clause-partitions c =
    let so_far = c.loop-event.invariant in
    let n : length (lists_of c.loop-event.lists.items) ≡ c.args.count = so_far.count in
    whole c.args.places.items c.args.events.now (lists_of c.loop-event.lists.items) c.loop-event.crossings.items c.loop-event.event-index
    (omega (arith, c.loop-event-test.false))
    (λ k d below. omega (arith, c.requires.below k d below))
    (λ domain there. so_far.each domain (omega arith))
    so_far.crossings
