-- The parts of a domain, one after the other.
use Rattle.std.proofs.Common.{ℕ, ◌≡◌, ◌++◌, List, length, map, take, drop, get_or, sym, ap, ◌∙◌, subst, arith}
use Rattle.event_graph.specs.declared.event.Event.{Event}
use Rattle.domain_map.specs.declared.crossing.Crossing.{Crossing}
use Rattle.weave_core.specs.declared.incoming.Stub.{Stub}
use Rattle.weave_core.specs.Beginning.{AddsWaits, AreCounts, AreCrossed, AreSmall, AreOwnPlaces, AreStubsUpto, HasWaits, IsRisingList}
use Rattle.weave_core.specs.Exits.{AreExits, HaveParents}
use Rattle.weave_core.specs.LaidOut.{at_rest_with}
use Rattle.weave_core.specs.Layout.{AreHere, AreLinked, AreStubs, Stands, fired_in, known_words, no_event}
use Rattle.weave_core.specs.Stubs.{Stubs}
use Rattle.weave_core.specs.Waits.{Waits}
use Rattle.weave_core.proofs.FireHere.{take_front}
use Rattle.weave_core.proofs.LayingOut.{are_here, are_stubs, counted_first, crossed, few_here, few_stubs, has_waits, known_none, numbers_below, parents_here, rising_here, small_here, stands_first}
use Rattle.weave_core.proofs.prepare.lay_out.Goals as goal

pub events_of-requires : goal.events_of-requires
events_of-requires c =
    λ k d l. omega (arith, numbers_below c.args.graph.now c.args.parts.now c.args.domain c.events-events.ensures.numbered c.requires.partitions c.requires.domain c.requires.fits c.events.result.now c.events.ensures k d l, ap length c.events-events.ensures.events)

pub link_all-requires-clause-rising : goal.link_all-requires-clause-rising
link_all-requires-clause-rising c =
    let here : c.in_ok-here.here.items ≡ map (λ (n : ℕ). get_or c.args.graph.now n no_event) c.events.result.now =
    c.in_ok-here.ensures ∙ ap (λ (es : List Event). map (λ (n : ℕ). get_or es n no_event) c.events.result.now) c.events-events.ensures.events
    in
    let read : c.deref.result.now ≡ map (λ (n : ℕ). get_or c.args.graph.now n no_event) c.events.result.now = c.deref.ensures.value ∙ here in
    subst IsRisingList (sym read) (rising_here c.args.graph.now c.args.parts.now c.args.domain c.events-events.ensures.numbered c.requires.partitions c.requires.domain c.requires.fits c.events.result.now c.events.ensures)

pub link_all-requires-clause-few : goal.link_all-requires-clause-few
link_all-requires-clause-few c =
    let here : c.in_ok-here.here.items ≡ map (λ (n : ℕ). get_or c.args.graph.now n no_event) c.events.result.now =
    c.in_ok-here.ensures ∙ ap (λ (es : List Event). map (λ (n : ℕ). get_or es n no_event) c.events.result.now) c.events-events.ensures.events
    in
    let read : c.deref.result.now ≡ map (λ (n : ℕ). get_or c.args.graph.now n no_event) c.events.result.now = c.deref.ensures.value ∙ here in
    omega (arith, ap length read, few_here c.args.graph.now c.args.parts.now c.args.domain c.events-events.ensures.numbered c.requires.partitions c.requires.domain c.requires.fits c.events.result.now c.events.ensures)

pub link_all-requires-clause-small : goal.link_all-requires-clause-small
link_all-requires-clause-small c =
    let here : c.in_ok-here.here.items ≡ map (λ (n : ℕ). get_or c.args.graph.now n no_event) c.events.result.now =
    c.in_ok-here.ensures ∙ ap (λ (es : List Event). map (λ (n : ℕ). get_or es n no_event) c.events.result.now) c.events-events.ensures.events
    in
    let read : c.deref.result.now ≡ map (λ (n : ℕ). get_or c.args.graph.now n no_event) c.events.result.now = c.deref.ensures.value ∙ here in
    subst AreSmall (sym read) (small_here c.args.graph.now c.args.parts.now c.args.domain c.events-events.ensures.numbered c.requires.partitions c.requires.domain c.requires.fits c.events.result.now c.events.ensures)

pub stubs_of-requires-clause-rising : goal.stubs_of-requires-clause-rising
stubs_of-requires-clause-rising c =
    let here : c.in_ok-here.here.items ≡ map (λ (n : ℕ). get_or c.args.graph.now n no_event) c.events.result.now =
    c.in_ok-here.ensures ∙ ap (λ (es : List Event). map (λ (n : ℕ). get_or es n no_event) c.events.result.now) c.events-events.ensures.events
    in
    let read_2 : c.deref-2.result.now ≡ map (λ (n : ℕ). get_or c.args.graph.now n no_event) c.events.result.now = c.deref-2.ensures.value ∙ here in
    subst IsRisingList (sym read_2) (rising_here c.args.graph.now c.args.parts.now c.args.domain c.events-events.ensures.numbered c.requires.partitions c.requires.domain c.requires.fits c.events.result.now c.events.ensures)

pub stubs_of-requires-clause-few : goal.stubs_of-requires-clause-few
stubs_of-requires-clause-few c =
    let here : c.in_ok-here.here.items ≡ map (λ (n : ℕ). get_or c.args.graph.now n no_event) c.events.result.now =
    c.in_ok-here.ensures ∙ ap (λ (es : List Event). map (λ (n : ℕ). get_or es n no_event) c.events.result.now) c.events-events.ensures.events
    in
    let read_2 : c.deref-2.result.now ≡ map (λ (n : ℕ). get_or c.args.graph.now n no_event) c.events.result.now = c.deref-2.ensures.value ∙ here in
    omega (arith, ap length read_2, few_here c.args.graph.now c.args.parts.now c.args.domain c.events-events.ensures.numbered c.requires.partitions c.requires.domain c.requires.fits c.events.result.now c.events.ensures)

pub stubs_of-requires-clause-crossed : goal.stubs_of-requires-clause-crossed
stubs_of-requires-clause-crossed c =
    let here : c.in_ok-here.here.items ≡ map (λ (n : ℕ). get_or c.args.graph.now n no_event) c.events.result.now =
    c.in_ok-here.ensures ∙ ap (λ (es : List Event). map (λ (n : ℕ). get_or es n no_event) c.events.result.now) c.events-events.ensures.events
    in
    let read_2 : c.deref-2.result.now ≡ map (λ (n : ℕ). get_or c.args.graph.now n no_event) c.events.result.now = c.deref-2.ensures.value ∙ here in
    subst (λ (xs : List Crossing). AreCrossed c.events-events.result.now c.deref-2.result.now xs c.args.domain) (sym c.crossings.ensures)
    (subst (λ (xs : List Event). AreCrossed c.events-events.result.now xs c.args.parts.now.crossings c.args.domain) (sym read_2)
    (subst (λ (xs : List Event). AreCrossed xs (map (λ (n : ℕ). get_or c.args.graph.now n no_event) c.events.result.now) c.args.parts.now.crossings c.args.domain) (sym c.events-events.ensures.events) (crossed c.args.graph.now c.args.parts.now c.args.domain c.events-events.ensures.numbered c.requires.partitions c.requires.domain c.requires.fits c.events.result.now c.events.ensures)))

pub stubs_of-requires-clause-waits : goal.stubs_of-requires-clause-waits
stubs_of-requires-clause-waits c =
    let here : c.in_ok-here.here.items ≡ map (λ (n : ℕ). get_or c.args.graph.now n no_event) c.events.result.now =
    c.in_ok-here.ensures ∙ ap (λ (es : List Event). map (λ (n : ℕ). get_or es n no_event) c.events.result.now) c.events-events.ensures.events
    in
    let read : c.deref.result.now ≡ map (λ (n : ℕ). get_or c.args.graph.now n no_event) c.events.result.now = c.deref.ensures.value ∙ here in
    let read_2 : c.deref-2.result.now ≡ map (λ (n : ℕ). get_or c.args.graph.now n no_event) c.events.result.now = c.deref-2.ensures.value ∙ here in
    let counts : AreCounts (map (λ (n : ℕ). get_or c.args.graph.now n no_event) c.events.result.now) c.in_ok-heads.field-0.waits.items (length (map (λ (n : ℕ). get_or c.args.graph.now n no_event) c.events.result.now)) =
    subst (λ (xs : List Event). AreCounts xs c.in_ok-heads.field-0.waits.items (length xs)) read c.in_ok-heads.ensures.waits
    in
    subst (λ (ws : List ℕ). HasWaits c.deref-2.result.now ws) (sym c.deref_mut.ensures.value)
    (subst (λ (xs : List Event). HasWaits xs c.in_ok-heads.field-0.waits.items) (sym read_2) (has_waits c.args.graph.now c.args.parts.now c.args.domain c.events-events.ensures.numbered c.requires.partitions c.requires.domain c.requires.fits c.events.result.now c.events.ensures c.in_ok-heads.field-0.waits.items counts))

pub begin-requires-clause-few : goal.begin-requires-clause-few
begin-requires-clause-few c =
    let here : c.in_ok-here.here.items ≡ map (λ (n : ℕ). get_or c.args.graph.now n no_event) c.events.result.now =
    c.in_ok-here.ensures ∙ ap (λ (es : List Event). map (λ (n : ℕ). get_or es n no_event) c.events.result.now) c.events-events.ensures.events
    in
    let read : c.deref.result.now ≡ map (λ (n : ℕ). get_or c.args.graph.now n no_event) c.events.result.now = c.deref.ensures.value ∙ here in
    let counts : AreCounts (map (λ (n : ℕ). get_or c.args.graph.now n no_event) c.events.result.now) c.in_ok-heads.field-0.waits.items (length (map (λ (n : ℕ). get_or c.args.graph.now n no_event) c.events.result.now)) =
    subst (λ (xs : List Event). AreCounts xs c.in_ok-heads.field-0.waits.items (length xs)) read c.in_ok-heads.ensures.waits
    in
    let adds : AddsWaits c.in_ok-heads.field-0.waits.items c.stubs_of.new.waits c.in_ok-stubs.stubs.items =
    subst (λ (ws : List ℕ). AddsWaits ws c.stubs_of.new.waits c.in_ok-stubs.stubs.items) c.deref_mut.ensures.value c.in_ok-stubs.ensures.waits
    in
    let waits : take c.in_ok-heads.field-0.waits.len (c.stubs_of.new.waits ++ drop (length c.stubs_of.new.waits) c.in_ok-heads.field-0.waits.items) ≡ c.stubs_of.new.waits =
    take_front c.stubs_of.new.waits _ c.in_ok-heads.field-0.waits.len (omega (arith, adds.size, c.in_ok-heads.field-0.waits.ok.0))
    in
    omega (arith, ap length waits, adds.size, counts.size, few_here c.args.graph.now c.args.parts.now c.args.domain c.events-events.ensures.numbered c.requires.partitions c.requires.domain c.requires.fits c.events.result.now c.events.ensures)

pub begin-requires-2-clause-small : goal.begin-requires-2-clause-small
begin-requires-2-clause-small c =
    λ place s h. (c.in_ok-stubs.ensures.stubs.each place s h).1.1.1.1.small

pub begin-requires-2-clause-untold : goal.begin-requires-2-clause-untold
begin-requires-2-clause-untold c =
    λ place s h. (c.in_ok-stubs.ensures.stubs.each place s h).1.1.1.1.word

pub of-requires-clause-rising : goal.of-requires-clause-rising
of-requires-clause-rising c =
    let here : c.in_ok-here.here.items ≡ map (λ (n : ℕ). get_or c.args.graph.now n no_event) c.events.result.now =
    c.in_ok-here.ensures ∙ ap (λ (es : List Event). map (λ (n : ℕ). get_or es n no_event) c.events.result.now) c.events-events.ensures.events
    in
    let read_4 : c.deref-4.result.now ≡ map (λ (n : ℕ). get_or c.args.graph.now n no_event) c.events.result.now = c.deref-4.ensures.value ∙ here in
    subst IsRisingList (sym read_4) (rising_here c.args.graph.now c.args.parts.now c.args.domain c.events-events.ensures.numbered c.requires.partitions c.requires.domain c.requires.fits c.events.result.now c.events.ensures)

pub of-requires-clause-few : goal.of-requires-clause-few
of-requires-clause-few c =
    let here : c.in_ok-here.here.items ≡ map (λ (n : ℕ). get_or c.args.graph.now n no_event) c.events.result.now =
    c.in_ok-here.ensures ∙ ap (λ (es : List Event). map (λ (n : ℕ). get_or es n no_event) c.events.result.now) c.events-events.ensures.events
    in
    let read_4 : c.deref-4.result.now ≡ map (λ (n : ℕ). get_or c.args.graph.now n no_event) c.events.result.now = c.deref-4.ensures.value ∙ here in
    omega (arith, ap length read_4, few_here c.args.graph.now c.args.parts.now c.args.domain c.events-events.ensures.numbered c.requires.partitions c.requires.domain c.requires.fits c.events.result.now c.events.ensures)

pub of-requires-clause-parents : goal.of-requires-clause-parents
of-requires-clause-parents c =
    let here : c.in_ok-here.here.items ≡ map (λ (n : ℕ). get_or c.args.graph.now n no_event) c.events.result.now =
    c.in_ok-here.ensures ∙ ap (λ (es : List Event). map (λ (n : ℕ). get_or es n no_event) c.events.result.now) c.events-events.ensures.events
    in
    let read_4 : c.deref-4.result.now ≡ map (λ (n : ℕ). get_or c.args.graph.now n no_event) c.events.result.now = c.deref-4.ensures.value ∙ here in
    subst (λ (xs : List Crossing). HaveParents c.deref-4.result.now xs c.args.domain) (sym c.crossings-2.ensures)
    (subst (λ (xs : List Event). HaveParents xs c.args.parts.now.crossings c.args.domain) (sym read_4) (parents_here c.args.graph.now c.args.parts.now c.args.domain c.events-events.ensures.numbered c.requires.partitions c.requires.domain c.requires.fits c.events.result.now c.events.ensures))

pub returns : goal.returns
returns c =
    let here : c.in_ok-here.here.items ≡ map (λ (n : ℕ). get_or c.args.graph.now n no_event) c.events.result.now =
    c.in_ok-here.ensures ∙ ap (λ (es : List Event). map (λ (n : ℕ). get_or es n no_event) c.events.result.now) c.events-events.ensures.events
    in
    let read : c.deref.result.now ≡ map (λ (n : ℕ). get_or c.args.graph.now n no_event) c.events.result.now = c.deref.ensures.value ∙ here in
    let read_2 : c.deref-2.result.now ≡ map (λ (n : ℕ). get_or c.args.graph.now n no_event) c.events.result.now = c.deref-2.ensures.value ∙ here in
    let counts : AreCounts (map (λ (n : ℕ). get_or c.args.graph.now n no_event) c.events.result.now) c.in_ok-heads.field-0.waits.items (length (map (λ (n : ℕ). get_or c.args.graph.now n no_event) c.events.result.now)) =
    subst (λ (xs : List Event). AreCounts xs c.in_ok-heads.field-0.waits.items (length xs)) read c.in_ok-heads.ensures.waits
    in
    let adds : AddsWaits c.in_ok-heads.field-0.waits.items c.stubs_of.new.waits c.in_ok-stubs.stubs.items =
    subst (λ (ws : List ℕ). AddsWaits ws c.stubs_of.new.waits c.in_ok-stubs.stubs.items) c.deref_mut.ensures.value c.in_ok-stubs.ensures.waits
    in
    let waits : take c.in_ok-heads.field-0.waits.len (c.stubs_of.new.waits ++ drop (length c.stubs_of.new.waits) c.in_ok-heads.field-0.waits.items) ≡ c.stubs_of.new.waits =
    take_front c.stubs_of.new.waits _ c.in_ok-heads.field-0.waits.len (omega (arith, adds.size, c.in_ok-heads.field-0.waits.ok.0))
    in
    let upto : AreStubsUpto c.args.graph.now (map (λ (n : ℕ). get_or c.args.graph.now n no_event) c.events.result.now) c.args.parts.now.crossings c.args.domain c.in_ok-stubs.stubs.items (length c.args.parts.now.crossings) =
    subst (λ (xs : List Crossing). AreStubsUpto c.args.graph.now (map (λ (n : ℕ). get_or c.args.graph.now n no_event) c.events.result.now) xs c.args.domain c.in_ok-stubs.stubs.items (length xs)) c.crossings.ensures
    (subst (λ (xs : List Event). AreStubsUpto c.args.graph.now xs c.crossings.result.now c.args.domain c.in_ok-stubs.stubs.items (length c.crossings.result.now)) read_2
    (subst (λ (xs : List Event). AreStubsUpto xs c.deref-2.result.now c.crossings.result.now c.args.domain c.in_ok-stubs.stubs.items (length c.crossings.result.now)) c.events-events.ensures.events c.in_ok-stubs.ensures.stubs))
    in
    let starts : c.in_ok-starts.starts.items ≡ map (λ (e : Event). e.min_start) (map (λ (n : ℕ). get_or c.args.graph.now n no_event) c.events.result.now) =
    c.in_ok-starts.ensures ∙ ap (map (λ (e : Event). e.min_start)) (c.deref-3.ensures.value ∙ here)
    in
    let waiting : c.in_ok-waiting.waiting ≡ record { starts = c.in_ok-starts.starts.items; waits = c.stubs_of.new.waits } =
    c.in_ok-waiting.ensures ∙ ap (λ (ws : List ℕ). record { starts = c.in_ok-starts.starts.items; waits = ws }) waits
    in
    let stubs : c.in_ok-incoming.incoming.stubs ≡ c.in_ok-stubs.stubs.items = ap (λ (v : Stubs). v.stubs) c.in_ok-incoming.ensures in
    record {
      numbered = c.events-events.ensures.numbered;
      here = subst (AreHere c.args.graph.now c.args.parts.now c.args.domain) (sym here) (are_here c.args.graph.now c.args.parts.now c.args.domain c.events-events.ensures.numbered c.requires.partitions c.requires.domain c.requires.fits c.events.result.now c.events.ensures);
      linked = subst (λ (xs : List Event). AreLinked xs c.in_ok-heads.field-0.heads.items c.in_ok-heads.field-0.links.items) c.deref.ensures.value c.in_ok-heads.ensures.linked;
      stubs =
          subst (λ (xs : List Event). AreStubs c.args.graph.now c.args.parts.now c.args.domain xs c.in_ok-incoming.incoming.stubs) (sym here)
          (subst (AreStubs c.args.graph.now c.args.parts.now c.args.domain (map (λ (n : ℕ). get_or c.args.graph.now n no_event) c.events.result.now)) (sym stubs) (are_stubs c.args.graph.now c.args.parts.now c.args.domain c.events-events.ensures.numbered c.requires.partitions c.requires.domain c.requires.fits c.events.result.now c.events.ensures c.in_ok-stubs.stubs.items upto));
      few = omega (arith, ap length stubs, few_stubs c.args.graph.now c.args.parts.now c.args.domain c.events-events.ensures.numbered c.requires.partitions c.requires.domain c.requires.fits c.events.result.now c.events.ensures c.in_ok-stubs.stubs.items upto);
      exits =
          subst (λ (xs : List Event). AreExits xs c.args.parts.now.crossings c.args.domain (length c.args.parts.now.crossings) c.in_ok-exits.exits.numbers.items c.in_ok-exits.exits.parents.items) c.deref-4.ensures.value
          (subst (λ (xs : List Crossing). AreExits c.deref-4.result.now xs c.args.domain (length xs) c.in_ok-exits.exits.numbers.items c.in_ok-exits.exits.parents.items) c.crossings-2.ensures c.in_ok-exits.ensures);
      floor = ap (λ (v : Stubs). v.floor) c.in_ok-incoming.ensures;
      known = ap (known_words c.args.parts.now.crossings) stubs ∙ known_none c.args.graph.now c.args.parts.now c.args.domain c.events-events.ensures.numbered c.requires.partitions c.requires.domain c.requires.fits c.events.result.now c.events.ensures c.in_ok-stubs.stubs.items upto;
      stands =
          subst (λ (w : Waits). Stands c.args.graph.now c.args.parts.now c.args.domain (at_rest_with c.args.parts.now 0) c.in_ok-here.here.items c.in_ok-incoming.incoming.stubs w) (sym waiting)
          (subst (λ (xs : List Stub). Stands c.args.graph.now c.args.parts.now c.args.domain (at_rest_with c.args.parts.now 0) c.in_ok-here.here.items xs (record { starts = c.in_ok-starts.starts.items; waits = c.stubs_of.new.waits })) (sym stubs)
          (subst (λ (xs : List Event). Stands c.args.graph.now c.args.parts.now c.args.domain (at_rest_with c.args.parts.now 0) xs c.in_ok-stubs.stubs.items (record { starts = c.in_ok-starts.starts.items; waits = c.stubs_of.new.waits })) (sym here)
          (stands_first c.args.graph.now c.args.parts.now c.args.domain c.events-events.ensures.numbered c.requires.partitions c.requires.domain c.requires.fits c.events.result.now c.events.ensures c.in_ok-stubs.stubs.items upto c.in_ok-heads.field-0.waits.items c.stubs_of.new.waits c.in_ok-starts.starts.items counts adds starts)));
      counted =
          ap (λ (w : Waits). fired_in w.waits) waiting
          ∙ counted_first c.args.graph.now c.args.parts.now c.args.domain c.events-events.ensures.numbered c.requires.partitions c.requires.domain c.requires.fits c.events.result.now c.events.ensures c.in_ok-stubs.stubs.items upto c.in_ok-heads.field-0.waits.items c.stubs_of.new.waits c.in_ok-starts.starts.items counts adds starts;
      fired = c.in_ok-fired.ensures.items;
      room = omega (arith, c.in_ok-fired.ensures.capacity, c.len.ensures, c.in_ok-here.here.ok.0);
      own_places = subst (λ (xs : List ℕ). AreOwnPlaces xs c.args.domain c.in_ok-own_places.own_places.items (length xs)) c.places.ensures c.in_ok-own_places.ensures;
    }
