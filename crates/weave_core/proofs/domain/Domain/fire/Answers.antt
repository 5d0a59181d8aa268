-- The first ready event fires, and its children learn it.
use Rattle.std.proofs.Common.{ℕ, ◌+◌, ◌<◌, ◌≤◌, ◌≡◌, ◌^◌, IsTrue, List, [], ◌∷◌, ◌++◌, length, map, set, take, drop, get_or, Some, slice_get, sym, ap, ◌∙◌, subst, rules, arith, length-set}
use Rattle.std.proofs.lemmas.Option.{get_or_from_slice_get, none-some, same_Some}
use Rattle.std.proofs.lemmas.List.{length_push}
use Rattle.event_graph.specs.declared.event.Event.{Event}
use Rattle.event_graph.specs.OneListWeave.{FiredEvent}
use Rattle.weave_core.specs.declared.children.Link.{Link}
use Rattle.weave_core.specs.Children.{CanTell, CanTellChain, IsChain, tell_all}
use Rattle.weave_core.specs.DomainCalls.{CanFire, DomainValue, IsFire}
use Rattle.weave_core.specs.Inside.{domain_value, own_of}
use Rattle.weave_core.specs.Layout.{HaveComponents, Stands, fired_in, place_in, timed_from}
use Rattle.weave_core.specs.Waits.{Waits, is_fired_wait}
use Rattle.weave_core.proofs.FireHere.{IsFiring, fired_behind, firing, not_firing, still_served, take_front}
use Rattle.weave_core.proofs.FireSteps.{can_tell_children, counted_then, some_unfired, stands_then}
use Rattle.weave_core.proofs.Indexing.{read_there}
use Rattle.weave_core.proofs.Lists.{get_below}
use Rattle.weave_core.proofs.domain.Domain.fire.Goals as goal

pub unreachable-requires : goal.unreachable-requires
unreachable-requires g c =
    let none = not_firing g.C.Component.serves c.self.inside c.self.invariant c.in_default.ensures.none in
    let can : CanFire g.C.Component.greatest (domain_value c.self.inside) = subst (CanFire g.C.Component.greatest) (sym c.self.view_is) c.requires in
    none-some _ (sym none ∙ can.may.next)

pub index-event-requires : goal.index-event-requires
index-event-requires g c =
    let f = firing g.C.Component.serves c.self.inside c.self.invariant c.in-Some.key c.in-Some.ensures.first in
    let below : c.in-Some.key.number < length c.self.inside.here.items = get_below c.self.inside.here.items c.in-Some.key.number f.event f.there in
    omega (arith, below, c.self.inside.here.ok.0)

pub index-own_place-requires : goal.index-own_place-requires
index-own_place-requires g c =
    let d = c.self.inside in
    let i = c.self.invariant in
    let k = c.in-Some.key in
    let f : IsFiring g.C.Component.serves c.self.inside c.in-Some.key = firing g.C.Component.serves c.self.inside c.self.invariant c.in-Some.key c.in-Some.ensures.first in
    let event : c.index-event.result.now ≡ f.event =
    same_Some c.index-event.result.now f.event
    (sym (read_there c.self.inside.here.items c.in-Some.key.number c.index-event.result.now (get_below c.self.inside.here.items c.in-Some.key.number f.event f.there) c.index-event.ensures) ∙ f.there)
    in
    let component : c.from.result ≡ f.event.component = c.from.ensures ∙ ap (λ (e : Event). e.component) event in
    let own_place_below : c.from.result < length c.self.inside.own_places.items = omega (arith, component, get_below c.self.inside.own_places.items f.event.component _ f.own_place) in
    omega (arith, own_place_below, c.self.inside.own_places.ok.0)

pub offset_bounds-as_mut_slice-from : goal.offset_bounds-as_mut_slice-from
offset_bounds-as_mut_slice-from g c =
    let d = c.self.inside in
    let i = c.self.invariant in
    let k = c.in-Some.key in
    let f : IsFiring g.C.Component.serves c.self.inside c.in-Some.key = firing g.C.Component.serves c.self.inside c.self.invariant c.in-Some.key c.in-Some.ensures.first in
    let event : c.index-event.result.now ≡ f.event =
    same_Some c.index-event.result.now f.event
    (sym (read_there c.self.inside.here.items c.in-Some.key.number c.index-event.result.now (get_below c.self.inside.here.items c.in-Some.key.number f.event f.there) c.index-event.ensures) ∙ f.there)
    in
    let component : c.from.result ≡ f.event.component = c.from.ensures ∙ ap (λ (e : Event). e.component) event in
    let own_place_below : c.from.result < length c.self.inside.own_places.items = omega (arith, component, get_below c.self.inside.own_places.items f.event.component _ f.own_place) in
    let own_place : c.from-2.result ≡ place_in c.self.inside.parts.value.places c.self.inside.domain f.event.component =
    c.from-2.ensures ∙ same_Some c.index-own_place.result.now _
    (sym (read_there c.self.inside.own_places.items c.from.result c.index-own_place.result.now own_place_below c.index-own_place.ensures) ∙ (ap (slice_get c.self.inside.own_places.items) component ∙ f.own_place))
    in
    let within : c.from-2.result < length c.as_mut_slice.result.now =
    omega (arith, own_place, get_below c.self.inside.comps _ f.component f.component_there, ap length c.as_mut_slice.ensures.value)
    in
    search rules

pub bounds-as_mut_slice-from : goal.bounds-as_mut_slice-from
bounds-as_mut_slice-from g c =
    let d = c.self.inside in
    let i = c.self.invariant in
    let k = c.in-Some.key in
    let f : IsFiring g.C.Component.serves c.self.inside c.in-Some.key = firing g.C.Component.serves c.self.inside c.self.invariant c.in-Some.key c.in-Some.ensures.first in
    let event : c.index-event.result.now ≡ f.event =
    same_Some c.index-event.result.now f.event
    (sym (read_there c.self.inside.here.items c.in-Some.key.number c.index-event.result.now (get_below c.self.inside.here.items c.in-Some.key.number f.event f.there) c.index-event.ensures) ∙ f.there)
    in
    let component : c.from.result ≡ f.event.component = c.from.ensures ∙ ap (λ (e : Event). e.component) event in
    let own_place_below : c.from.result < length c.self.inside.own_places.items = omega (arith, component, get_below c.self.inside.own_places.items f.event.component _ f.own_place) in
    let own_place : c.from-2.result ≡ place_in c.self.inside.parts.value.places c.self.inside.domain f.event.component =
    c.from-2.ensures ∙ same_Some c.index-own_place.result.now _
    (sym (read_there c.self.inside.own_places.items c.from.result c.index-own_place.result.now own_place_below c.index-own_place.ensures) ∙ (ap (slice_get c.self.inside.own_places.items) component ∙ f.own_place))
    in
    let within : c.from-2.result < length c.as_mut_slice.result.now =
    omega (arith, own_place, get_below c.self.inside.comps _ f.component f.component_there, ap length c.as_mut_slice.ensures.value)
    in
    within

pub step-finish-requires-clause-serves : goal.step-finish-requires-clause-serves
step-finish-requires-clause-serves g c =
    let d = c.self.inside in
    let i = c.self.invariant in
    let k = c.in-Some.key in
    let f : IsFiring g.C.Component.serves c.self.inside c.in-Some.key = firing g.C.Component.serves c.self.inside c.self.invariant c.in-Some.key c.in-Some.ensures.first in
    let event : c.index-event.result.now ≡ f.event =
    same_Some c.index-event.result.now f.event
    (sym (read_there c.self.inside.here.items c.in-Some.key.number c.index-event.result.now (get_below c.self.inside.here.items c.in-Some.key.number f.event f.there) c.index-event.ensures) ∙ f.there)
    in
    let component : c.from.result ≡ f.event.component = c.from.ensures ∙ ap (λ (e : Event). e.component) event in
    let own_place_below : c.from.result < length c.self.inside.own_places.items = omega (arith, component, get_below c.self.inside.own_places.items f.event.component _ f.own_place) in
    let own_place : c.from-2.result ≡ place_in c.self.inside.parts.value.places c.self.inside.domain f.event.component =
    c.from-2.ensures ∙ same_Some c.index-own_place.result.now _
    (sym (read_there c.self.inside.own_places.items c.from.result c.index-own_place.result.now own_place_below c.index-own_place.ensures) ∙ (ap (slice_get c.self.inside.own_places.items) component ∙ f.own_place))
    in
    let within : c.from-2.result < length c.as_mut_slice.result.now =
    omega (arith, own_place, get_below c.self.inside.comps _ f.component f.component_there, ap length c.as_mut_slice.ensures.value)
    in
    let served_by : get_or c.as_mut_slice.result.now c.from-2.result c.index-as_mut_slice-from.result ≡ f.component =
    ap (λ (xs : List g.row.C.Denot). get_or xs c.from-2.result c.index-as_mut_slice-from.result) c.as_mut_slice.ensures.value
    ∙ (ap (λ n. get_or c.self.inside.comps n c.index-as_mut_slice-from.result) own_place ∙ get_or_from_slice_get c.self.inside.comps _ f.component c.index-as_mut_slice-from.result f.component_there)
    in
    let can : CanFire g.C.Component.greatest (domain_value c.self.inside) = subst (CanFire g.C.Component.greatest) (sym c.self.view_is) c.requires in
    let same_next : (can.may.event, can.key.start) ≡ (f.event, c.in-Some.key.start) = same_Some (can.may.event, can.key.start) (f.event, c.in-Some.key.start) (sym can.may.next ∙ f.next) in
    let small : g.C.Component.greatest f.component f.event.kind c.in-Some.key.start ≤ 2 ^ 62 =
    subst (λ (z : Event × ℕ). (s : g.row.C.Denot) → slice_get c.self.inside.comps (place_in c.self.inside.parts.value.places c.self.inside.domain z.0.component) ≡ Some s → g.C.Component.greatest s z.0.kind z.1 ≤ 2 ^ 62)
    same_next can.small f.component f.component_there
    in
    subst (λ (s : g.row.C.Denot). IsTrue (g.C.Component.serves s c.index-event.result.now.kind)) (sym served_by) (subst (λ (e : Event). IsTrue (g.C.Component.serves f.component e.kind)) (sym event) f.served)

pub step-finish-requires-clause-small : goal.step-finish-requires-clause-small
step-finish-requires-clause-small g c =
    let d = c.self.inside in
    let i = c.self.invariant in
    let k = c.in-Some.key in
    let f : IsFiring g.C.Component.serves c.self.inside c.in-Some.key = firing g.C.Component.serves c.self.inside c.self.invariant c.in-Some.key c.in-Some.ensures.first in
    let event : c.index-event.result.now ≡ f.event =
    same_Some c.index-event.result.now f.event
    (sym (read_there c.self.inside.here.items c.in-Some.key.number c.index-event.result.now (get_below c.self.inside.here.items c.in-Some.key.number f.event f.there) c.index-event.ensures) ∙ f.there)
    in
    let component : c.from.result ≡ f.event.component = c.from.ensures ∙ ap (λ (e : Event). e.component) event in
    let own_place_below : c.from.result < length c.self.inside.own_places.items = omega (arith, component, get_below c.self.inside.own_places.items f.event.component _ f.own_place) in
    let own_place : c.from-2.result ≡ place_in c.self.inside.parts.value.places c.self.inside.domain f.event.component =
    c.from-2.ensures ∙ same_Some c.index-own_place.result.now _
    (sym (read_there c.self.inside.own_places.items c.from.result c.index-own_place.result.now own_place_below c.index-own_place.ensures) ∙ (ap (slice_get c.self.inside.own_places.items) component ∙ f.own_place))
    in
    let within : c.from-2.result < length c.as_mut_slice.result.now =
    omega (arith, own_place, get_below c.self.inside.comps _ f.component f.component_there, ap length c.as_mut_slice.ensures.value)
    in
    let served_by : get_or c.as_mut_slice.result.now c.from-2.result c.index-as_mut_slice-from.result ≡ f.component =
    ap (λ (xs : List g.row.C.Denot). get_or xs c.from-2.result c.index-as_mut_slice-from.result) c.as_mut_slice.ensures.value
    ∙ (ap (λ n. get_or c.self.inside.comps n c.index-as_mut_slice-from.result) own_place ∙ get_or_from_slice_get c.self.inside.comps _ f.component c.index-as_mut_slice-from.result f.component_there)
    in
    let can : CanFire g.C.Component.greatest (domain_value c.self.inside) = subst (CanFire g.C.Component.greatest) (sym c.self.view_is) c.requires in
    let same_next : (can.may.event, can.key.start) ≡ (f.event, c.in-Some.key.start) = same_Some (can.may.event, can.key.start) (f.event, c.in-Some.key.start) (sym can.may.next ∙ f.next) in
    let small : g.C.Component.greatest f.component f.event.kind c.in-Some.key.start ≤ 2 ^ 62 =
    subst (λ (z : Event × ℕ). (s : g.row.C.Denot) → slice_get c.self.inside.comps (place_in c.self.inside.parts.value.places c.self.inside.domain z.0.component) ≡ Some s → g.C.Component.greatest s z.0.kind z.1 ≤ 2 ^ 62)
    same_next can.small f.component f.component_there
    in
    subst (λ (s : g.row.C.Denot). g.C.Component.greatest s c.index-event.result.now.kind c.in-Some.key.start ≤ 2 ^ 62) (sym served_by) (subst (λ (e : Event). g.C.Component.greatest f.component e.kind c.in-Some.key.start ≤ 2 ^ 62) (sym event) small)

pub push_reserved-requires : goal.push_reserved-requires
push_reserved-requires g c =
    let f = firing g.C.Component.serves c.self.inside c.self.invariant c.in-Some.key c.in-Some.ensures.first in
    let i = c.self.invariant in
    omega (arith, some_unfired c.self.inside.waiting.waits c.in-Some.key.number c.in-Some.ensures.first.ready, i.counted, i.room, i.stands.waits_size, c.self.inside.fired.ok.0)

pub index-requires : goal.index-requires
index-requires g c =
    let f = firing g.C.Component.serves c.self.inside c.self.invariant c.in-Some.key c.in-Some.ensures.first in
    let below : c.in-Some.key.number < length c.self.inside.heads.items = get_below c.self.inside.heads.items c.in-Some.key.number f.head f.head_there in
    omega (arith, below, c.self.inside.heads.ok.0)

pub tell_children-requires : goal.tell_children-requires
tell_children-requires g c =
    let d = c.self.inside in
    let i = c.self.invariant in
    let k = c.in-Some.key in
    let f : IsFiring g.C.Component.serves c.self.inside c.in-Some.key = firing g.C.Component.serves c.self.inside c.self.invariant c.in-Some.key c.in-Some.ensures.first in
    let event : c.index-event.result.now ≡ f.event =
    same_Some c.index-event.result.now f.event
    (sym (read_there c.self.inside.here.items c.in-Some.key.number c.index-event.result.now (get_below c.self.inside.here.items c.in-Some.key.number f.event f.there) c.index-event.ensures) ∙ f.there)
    in
    let component : c.from.result ≡ f.event.component = c.from.ensures ∙ ap (λ (e : Event). e.component) event in
    let own_place_below : c.from.result < length c.self.inside.own_places.items = omega (arith, component, get_below c.self.inside.own_places.items f.event.component _ f.own_place) in
    let own_place : c.from-2.result ≡ place_in c.self.inside.parts.value.places c.self.inside.domain f.event.component =
    c.from-2.ensures ∙ same_Some c.index-own_place.result.now _
    (sym (read_there c.self.inside.own_places.items c.from.result c.index-own_place.result.now own_place_below c.index-own_place.ensures) ∙ (ap (slice_get c.self.inside.own_places.items) component ∙ f.own_place))
    in
    let within : c.from-2.result < length c.as_mut_slice.result.now =
    omega (arith, own_place, get_below c.self.inside.comps _ f.component f.component_there, ap length c.as_mut_slice.ensures.value)
    in
    let served_by : get_or c.as_mut_slice.result.now c.from-2.result c.index-as_mut_slice-from.result ≡ f.component =
    ap (λ (xs : List g.row.C.Denot). get_or xs c.from-2.result c.index-as_mut_slice-from.result) c.as_mut_slice.ensures.value
    ∙ (ap (λ n. get_or c.self.inside.comps n c.index-as_mut_slice-from.result) own_place ∙ get_or_from_slice_get c.self.inside.comps _ f.component c.index-as_mut_slice-from.result f.component_there)
    in
    let can : CanFire g.C.Component.greatest (domain_value c.self.inside) = subst (CanFire g.C.Component.greatest) (sym c.self.view_is) c.requires in
    let same_next : (can.may.event, can.key.start) ≡ (f.event, c.in-Some.key.start) = same_Some (can.may.event, can.key.start) (f.event, c.in-Some.key.start) (sym can.may.next ∙ f.next) in
    let small : g.C.Component.greatest f.component f.event.kind c.in-Some.key.start ≤ 2 ^ 62 =
    subst (λ (z : Event × ℕ). (s : g.row.C.Denot) → slice_get c.self.inside.comps (place_in c.self.inside.parts.value.places c.self.inside.domain z.0.component) ≡ Some s → g.C.Component.greatest s z.0.kind z.1 ≤ 2 ^ 62)
    same_next can.small f.component f.component_there
    in
    let step : (c.step-finish.new.self, c.step-finish.result) ≡ g.C.Component.stepped f.component f.event.kind c.in-Some.key.start =
    c.step-finish.ensures
    ∙ (ap (λ (s : g.row.C.Denot). g.C.Component.stepped s c.index-event.result.now.kind c.in-Some.key.start) served_by
    ∙ ap (λ (e : Event). g.C.Component.stepped f.component e.kind c.in-Some.key.start) event)
    in
    let finish_is : c.step-finish.result ≡ (g.C.Component.stepped f.component f.event.kind c.in-Some.key.start).1 = ap (λ (z : g.row.C.Denot × ℕ). z.1) step in
    let finish_small : c.step-finish.result ≤ 2 ^ 62 =
    omega (arith, finish_is, g.met.C.Component.finish_within_greatest f.component f.event.kind c.in-Some.key.start f.served, small)
    in
    let head_below : c.in-Some.key.number < length c.self.inside.heads.items = get_below c.self.inside.heads.items c.in-Some.key.number f.head f.head_there in
    let head : c.index.result.now ≡ f.head =
    same_Some c.index.result.now f.head (sym (read_there c.self.inside.heads.items c.in-Some.key.number c.index.result.now head_below c.index.ensures) ∙ f.head_there)
    in
    let can_tell : CanTell c.step-finish.result (is_fired_wait c.self.inside.waiting c.in-Some.key.number) f.children.chain =
    can_tell_children d.graph.value d.parts.value d.domain d.here.items d.incoming.stubs (own_of d) d.waiting i.numbered i.here i.stands k.number f.event f.there c.in-Some.ensures.first.ready
    d.links.items f.head f.children k.start c.step-finish.result i.few finish_small
    in
    let chained : IsChain c.deref.result.now c.index.result.now f.children.chain =
    subst (λ (n : ℕ). IsChain c.deref.result.now n f.children.chain) (sym head) (subst (λ (xs : List Link). IsChain xs f.head f.children.chain) (sym c.deref.ensures.value) f.children.is_chain)
    in
    subst (λ (w : Waits). CanTellChain c.deref.result.now c.index.result.now c.step-finish.result w) (sym c.in-Some.ensures.taken)
    (record { chain = f.children.chain; is_chain = chained; can = can_tell })

pub invariant_of-self : goal.invariant_of-self
invariant_of-self g c =
    let d = c.self.inside in
    let i = c.self.invariant in
    let k = c.in-Some.key in
    let f : IsFiring g.C.Component.serves c.self.inside c.in-Some.key = firing g.C.Component.serves c.self.inside c.self.invariant c.in-Some.key c.in-Some.ensures.first in
    let event : c.index-event.result.now ≡ f.event =
    same_Some c.index-event.result.now f.event
    (sym (read_there c.self.inside.here.items c.in-Some.key.number c.index-event.result.now (get_below c.self.inside.here.items c.in-Some.key.number f.event f.there) c.index-event.ensures) ∙ f.there)
    in
    let component : c.from.result ≡ f.event.component = c.from.ensures ∙ ap (λ (e : Event). e.component) event in
    let own_place_below : c.from.result < length c.self.inside.own_places.items = omega (arith, component, get_below c.self.inside.own_places.items f.event.component _ f.own_place) in
    let own_place : c.from-2.result ≡ place_in c.self.inside.parts.value.places c.self.inside.domain f.event.component =
    c.from-2.ensures ∙ same_Some c.index-own_place.result.now _
    (sym (read_there c.self.inside.own_places.items c.from.result c.index-own_place.result.now own_place_below c.index-own_place.ensures) ∙ (ap (slice_get c.self.inside.own_places.items) component ∙ f.own_place))
    in
    let within : c.from-2.result < length c.as_mut_slice.result.now =
    omega (arith, own_place, get_below c.self.inside.comps _ f.component f.component_there, ap length c.as_mut_slice.ensures.value)
    in
    let served_by : get_or c.as_mut_slice.result.now c.from-2.result c.index-as_mut_slice-from.result ≡ f.component =
    ap (λ (xs : List g.row.C.Denot). get_or xs c.from-2.result c.index-as_mut_slice-from.result) c.as_mut_slice.ensures.value
    ∙ (ap (λ n. get_or c.self.inside.comps n c.index-as_mut_slice-from.result) own_place ∙ get_or_from_slice_get c.self.inside.comps _ f.component c.index-as_mut_slice-from.result f.component_there)
    in
    let can : CanFire g.C.Component.greatest (domain_value c.self.inside) = subst (CanFire g.C.Component.greatest) (sym c.self.view_is) c.requires in
    let same_next : (can.may.event, can.key.start) ≡ (f.event, c.in-Some.key.start) = same_Some (can.may.event, can.key.start) (f.event, c.in-Some.key.start) (sym can.may.next ∙ f.next) in
    let small : g.C.Component.greatest f.component f.event.kind c.in-Some.key.start ≤ 2 ^ 62 =
    subst (λ (z : Event × ℕ). (s : g.row.C.Denot) → slice_get c.self.inside.comps (place_in c.self.inside.parts.value.places c.self.inside.domain z.0.component) ≡ Some s → g.C.Component.greatest s z.0.kind z.1 ≤ 2 ^ 62)
    same_next can.small f.component f.component_there
    in
    let step : (c.step-finish.new.self, c.step-finish.result) ≡ g.C.Component.stepped f.component f.event.kind c.in-Some.key.start =
    c.step-finish.ensures
    ∙ (ap (λ (s : g.row.C.Denot). g.C.Component.stepped s c.index-event.result.now.kind c.in-Some.key.start) served_by
    ∙ ap (λ (e : Event). g.C.Component.stepped f.component e.kind c.in-Some.key.start) event)
    in
    let finish_is : c.step-finish.result ≡ (g.C.Component.stepped f.component f.event.kind c.in-Some.key.start).1 = ap (λ (z : g.row.C.Denot × ℕ). z.1) step in
    let finish_small : c.step-finish.result ≤ 2 ^ 62 =
    omega (arith, finish_is, g.met.C.Component.finish_within_greatest f.component f.event.kind c.in-Some.key.start f.served, small)
    in
    let head_below : c.in-Some.key.number < length c.self.inside.heads.items = get_below c.self.inside.heads.items c.in-Some.key.number f.head f.head_there in
    let head : c.index.result.now ≡ f.head =
    same_Some c.index.result.now f.head (sym (read_there c.self.inside.heads.items c.in-Some.key.number c.index.result.now head_below c.index.ensures) ∙ f.head_there)
    in
    let can_tell : CanTell c.step-finish.result (is_fired_wait c.self.inside.waiting c.in-Some.key.number) f.children.chain =
    can_tell_children d.graph.value d.parts.value d.domain d.here.items d.incoming.stubs (own_of d) d.waiting i.numbered i.here i.stands k.number f.event f.there c.in-Some.ensures.first.ready
    d.links.items f.head f.children k.start c.step-finish.result i.few finish_small
    in
    let chained : IsChain c.deref.result.now c.index.result.now f.children.chain =
    subst (λ (n : ℕ). IsChain c.deref.result.now n f.children.chain) (sym head) (subst (λ (xs : List Link). IsChain xs f.head f.children.chain) (sym c.deref.ensures.value) f.children.is_chain)
    in
    let waiting : c.tell_children.new.waiting ≡ tell_all c.step-finish.result (is_fired_wait c.self.inside.waiting c.in-Some.key.number) f.children.chain =
    c.tell_children.ensures f.children.chain chained ∙ ap (λ (w : Waits). tell_all c.step-finish.result w f.children.chain) c.in-Some.ensures.taken
    in
    let in_graph : slice_get c.self.inside.graph.value c.index-event.result.now.number ≡ Some f.event =
    ap (λ (e : Event). slice_get c.self.inside.graph.value e.number) event ∙ f.in_graph
    in
    let fired_is : map (timed_from c.self.inside.graph.value) c.push_reserved.new.self.items
    ≡ map (timed_from c.self.inside.graph.value) c.self.inside.fired.items ++ (record { event = f.event; start = c.in-Some.key.start; finish = c.step-finish.result }) ∷ [] =
    ap (map (timed_from c.self.inside.graph.value)) c.push_reserved.ensures.items
    ∙ fired_behind c.self.inside.graph.value c.self.inside.fired.items (record { number = c.index-event.result.now.number; start = c.in-Some.key.start; finish = c.step-finish.result }) f.event in_graph
    in
    let comps_are : take (length c.self.inside.comps) (set c.as_mut_slice.result.now c.from-2.result c.step-finish.new.self ++ drop (length (set c.as_mut_slice.result.now c.from-2.result c.step-finish.new.self)) c.self.inside.comps)
    ≡ set c.self.inside.comps (place_in c.self.inside.parts.value.places c.self.inside.domain f.event.component) (g.C.Component.stepped f.component f.event.kind c.in-Some.key.start).0 =
    take_front (set c.as_mut_slice.result.now c.from-2.result c.step-finish.new.self) _ (length c.self.inside.comps)
    (sym (length-set c.as_mut_slice.result.now c.from-2.result c.step-finish.new.self ∙ ap length c.as_mut_slice.ensures.value))
    ∙ (ap (λ (xs : List g.row.C.Denot). set xs c.from-2.result c.step-finish.new.self) c.as_mut_slice.ensures.value
    ∙ (ap (λ n. set c.self.inside.comps n c.step-finish.new.self) own_place
    ∙ ap (λ (z : g.row.C.Denot × ℕ). set c.self.inside.comps (place_in c.self.inside.parts.value.places c.self.inside.domain f.event.component) z.0) step))
    in
    record {
      numbered = i.numbered;
      partitions = i.partitions;
      here = i.here;
      linked = i.linked;
      stubs = i.stubs;
      few = i.few;
      stands =
          subst (λ (w : Waits). Stands d.graph.value d.parts.value d.domain (record (own_of c.self.inside) { fired = map (timed_from c.self.inside.graph.value) c.push_reserved.new.self.items }) d.here.items d.incoming.stubs w) (sym waiting)
          (subst (λ (fs : List FiredEvent). Stands d.graph.value d.parts.value d.domain (record (own_of c.self.inside) { fired = fs }) d.here.items d.incoming.stubs (tell_all c.step-finish.result (is_fired_wait c.self.inside.waiting c.in-Some.key.number) f.children.chain)) (sym fired_is)
          (stands_then d.graph.value d.parts.value d.domain d.here.items d.incoming.stubs (own_of d) d.waiting i.numbered i.here i.stands k.number f.event f.there c.in-Some.ensures.first.ready
          d.links.items f.head f.children k.start c.step-finish.result));
      exits = i.exits;
      counted =
          ap length c.push_reserved.ensures.items
          ∙ (length_push c.self.inside.fired.items _
          ∙ (ap (λ n. n + 1) i.counted
          ∙ (sym (counted_then d.graph.value d.parts.value d.domain d.here.items d.incoming.stubs (own_of d) d.waiting i.numbered i.here i.stands k.number f.event f.there c.in-Some.ensures.first.ready
          d.links.items f.head f.children k.start c.step-finish.result can_tell)
          ∙ ap (λ (w : Waits). fired_in w.waits) (sym waiting))));
      room = omega (arith, i.room, c.push_reserved.ensures.capacity);
      served =
          subst (HaveComponents g.C.Component.serves d.parts.value d.domain d.here.items d.own_places.items) (sym comps_are)
          (still_served g.C.Component.serves d i (place_in d.parts.value.places d.domain f.event.component) f.component (g.C.Component.stepped f.component f.event.kind k.start).0 f.component_there
          (λ kind. g.met.C.Component.serves_stays f.component f.event.kind k.start kind f.served));
    }

pub returns : goal.returns
returns g c =
    let d = c.self.inside in
    let i = c.self.invariant in
    let k = c.in-Some.key in
    let f : IsFiring g.C.Component.serves c.self.inside c.in-Some.key = firing g.C.Component.serves c.self.inside c.self.invariant c.in-Some.key c.in-Some.ensures.first in
    let event : c.index-event.result.now ≡ f.event =
    same_Some c.index-event.result.now f.event
    (sym (read_there c.self.inside.here.items c.in-Some.key.number c.index-event.result.now (get_below c.self.inside.here.items c.in-Some.key.number f.event f.there) c.index-event.ensures) ∙ f.there)
    in
    let component : c.from.result ≡ f.event.component = c.from.ensures ∙ ap (λ (e : Event). e.component) event in
    let own_place_below : c.from.result < length c.self.inside.own_places.items = omega (arith, component, get_below c.self.inside.own_places.items f.event.component _ f.own_place) in
    let own_place : c.from-2.result ≡ place_in c.self.inside.parts.value.places c.self.inside.domain f.event.component =
    c.from-2.ensures ∙ same_Some c.index-own_place.result.now _
    (sym (read_there c.self.inside.own_places.items c.from.result c.index-own_place.result.now own_place_below c.index-own_place.ensures) ∙ (ap (slice_get c.self.inside.own_places.items) component ∙ f.own_place))
    in
    let within : c.from-2.result < length c.as_mut_slice.result.now =
    omega (arith, own_place, get_below c.self.inside.comps _ f.component f.component_there, ap length c.as_mut_slice.ensures.value)
    in
    let served_by : get_or c.as_mut_slice.result.now c.from-2.result c.index-as_mut_slice-from.result ≡ f.component =
    ap (λ (xs : List g.row.C.Denot). get_or xs c.from-2.result c.index-as_mut_slice-from.result) c.as_mut_slice.ensures.value
    ∙ (ap (λ n. get_or c.self.inside.comps n c.index-as_mut_slice-from.result) own_place ∙ get_or_from_slice_get c.self.inside.comps _ f.component c.index-as_mut_slice-from.result f.component_there)
    in
    let can : CanFire g.C.Component.greatest (domain_value c.self.inside) = subst (CanFire g.C.Component.greatest) (sym c.self.view_is) c.requires in
    let same_next : (can.may.event, can.key.start) ≡ (f.event, c.in-Some.key.start) = same_Some (can.may.event, can.key.start) (f.event, c.in-Some.key.start) (sym can.may.next ∙ f.next) in
    let small : g.C.Component.greatest f.component f.event.kind c.in-Some.key.start ≤ 2 ^ 62 =
    subst (λ (z : Event × ℕ). (s : g.row.C.Denot) → slice_get c.self.inside.comps (place_in c.self.inside.parts.value.places c.self.inside.domain z.0.component) ≡ Some s → g.C.Component.greatest s z.0.kind z.1 ≤ 2 ^ 62)
    same_next can.small f.component f.component_there
    in
    let step : (c.step-finish.new.self, c.step-finish.result) ≡ g.C.Component.stepped f.component f.event.kind c.in-Some.key.start =
    c.step-finish.ensures
    ∙ (ap (λ (s : g.row.C.Denot). g.C.Component.stepped s c.index-event.result.now.kind c.in-Some.key.start) served_by
    ∙ ap (λ (e : Event). g.C.Component.stepped f.component e.kind c.in-Some.key.start) event)
    in
    let finish_is : c.step-finish.result ≡ (g.C.Component.stepped f.component f.event.kind c.in-Some.key.start).1 = ap (λ (z : g.row.C.Denot × ℕ). z.1) step in
    let finish_small : c.step-finish.result ≤ 2 ^ 62 =
    omega (arith, finish_is, g.met.C.Component.finish_within_greatest f.component f.event.kind c.in-Some.key.start f.served, small)
    in
    let head_below : c.in-Some.key.number < length c.self.inside.heads.items = get_below c.self.inside.heads.items c.in-Some.key.number f.head f.head_there in
    let head : c.index.result.now ≡ f.head =
    same_Some c.index.result.now f.head (sym (read_there c.self.inside.heads.items c.in-Some.key.number c.index.result.now head_below c.index.ensures) ∙ f.head_there)
    in
    let can_tell : CanTell c.step-finish.result (is_fired_wait c.self.inside.waiting c.in-Some.key.number) f.children.chain =
    can_tell_children d.graph.value d.parts.value d.domain d.here.items d.incoming.stubs (own_of d) d.waiting i.numbered i.here i.stands k.number f.event f.there c.in-Some.ensures.first.ready
    d.links.items f.head f.children k.start c.step-finish.result i.few finish_small
    in
    let chained : IsChain c.deref.result.now c.index.result.now f.children.chain =
    subst (λ (n : ℕ). IsChain c.deref.result.now n f.children.chain) (sym head) (subst (λ (xs : List Link). IsChain xs f.head f.children.chain) (sym c.deref.ensures.value) f.children.is_chain)
    in
    let waiting : c.tell_children.new.waiting ≡ tell_all c.step-finish.result (is_fired_wait c.self.inside.waiting c.in-Some.key.number) f.children.chain =
    c.tell_children.ensures f.children.chain chained ∙ ap (λ (w : Waits). tell_all c.step-finish.result w f.children.chain) c.in-Some.ensures.taken
    in
    let in_graph : slice_get c.self.inside.graph.value c.index-event.result.now.number ≡ Some f.event =
    ap (λ (e : Event). slice_get c.self.inside.graph.value e.number) event ∙ f.in_graph
    in
    let fired_is : map (timed_from c.self.inside.graph.value) c.push_reserved.new.self.items
    ≡ map (timed_from c.self.inside.graph.value) c.self.inside.fired.items ++ (record { event = f.event; start = c.in-Some.key.start; finish = c.step-finish.result }) ∷ [] =
    ap (map (timed_from c.self.inside.graph.value)) c.push_reserved.ensures.items
    ∙ fired_behind c.self.inside.graph.value c.self.inside.fired.items (record { number = c.index-event.result.now.number; start = c.in-Some.key.start; finish = c.step-finish.result }) f.event in_graph
    in
    let comps_are : take (length c.self.inside.comps) (set c.as_mut_slice.result.now c.from-2.result c.step-finish.new.self ++ drop (length (set c.as_mut_slice.result.now c.from-2.result c.step-finish.new.self)) c.self.inside.comps)
    ≡ set c.self.inside.comps (place_in c.self.inside.parts.value.places c.self.inside.domain f.event.component) (g.C.Component.stepped f.component f.event.kind c.in-Some.key.start).0 =
    take_front (set c.as_mut_slice.result.now c.from-2.result c.step-finish.new.self) _ (length c.self.inside.comps)
    (sym (length-set c.as_mut_slice.result.now c.from-2.result c.step-finish.new.self ∙ ap length c.as_mut_slice.ensures.value))
    ∙ (ap (λ (xs : List g.row.C.Denot). set xs c.from-2.result c.step-finish.new.self) c.as_mut_slice.ensures.value
    ∙ (ap (λ n. set c.self.inside.comps n c.step-finish.new.self) own_place
    ∙ ap (λ (z : g.row.C.Denot × ℕ). set c.self.inside.comps (place_in c.self.inside.parts.value.places c.self.inside.domain f.event.component) z.0) step))
    in
    subst (λ (v : DomainValue g.row.C.Denot). IsFire g.C.Component.stepped v (record (domain_value c.self.inside) {
      own = record (own_of c.self.inside) { fired = map (timed_from c.self.inside.graph.value) c.push_reserved.new.self.items };
      comps = take (length c.self.inside.comps) (set c.as_mut_slice.result.now c.from-2.result c.step-finish.new.self ++ drop (length (set c.as_mut_slice.result.now c.from-2.result c.step-finish.new.self)) c.self.inside.comps);
    }) (record { number = c.index-event.result.now.number; start = c.in-Some.key.start; finish = c.step-finish.result })) c.self.view_is
    (record {
      event = f.event;
      start = k.start;
      next = f.next;
      component = f.component;
      there = f.component_there;
      result_is =
          ap (λ (e : Event). record { number = e.number; start = c.in-Some.key.start; finish = c.step-finish.result }) event
          ∙ ap (λ n. record { number = f.event.number; start = c.in-Some.key.start; finish = n }) finish_is;
      new_is =
          ap (λ (fs : List FiredEvent). record (domain_value c.self.inside) {
            own = record (own_of c.self.inside) { fired = fs };
            comps = take (length c.self.inside.comps) (set c.as_mut_slice.result.now c.from-2.result c.step-finish.new.self ++ drop (length (set c.as_mut_slice.result.now c.from-2.result c.step-finish.new.self)) c.self.inside.comps);
          }) (fired_is ∙ ap (λ n. map (timed_from c.self.inside.graph.value) c.self.inside.fired.items ++ (record { event = f.event; start = c.in-Some.key.start; finish = n }) ∷ []) finish_is)
          ∙ ap (λ (cs : List g.row.C.Denot). record (domain_value c.self.inside) {
            own = record (own_of c.self.inside) {
              fired = map (timed_from c.self.inside.graph.value) c.self.inside.fired.items
                  ++ (record { event = f.event; start = c.in-Some.key.start; finish = (g.C.Component.stepped f.component f.event.kind c.in-Some.key.start).1 }) ∷ [];
            };
            comps = cs;
          }) comps_are;
    })
