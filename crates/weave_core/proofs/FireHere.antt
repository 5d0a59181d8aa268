-- The event that a domain fires, and what is kept of it.
use Rattle.std.proofs.Common.{◌≡◌, ℕ, zero, suc, Bool, IsTrue, List, [], ◌∷◌, ◌++◌, length, map, set, take, Some, None, slice_get, sym, ◌∙◌, ap, subst, refl, inl, inr, arith}
use Rattle.std.proofs.lemmas.Bool.{cases_eq}
use Rattle.std.proofs.lemmas.Option.{same_Some, get_or_from_slice_get}
use Rattle.zs_num.specs.declared.time.Key.{Key}
use Rattle.component.specs.declared.kind.Kind.{Kind}
use Rattle.event_graph.specs.declared.event.Event.{Event}
use Rattle.event_graph.specs.declared.fired.Fired.{Fired}
use Rattle.event_graph.specs.OneListWeave.{FiredEvent}
use Rattle.weave_core.specs.declared.domain.Domain.TheInside.{Inside}
use Rattle.weave_core.specs.DomainMachine.{next_in}
use Rattle.weave_core.specs.Inside.{IsDomain, own_of}
use Rattle.weave_core.specs.Layout.{HaveComponents, IsChildren, no_event, place_in, timed_from}
use Rattle.weave_core.specs.Waits.{IsFirstReady, NoneReady}
use Rattle.weave_core.proofs.Lists.{get_below, get_there}
use Rattle.weave_core.proofs.Readiness.{first_next, none_next}
use Rattle.weave_core.proofs.Updates.{get_set_other, get_set_same}

pub record IsFiring {C : Type 0} (serves : C → Kind → Bool) (d : Inside C) (k : Key) : Type 0 where
  pub event : Event
  pub there : slice_get d.here.items k.number ≡ Some event
  pub in_graph : slice_get d.graph.value event.number ≡ Some event
  pub next : next_in d.graph.value d.parts.value d.domain (own_of d) ≡ Some (event, k.start)
  pub own_place : slice_get d.own_places.items event.component ≡ Some (place_in d.parts.value.places d.domain event.component)
  pub component : C
  pub component_there : slice_get d.comps (place_in d.parts.value.places d.domain event.component) ≡ Some component
  pub served : IsTrue (serves component event.kind)
  pub head : ℕ
  pub head_there : slice_get d.heads.items k.number ≡ Some head
  pub children : IsChildren d.here.items d.links.items head event.number

pub firing : {C : Type 0} (serves : C → Kind → Bool) (d : Inside C) (i : IsDomain serves d) (k : Key) → IsFirstReady d.waiting k → IsFiring serves d k
firing serves d i k first =
    let e : (e : Event) × (slice_get d.here.items k.number ≡ Some e) = get_there d.here.items k.number (omega (arith, get_below d.waiting.waits k.number 0 first.ready, i.stands.waits_size)) in
    let c = i.served.serving k.number e.0 e.1 in
    let h = i.linked.each k.number e.0 e.1 in
    record {
      event = e.0;
      there = e.1;
      in_graph = (i.here.each k.number e.0 e.1).0;
      next = first_next d.graph.value d.parts.value d.domain d.here.items d.incoming.stubs (own_of d) d.waiting i.numbered i.partitions i.here i.stubs refl i.stands k e.0 e.1 first;
      own_place = i.served.own_place k.number e.0 e.1;
      component = c.0;
      component_there = c.1.0;
      served = c.1.1;
      head = h.0;
      head_there = h.1.0;
      children = h.1.1;
    }

pub not_firing : {C : Type 0} (serves : C → Kind → Bool) (d : Inside C) (i : IsDomain serves d) → NoneReady d.waiting → next_in d.graph.value d.parts.value d.domain (own_of d) ≡ None
not_firing serves d i none =
    none_next d.graph.value d.parts.value d.domain d.here.items d.incoming.stubs (own_of d) d.waiting i.numbered i.partitions i.here i.stubs refl i.stands none

pub take_front : {X : Type 0} (vs rest : List X) (n : ℕ) → n ≡ length vs → take n (vs ++ rest) ≡ vs
take_front [] [] zero e = refl
take_front [] [] (suc n) e = absurd (omega (arith, e))
take_front [] (y ∷ rest) zero e = refl
take_front [] (y ∷ rest) (suc n) e = absurd (omega (arith, e))
take_front (x ∷ vs) rest zero e = absurd (omega (arith, e))
take_front (x ∷ vs) rest (suc n) e = ap (λ (zs : List _). x ∷ zs) (take_front vs rest n (omega (arith, e)))

pub fired_behind : (events : List Event) (xs : List Fired) (f : Fired) (e : Event) → slice_get events f.number ≡ Some e
    → map (timed_from events) (xs ++ f ∷ []) ≡ map (timed_from events) xs ++ (record { event = e; start = f.start; finish = f.finish }) ∷ []
fired_behind events [] f e h = ap (λ (z : Event). record { event = z; start = f.start; finish = f.finish } ∷ []) (get_or_from_slice_get events f.number e no_event h)
fired_behind events (x ∷ xs) f e h = ap (λ (zs : List FiredEvent). timed_from events x ∷ zs) (fired_behind events xs f e h)

-- a component that served one event serves the same kinds
pub still_served : {C : Type 0} (serves : C → Kind → Bool) (d : Inside C) (i : IsDomain serves d) (own_place : ℕ) (c now : C) → slice_get d.comps own_place ≡ Some c
    → ((kind : Kind) → serves now kind ≡ serves c kind) → HaveComponents serves d.parts.value d.domain d.here.items d.own_places.items (set d.comps own_place now)
still_served serves d i own_place c now there same = record {
  own_place = i.served.own_place;
  serving = λ place e h.
      let s = i.served.serving place e h in
      elim (cases_eq (place_in d.parts.value.places d.domain e.component) own_place) [
        | inl here ↦
            let is : s.0 ≡ c = same_Some s.0 c (sym s.1.0 ∙ (ap (slice_get d.comps) here ∙ there)) in
            (now, (ap (slice_get (set d.comps own_place now)) here ∙ get_set_same d.comps own_place now c there, subst IsTrue (ap (λ (z : _). serves z e.kind) is ∙ sym (same e.kind)) s.1.1))
        | inr apart ↦ (s.0, (get_set_other d.comps own_place (place_in d.parts.value.places d.domain e.component) now apart ∙ s.1.0, s.1.1))
      ];
}
