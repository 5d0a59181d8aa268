-- A domain keeps to every solution for which what it was told is sound.
use Rattle.std.proofs.Common.{◌≡◌, ℕ, Bool, true, eqb, List, [], ◌∷◌, ◌++◌, map, set, take, get_or, Some, slice_get, sym, ◌∙◌, ap, refl, arith}
use Rattle.std.proofs.lemmas.Option.{same_Some, slice_get-get_or}
use Rattle.std.specs.List.{enumerate_from}
use Rattle.component.specs.declared.kind.Kind.{Kind}
use Rattle.event_graph.specs.declared.event.Event.{Event}
use Rattle.event_graph.specs.declared.fired.Fired.{Fired}
use Rattle.event_graph.specs.OneListWeave.{FiredEvent, start_of}
use Rattle.event_graph.specs.ServedEvents.{after_serving, of_component}
use Rattle.event_graph.specs.TimingSolution.{IsSolution}
use Rattle.domain_map.specs.Domains.{domain_of_event}
use Rattle.weave_core.specs.DomainCalls.{DomainValue, Follows, IsFire, comps_in}
use Rattle.weave_core.specs.DomainMachine.{is_clear, is_ready_in, known_finish}
use Rattle.weave_core.specs.Following.{FirstFollows, FiresFollow, FloorsFollow, LooksFollow}
use Rattle.weave_core.specs.Interleavings.{IsPartitioned, IsFront, of_domain}
use Rattle.weave_core.specs.Layout.{place_in}
use Rattle.weave_core.specs.SoundDomain.{IsNextFiring, SoundDomainsFollow}
use Rattle.weave_core.specs.Soundness.{AreSoundBounds, AreSoundWords}
use Rattle.weave_core.proofs.Following.{bounds_before, comps_set, floor_before, left_at, left_by, longer_front, none_left, set_left, words_before}
use Rattle.weave_core.proofs.LeastBy.{some_next}
use Rattle.weave_core.proofs.Lists.{both, get_below}
use Rattle.weave_core.proofs.OwnPlaces.{spot_there}
use Rattle.weave_core.proofs.Words.{eq_is}

none_taken : {X : Type 0} (xs : List X) → [] ≡ take 0 xs
none_taken [] = refl
none_taken (x ∷ xs) = refl

pub first_follows : {C : Type 0} (stepped : C → Kind → ℕ → C × ℕ) → FirstFollows stepped
first_follows stepped = record {
  each = λ events p domain all timed solution. record {
    fired = λ known bounds. none_taken (of_domain p.places domain solution.sorted);
    comps_are = λ known bounds. ap (comps_in p.places domain) (sym (none_left stepped 0 all));
  };
}

pub looks_follow : {C : Type 0} (stepped : C → Kind → ℕ → C × ℕ) → LooksFollow stepped
looks_follow stepped = record {
  each = λ all timed v solution number word may follows. record {
    fired = λ known bounds.
        follows.fired (words_before v.events timed v.partition v.domain v.own number word may known bounds) (bounds_before v.events timed v.partition v.domain v.own number word may known bounds);
    comps_are = λ known bounds.
        follows.comps_are (words_before v.events timed v.partition v.domain v.own number word may known bounds) (bounds_before v.events timed v.partition v.domain v.own number word may known bounds);
  };
}

pub floors_follow : {C : Type 0} (stepped : C → Kind → ℕ → C × ℕ) → FloorsFollow stepped
floors_follow stepped = record {
  each = λ all timed v solution floor l follows. record {
    fired = λ known bounds. follows.fired known (floor_before v.events timed v.partition v.domain v.own floor l bounds);
    comps_are = λ known bounds. follows.comps_are known (floor_before v.events timed v.partition v.domain v.own floor l bounds);
  };
}

module _ {C : Type 0} (serves : C → Kind → Bool) (floor : C → Kind → ℕ) (stepped : C → Kind → ℕ → C × ℕ) (sound : SoundDomainsFollow serves floor stepped)
    (all : List C) (timed : List FiredEvent) (old new : DomainValue C) (solution : IsSolution stepped old.events all timed) (result : Fired) (f : IsFire stepped old new result)
    (partitioned : IsPartitioned serves floor old.events old.partition all) (clear : is_clear old.events old.partition old.domain old.own f.start ≡ true) (follows : Follows stepped all timed old solution)
    (known : AreSoundWords timed old.partition old.own.known) (bounds : AreSoundBounds old.events timed old.partition old.domain old.own) where
  firing : (x : FiredEvent) × IsNextFiring stepped old.events old.partition all timed solution old.domain old.own (f.event, f.start) x
  firing = sound old.events old.partition all timed solution old.domain old.own (f.event, f.start) partitioned (record { fired = follows.fired known bounds; known = known; bounds = bounds }) f.next clear

  here : domain_of_event old.partition.places f.event ≡ old.domain
  here =
      let l = some_next (is_ready_in old.events old.partition old.domain old.own) (λ e. start_of (known_finish old.events old.partition old.domain old.own) e) old.events (f.event, f.start) f.next in
      eq_is (domain_of_event old.partition.places f.event) old.domain (both (eqb (domain_of_event old.partition.places f.event) old.domain) _ l.passes).0

  there : slice_get all f.event.component ≡ Some firing.1.component
  there = ap (λ (e : Event). slice_get all e.component) (sym firing.1.event) ∙ firing.1.there

  placed : slice_get old.partition.places f.event.component ≡ Some (get_or old.partition.places f.event.component 0)
  placed = slice_get-get_or old.partition.places f.event.component 0 (omega (arith, get_below all f.event.component firing.1.component there, partitioned.places))

  abbrev left : List C
  left = map (left_by stepped old.own.fired) (enumerate_from 0 all)

  component_is : f.component ≡ after_serving stepped firing.1.component (of_component f.event.component old.own.fired)
  component_is =
      same_Some f.component _
      (sym f.there
      ∙ (ap (λ (cs : List C). slice_get cs (place_in old.partition.places old.domain f.event.component)) (follows.comps_are known bounds)
      ∙ spot_there old.partition.places old.domain left f.event.component (get_or old.partition.places f.event.component 0) _ placed here
      (left_at stepped old.own.fired 0 f.event.component all f.event.component firing.1.component (omega arith) there)))

  abbrev last : FiredEvent
  last = record { event = f.event; start = f.start; finish = (stepped f.component f.event.kind f.start).1 }

  finish_is : firing.0.finish ≡ (stepped f.component f.event.kind f.start).1
  finish_is =
      firing.1.finish
      ∙ (ap (λ (e : Event). (stepped (after_serving stepped firing.1.component (of_component e.component old.own.fired)) e.kind firing.0.start).1) firing.1.event
      ∙ (ap (λ n. (stepped (after_serving stepped firing.1.component (of_component f.event.component old.own.fired)) f.event.kind n).1) firing.1.start
      ∙ ap (λ (c : C). (stepped c f.event.kind f.start).1) (sym component_is)))

  last_is : firing.0 ≡ last
  last_is =
      ap (λ (e : Event). record { event = e; start = firing.0.start; finish = firing.0.finish }) firing.1.event
      ∙ (ap (λ n. record { event = f.event; start = n; finish = firing.0.finish }) firing.1.start
      ∙ ap (λ n. record { event = f.event; start = f.start; finish = n }) finish_is)

  pub front_then : IsFront (old.own.fired ++ last ∷ []) (of_domain old.partition.places old.domain solution.sorted)
  front_then =
      longer_front old.own.fired (of_domain old.partition.places old.domain solution.sorted) last (follows.fired known bounds)
      (firing.1.firing ∙ ap (λ (x : FiredEvent). Some x) last_is)

  pub comps_then : set old.comps (place_in old.partition.places old.domain f.event.component) (stepped f.component f.event.kind f.start).0
      ≡ comps_in old.partition.places old.domain (map (left_by stepped (old.own.fired ++ last ∷ [])) (enumerate_from 0 all))
  comps_then =
      let v : C = (stepped (after_serving stepped firing.1.component (of_component f.event.component old.own.fired)) f.event.kind f.start).0 in
      let one : map (left_by stepped (old.own.fired ++ last ∷ [])) (enumerate_from 0 all) ≡ set left f.event.component v =
      set_left stepped old.own.fired last 0 f.event.component all firing.1.component (omega arith) there
      in
      ap (λ (cs : List C). set cs (place_in old.partition.places old.domain f.event.component) (stepped f.component f.event.kind f.start).0) (follows.comps_are known bounds)
      ∙ (ap (λ (c : C). set (comps_in old.partition.places old.domain left) (place_in old.partition.places old.domain f.event.component) (stepped c f.event.kind f.start).0) component_is
      ∙ (sym (comps_set old.partition.places old.domain left f.event.component (get_or old.partition.places f.event.component 0) v placed here)
      ∙ ap (comps_in old.partition.places old.domain) (sym one)))

pub fires_follow : {C : Type 0} (serves : C → Kind → Bool) (floor : C → Kind → ℕ) (stepped : C → Kind → ℕ → C × ℕ) → SoundDomainsFollow serves floor stepped → FiresFollow serves floor stepped
fires_follow serves floor stepped sound = record {
  each = λ all timed old new solution result f partitioned clear follows. record {
    fired = λ known bounds. front_then serves floor stepped sound all timed old new solution result f partitioned clear follows known (record { each = bounds.each });
    comps_are = λ known bounds. comps_then serves floor stepped sound all timed old new solution result f partitioned clear follows known (record { each = bounds.each });
  };
}
