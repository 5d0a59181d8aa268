-- The order in which the weave fires its events, from the laws of the one-list weave.
use Rattle.std.proofs.Common.{◌≡◌, ◌+◌, ◌<◌, ◌≤◌, ℕ, suc, Bool, true, false, not, ◌&&◌, IsTrue, List, [], ◌∷◌, ◌++◌, length, map, get_or, take, Option, Some, None, is_some, slice_get, IsPermutation, sym, ◌∙◌, ap, subst, refl, arith}
use Rattle.std.proofs.lemmas.List.{length-map, take_more}
use Rattle.std.proofs.lemmas.List.Sorted.{Contains-permutation, length_permutation}
use Rattle.std.proofs.lemmas.Option.{same_Some, none-some, get_or_from_slice_get, slice_get-map}
use Rattle.std.specs.Option.{option_map}
use Rattle.component.specs.declared.kind.Kind.{Kind}
use Rattle.event_graph.specs.declared.event.Event.{Event}
use Rattle.event_graph.specs.Firing.{FiresNext, IsNext}
use Rattle.event_graph.specs.Fits.{EventFits, GraphFits}
use Rattle.event_graph.specs.Numbered.{IsNumbered}
use Rattle.event_graph.specs.OneListWeave.{FiredEvent, after_firings, finish_in, is_event_before, is_fired, is_parent_fired, weave, woven}
use Rattle.event_graph.specs.ServedEvents.{after_serving, of_component}
use Rattle.event_graph.specs.TimingSolution.{IsInOrder, IsSolution}
use Rattle.domain_map.specs.declared.crossing.Crossing.{Crossing}
use Rattle.domain_map.specs.Domains.{Partition, domain_of_event}
use Rattle.weave_core.specs.AtBarrier.{AreSoundDomains, IsFirstLeft, KnowFiredParents, MayGoOn, least_start_of, own_at}
use Rattle.weave_core.specs.DomainMachine.{DomainState, MachineState, Step, after_steps, at_rest, barrier, every_crossing, fire, is_allowed, is_clear, is_settled, latency_of, least_ready_start, next_in, state_of, take_step, with_floor}
use Rattle.weave_core.specs.Interleavings.{FollowsTheWeave, IsPartitioned, IsFirstUnfired}
use Rattle.weave_core.proofs.Lists.{both, get_below, not_true, contained, contains, last_same}
use Rattle.weave_core.proofs.Firing.{IsOrder}
use Rattle.weave_core.proofs.Fires.{IsServed}
use Rattle.weave_core.proofs.Whole.{domain_there, follows, from_rest}
use Rattle.weave_core.specs.Raising.{MayRaise}
use Rattle.weave_core.specs.SoundDomain.{IsNextFiring, IsSoundDomain}
use Rattle.weave_core.proofs.AfterBarrier.{may_fire_first}
use Rattle.weave_core.proofs.AtBarriers.{floors_hold, may_go_on}
use Rattle.weave_core.proofs.Barriers.{settled_is}
use Rattle.weave_core.proofs.Steps.{fronts}
use Rattle.weave_core.specs.Soundness.{AreSoundBounds, AreSoundWords, IsSoundFloor}
use Rattle.weave_core.proofs.Joined.{sound_bounds}
use Rattle.weave_core.proofs.Solutions.{bounds_back, floor_alike, words_alike}
use Rattle.weave_core.proofs.RaisedBounds.{below_finish_of}
use Rattle.weave_core.proofs.SoundDomains.{sound_follow}

module _ {C : Type 0} (serves : C → Kind → Bool) (floor : C → Kind → ℕ) (stepped : C → Kind → ℕ → C × ℕ)
    (floor_counts : (c : C) (kind : Kind) → IsTrue (serves c kind) → 1 ≤ floor c kind)
    (floor_holds : (c : C) (kind : Kind) (start : ℕ) → IsTrue (serves c kind) → start + floor c kind ≤ (stepped c kind start).1)
    (events : List Event) (comps : List C) (numbered : IsNumbered events)
    (once : IsPermutation events (map (λ x. x.event) (weave stepped events comps).fired))
    (in_order : IsInOrder (weave stepped events comps).fired)
    (next : (index : ℕ) (x : FiredEvent) → slice_get (weave stepped events comps).fired index ≡ Some x → IsNext (take index (weave stepped events comps).fired) events x)
    (firing : (firings : ℕ) → firings < length events → (x : FiredEvent) × (c : C) × FiresNext serves stepped events (after_firings stepped events comps firings) (after_firings stepped events comps (suc firings)) x c)
    (front : (firings : ℕ) → (after_firings stepped events comps firings).fired ≡ take firings (weave stepped events comps).fired)
    (comps_at : (firings number : ℕ) → slice_get (after_firings stepped events comps firings).comps number
    ≡ option_map (λ c. after_serving stepped c (of_component number (after_firings stepped events comps firings).fired)) (slice_get comps number))
    (fits : (firings : ℕ) → GraphFits serves floor events (after_firings stepped events comps firings).comps) where
  abbrev all : List FiredEvent
  all = (weave stepped events comps).fired

  event_at : (k : ℕ) (x : FiredEvent) → slice_get all k ≡ Some x → slice_get events x.event.number ≡ Some x.event
  event_at k x h =
      let r : (i : ℕ) × (slice_get events i ≡ Some x.event) = contained events x.event (next k x h).event in
      ap (slice_get events) (numbered.number r.0 x.event r.1) ∙ r.1

  ready : (k : ℕ) (x : FiredEvent) → slice_get all k ≡ Some x → (is_fired (take k all) x.event.number ≡ false) × ((is_parent_fired (take k all) x.event.first ≡ true) × (is_parent_fired (take k all) x.event.second ≡ true))
  ready k x h =
      let a = both (not (is_fired (take k all) x.event.number)) (is_parent_fired (take k all) x.event.first && is_parent_fired (take k all) x.event.second) (next k x h).ready in
      let b = both (is_parent_fired (take k all) x.event.first) (is_parent_fired (take k all) x.event.second) a.1 in
      (not_true (is_fired (take k all) x.event.number) a.0, (b.0, b.1))

  each_at : (e : Event) → slice_get events e.number ≡ Some e → (k : ℕ) × (x : FiredEvent) × (slice_get all k ≡ Some x) × (x.event ≡ e)
  each_at e h =
      let r : (k : ℕ) × (slice_get (map (λ (x : FiredEvent). x.event) all) k ≡ Some e) =
      contained (map (λ (x : FiredEvent). x.event) all) e (Contains-permutation events (map (λ (x : FiredEvent). x.event) all) e once (contains events e.number e h))
      in
      by_option r.0 (slice_get all r.0) refl (sym (slice_get-map (λ (x : FiredEvent). x.event) all r.0) ∙ r.1)
    where
      by_option : (k : ℕ) (o : Option FiredEvent) → slice_get all k ≡ o → option_map (λ (x : FiredEvent). x.event) o ≡ Some e → (j : ℕ) × (x : FiredEvent) × (slice_get all j ≡ Some x) × (x.event ≡ e)
      by_option k None a b = absurd (none-some e b)
      by_option k (Some x) a b = (k, x, a, same_Some x.event e b)

  -- the firing of an event
  record Fired (k : ℕ) (x : FiredEvent) : Type 0 where
    c : C
    there : slice_get (after_firings stepped events comps k).comps x.event.component ≡ Some c
    served : IsTrue (serves c x.event.kind)
    finish : x.finish ≡ (stepped c x.event.kind x.start).1

  fired_at : (k : ℕ) (x : FiredEvent) → slice_get all k ≡ Some x → Fired k x
  fired_at k x h =
      let count : length (map (λ (x : FiredEvent). x.event) all) ≡ length events = length_permutation events (map (λ (x : FiredEvent). x.event) all) once in
      let below : k < length all = get_below all k x h in
      let r = firing k (omega (arith, count, below, length-map all (λ (x : FiredEvent). x.event))) in
      let grown : take k all ++ r.0 ∷ [] ≡ take k all ++ x ∷ [] =
      ap (λ (xs : List FiredEvent). xs ++ r.0 ∷ []) (sym (front k))
      ∙ (sym r.2.fired ∙ (front (suc k) ∙ (ap (λ n. take n all) (add_one k) ∙ (take_more all k x below ∙ ap (λ (z : FiredEvent). take k all ++ z ∷ []) (get_or_from_slice_get all k x x h)))))
      in
      let same : r.0 ≡ x = last_same (take k all) r.0 x grown in
      subst (λ (z : FiredEvent). Fired k z) same (record { c = r.1; there = r.2.there; served = r.2.served; finish = r.2.finish })
    where
      add_one : (n : ℕ) → suc n ≡ n + 1
      add_one n = omega arith

  latency_is : (k : ℕ) (x : FiredEvent) (h : slice_get all k ≡ Some x) → latency_of x.event ≡ floor (fired_at k x h).c x.event.kind
  latency_is k x h =
      let e : EventFits serves floor (after_firings stepped events comps k).comps x.event = fits k x.event.number x.event (event_at k x h) in
      let same : e.component ≡ (fired_at k x h).c = same_Some e.component (fired_at k x h).c (sym e.there ∙ (fired_at k x h).there) in
      let f : floor e.component x.event.kind ≡ floor (fired_at k x h).c x.event.kind = ap (λ (c : C). floor c x.event.kind) same in
      omega (arith, e.floor_is, f)

  pub order_of : IsOrder events (weave stepped events comps).fired
  order_of = record {
    numbered = numbered.number;
    event = event_at;
    each = each_at;
    once = λ k x h. (ready k x h).0;
    first = λ k x h. (ready k x h).1.0;
    second = λ k x h. (ready k x h).1.1;
    start = λ k x h. (next k x h).start;
    time = λ k x h.
        let f : Fired k x = fired_at k x h in
        omega (arith, latency_is k x h, floor_holds (fired_at k x h).c x.event.kind x.start (fired_at k x h).served, (fired_at k x h).finish);
    some = λ k x h. omega (arith, latency_is k x h, floor_counts (fired_at k x h).c x.event.kind (fired_at k x h).served);
    order = λ i j x y l a b.
        let t = in_order i j x l (get_below all j y b) in
        subst (λ (z : FiredEvent). is_event_before z.event z.start y.event y.start ≡ true) (get_or_from_slice_get all i x x a)
        (subst (λ (z : FiredEvent). is_event_before (get_or all i x).event (get_or all i x).start z.event z.start ≡ true) (get_or_from_slice_get all j y x b) t);
  }

  pub served_of : IsServed stepped comps (weave stepped events comps).fired
  served_of = record { at = λ k x h. by_option k x h (slice_get comps x.event.component) refl }
    where
      by_option : (k : ℕ) (x : FiredEvent) (h : slice_get all k ≡ Some x) (z : Option C) → slice_get comps x.event.component ≡ z
          → (c : C) × ((slice_get comps x.event.component ≡ Some c) × (x.finish ≡ (stepped (after_serving stepped c (of_component x.event.component (take k all))) x.event.kind x.start).1))
      by_option k x h None e =
          let none : slice_get (after_firings stepped events comps k).comps x.event.component ≡ None =
          comps_at k x.event.component ∙ ap (option_map (λ c. after_serving stepped c (of_component x.event.component (after_firings stepped events comps k).fired))) e
          in
          absurd (none-some (fired_at k x h).c (sym none ∙ (fired_at k x h).there))
      by_option k x h (Some c) e =
          let is : slice_get (after_firings stepped events comps k).comps x.event.component ≡ Some (after_serving stepped c (of_component x.event.component (after_firings stepped events comps k).fired)) =
          comps_at k x.event.component ∙ ap (option_map (λ c. after_serving stepped c (of_component x.event.component (after_firings stepped events comps k).fired))) e
          in
          let same : (fired_at k x h).c ≡ after_serving stepped c (of_component x.event.component (after_firings stepped events comps k).fired) =
          same_Some _ _ (sym (fired_at k x h).there ∙ is)
          in (
            c,
            (
              e,
              (fired_at k x h).finish
                  ∙ (ap (λ (z : C). (stepped z x.event.kind x.start).1) same
                  ∙ ap (λ (xs : List FiredEvent). (stepped (after_serving stepped c (of_component x.event.component xs)) x.event.kind x.start).1) (front k)),
            ),
          )

  module _ (p : Partition) (d : IsPartitioned serves floor events p comps) where
    within : (i : ℕ) (e : Event) → slice_get events i ≡ Some e → e.component < length p.places
    within i e h = omega (arith, get_below comps e.component (d.fits i e h).component (d.fits i e h).there, d.places)

    pub here : (k : ℕ) (x : FiredEvent) → slice_get (weave stepped events comps).fired k ≡ Some x → domain_of_event p.places x.event < length p.events
    here = domain_there events p (weave stepped events comps).fired order_of d.partitions within

    pub after_all : (steps : List Step) → FollowsTheWeave stepped events p comps (after_steps events p stepped (at_rest p comps) steps)
    after_all steps =
        follows stepped events p comps order_of d.partitions served_of here (after_steps events p stepped (at_rest p comps) steps)
        (from_rest stepped events p comps (weave stepped events comps).fired order_of d.partitions served_of here steps)

    pub goes_on : (steps : List Step) (x : FiredEvent) → is_allowed events p stepped (after_steps events p stepped (at_rest p comps) steps) barrier ≡ true
        → IsFirstUnfired stepped events p comps (after_steps events p stepped (at_rest p comps) steps) x
        → (is_allowed events p stepped (take_step events p stepped (after_steps events p stepped (at_rest p comps) steps) barrier) (fire (domain_of_event p.places x.event)) ≡ true)
        × (next_in events p (domain_of_event p.places x.event) (state_of (take_step events p stepped (after_steps events p stepped (at_rest p comps) steps) barrier) (domain_of_event p.places x.event)) ≡ Some (x.event, x.start))
    goes_on steps x allowed first =
        let s : MachineState C = after_steps events p stepped (at_rest p comps) steps in
        may_fire_first stepped events p comps (weave stepped events comps).fired order_of d.partitions here s
        (fronts stepped events p comps (weave stepped events comps).fired order_of d.partitions s (from_rest stepped events p comps (weave stepped events comps).fired order_of d.partitions served_of here steps))
        (settled_is stepped events p comps (weave stepped events comps).fired order_of d.partitions here s (both (every_crossing events p (is_settled events p stepped s)) (is_some (least_ready_start events p stepped s)) allowed).0)
        first.index x first.there first.unfired first.before allowed

    pub sound_next : (timed : List FiredEvent) (solution : IsSolution stepped events comps timed) → timed ≡ woven stepped events comps → (domain : ℕ) (own : DomainState) (next : Event × ℕ)
        → IsSoundDomain stepped events p comps timed solution domain own → next_in events p domain own ≡ Some next → is_clear events p domain own next.1 ≡ true
        → (x : FiredEvent) × IsNextFiring stepped events p comps timed solution domain own next x
    sound_next timed solution is domain own next s n clear =
        sound_follow stepped events p comps order_of d.partitions served_of here in_order timed solution is domain own next s n clear

    pub floors_bound : (timed : List FiredEvent) (solution : IsSolution stepped events comps timed) → timed ≡ woven stepped events comps → (domain : ℕ) (own : DomainState)
        → AreSoundWords timed p own.known → IsSoundFloor timed p domain own → AreSoundBounds events timed p domain own
    floors_bound timed solution is domain own known floor =
        bounds_back stepped events comps order_of timed is p domain own
        (sound_bounds events p (weave stepped events comps).fired order_of d.partitions domain own (words_alike stepped events comps order_of timed is p own.known known)
        (floor_alike stepped events comps order_of timed is p domain own floor))

    pub floors_at_barrier : (timed : List FiredEvent) (solution : IsSolution stepped events comps timed) → timed ≡ woven stepped events comps → (owns : List DomainState) (start : ℕ)
        → AreSoundDomains stepped events p comps timed solution owns → KnowFiredParents p owns → least_start_of events p owns ≡ Some start
        → (domain : ℕ) → IsSoundFloor timed p domain (with_floor start (own_at owns domain))
    floors_at_barrier timed solution is owns start h told least domain =
        floors_hold stepped events p comps order_of d.partitions here in_order timed solution is owns h told start least domain

    pub first_goes_on : (timed : List FiredEvent) (solution : IsSolution stepped events comps timed) → timed ≡ woven stepped events comps → (owns : List DomainState) (index : ℕ) (x : FiredEvent)
        → AreSoundDomains stepped events p comps timed solution owns → KnowFiredParents p owns → IsFirstLeft stepped events p comps owns index x → MayGoOn events p owns x
    first_goes_on timed solution is owns index x h told first =
        may_go_on stepped events p comps order_of d.partitions here in_order timed solution is owns h told index x first

    pub raised_bounds : (timed : List FiredEvent) (solution : IsSolution stepped events comps timed) → timed ≡ woven stepped events comps → (domain : ℕ) (own : DomainState) (x : Crossing) (bound : ℕ)
        → IsSoundDomain stepped events p comps timed solution domain own → MayRaise events p domain own x bound → bound ≤ finish_in timed x.parent
    raised_bounds timed solution is domain own x bound s may = below_finish_of stepped events p comps order_of d.partitions in_order timed solution is domain own x bound s may
