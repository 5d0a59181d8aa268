-- Domains that keep to the one-list weave: what their calls leave of it, what a barrier gives them, and what they end
-- with.
use Rattle.std.specs.Prelude.{◌≡◌, ◌≤◌, ◌<◌, ◌^◌, ℕ, Bool, true, false, List, length, map, Some, None, slice_get}
use Rattle.std.specs.List.{enumerate_from}
use Rattle.zs_num.specs.declared.time.Key.{Key}
use Rattle.zs_num.specs.declared.time.Word.{Word}
use Rattle.component.specs.declared.kind.Kind.{Kind}
use Rattle.event_graph.specs.declared.event.Event.{Event}
use Rattle.event_graph.specs.declared.fired.Fired.{Fired}
use Rattle.event_graph.specs.OneListWeave.{FiredEvent, comps_after, finish_in, fired_of, is_fired, weave, woven}
use Rattle.event_graph.specs.SmallSteps.{AreSmallSteps}
use Rattle.event_graph.specs.ServedEvents.{after_serving, of_component}
use Rattle.domain_map.specs.declared.crossing.Crossing.{Crossing}
use Rattle.domain_map.specs.Domains.{Partition, domain_of_event}
use Rattle.weave_core.specs.declared.next.Next.{Next}
use Rattle.weave_core.specs.declared.next.Next.TheVariants.{Fire}
use Rattle.weave_core.specs.AtBarrier.{IsFirstLeft, KnowFiredParents, MayGoOn, least_start_of, own_at}
use Rattle.weave_core.specs.Beginning.{AreSmall}
use Rattle.weave_core.specs.DomainCalls.{CanFire, DomainValue, IsAnswer, IsFire, MayFire, MayTell, at_first, comps_in, with_known}
use Rattle.weave_core.specs.DomainMachine.{DomainState, SaysAsMuch, is_clear, next_in, with_floor, word_at}
use Rattle.weave_core.specs.Interleavings.{IsPartitioned, IsFront, of_domain}
use Rattle.weave_core.specs.Layout.{timed_from}
use Rattle.weave_core.specs.Raising.{MayRaise}
use Rattle.weave_core.specs.Soundness.{AreSoundWords, IsSoundFloor, IsSoundWord}

-- a partitioned graph whose weave passes no 2^62
pub record CanWeave {C : Type 0} (serves : C → Kind → Bool) (floor : C → Kind → ℕ) (stepped : C → Kind → ℕ → C × ℕ) (greatest : C → Kind → ℕ → ℕ) (events : List Event) (p : Partition) (comps : List C) : Type 0 where
  pub partitioned : IsPartitioned serves floor events p comps
  pub small : AreSmallSteps stepped greatest events comps

-- what each domain keeps
abbrev pub owns_of : {C : Type 0} → List (DomainValue C) → List DomainState
owns_of vs = map (λ v. v.own) vs

module _ {C : Type 0} (stepped : C → Kind → ℕ → C × ℕ) (events : List Event) (p : Partition) (comps : List C) where
  -- the domain of this number of the graph
  abbrev pub domain_with : (domain : ℕ) → DomainState → List C → DomainValue C
  domain_with domain own parts = record { domain = domain; events = events; partition = p; own = own; comps = parts }

  -- it fired the first of its events in the weave, its components are what these leave, and what it was told is true
  pub record KeepsTo (domain : ℕ) (own : DomainState) (parts : List C) : Type 0 where
    pub fired : IsFront own.fired (of_domain p.places domain (weave stepped events comps).fired)
    pub parts_are : parts ≡ comps_in p.places domain (map (λ (at : ℕ × C). after_serving stepped at.1 (of_component at.0 own.fired)) (enumerate_from 0 comps))
    pub known : AreSoundWords (woven stepped events comps) p own.known
    pub floor : IsSoundFloor (woven stepped events comps) p domain own
    pub wide : length own.known ≡ length p.crossings

  pub record IsKept (domain : ℕ) (v : DomainValue C) : Type 0 where
    pub is : v ≡ domain_with domain v.own v.comps
    pub keeps : KeepsTo domain v.own v.comps

  -- all domains do
  pub record AreKept (vs : List (DomainValue C)) : Type 0 where
    pub count : length vs ≡ length p.events
    pub each : (domain : ℕ) (v : DomainValue C) → slice_get vs domain ≡ Some v → IsKept domain v

  -- the crossing leads into the domain, and the word is true of its parent and says as much as the domain knows
  pub record IsTrueWordOf (domain : ℕ) (own : DomainState) (number : ℕ) (word : Word) : Type 0 where
    pub crossing : Crossing
    pub there : slice_get p.crossings number ≡ Some crossing
    pub target : crossing.target ≡ domain
    pub sound : IsSoundWord (woven stepped events comps) crossing word
    pub says : SaysAsMuch (word_at own.known number) word

  -- the event is one of the domain, which it has yet to fire, and its start is one of a run
  pub record IsReadyEvent (domain : ℕ) (own : DomainState) (e : Event) (start : ℕ) : Type 0 where
    pub there : slice_get events e.number ≡ Some e
    pub here : domain_of_event p.places e ≡ domain
    pub unfired : is_fired own.fired e.number ≡ false
    pub small : start ≤ 2 ^ 62

  -- the crossing leads from its parent's domain into another one
  pub record JoinsDomains (x : Crossing) : Type 0 where
    pub parent : Event
    pub there : slice_get events x.parent ≡ Some parent
    pub source : domain_of_event p.places parent ≡ x.source
    pub source_below : x.source < length p.events
    pub target_below : x.target < length p.events
    pub apart : x.source ≡ x.target → ⊥

  -- the firing is one of the weave's, of an event of the domain
  pub record IsWeaveFiring (domain : ℕ) (x : FiredEvent) : Type 0 where
    pub there : slice_get events x.event.number ≡ Some x.event
    pub here : domain_of_event p.places x.event ≡ domain
    pub finish : finish_in (woven stepped events comps) x.event.number ≡ x.finish
    pub answer : slice_get (map fired_of (woven stepped events comps)) x.event.number ≡ Some (fired_of x)

  -- every event has fired in its domain
  abbrev pub HaveAllFired : List DomainState → Type 0
  HaveAllFired owns = (index : ℕ) (x : FiredEvent) → slice_get (weave stepped events comps).fired index ≡ Some x
      → is_fired (own_at owns (domain_of_event p.places x.event)).fired x.event.number ≡ true

  -- an event stands among those that some domain fired
  pub record IsFiredSomewhere (vs : List (DomainValue C)) (number : ℕ) : Type 0 where
    pub domain : ℕ
    pub value : DomainValue C
    pub there : slice_get vs domain ≡ Some value
    pub place : ℕ
    pub firing : FiredEvent
    pub fired : slice_get value.own.fired place ≡ Some firing
    pub number_is : firing.event.number ≡ number

-- What keeps domains to the weave, over all graphs that can be woven.
pub record KeepingLaws {C : Type 0} (serves : C → Kind → Bool) (floor : C → Kind → ℕ) (stepped : C → Kind → ℕ → C × ℕ) (greatest : C → Kind → ℕ → ℕ) : Type 0 where
  pub begins : (events : List Event) (p : Partition) (comps : List C) → CanWeave serves floor stepped greatest events p comps
      → (domain : ℕ) → KeepsTo stepped events p comps domain (at_first p) (comps_in p.places domain comps)
  -- a word that is true may be told
  pub may_tell : (events : List Event) (p : Partition) (comps : List C) → CanWeave serves floor stepped greatest events p comps
      → (domain : ℕ) (own : DomainState) (parts : List C) (number : ℕ) (word : Word) → KeepsTo stepped events p comps domain own parts → IsTrueWordOf stepped events p comps domain own number word
      → MayTell events p domain own number word
  pub tells : (events : List Event) (p : Partition) (comps : List C) → CanWeave serves floor stepped greatest events p comps
      → (domain : ℕ) (own : DomainState) (parts : List C) (number : ℕ) (word : Word) → KeepsTo stepped events p comps domain own parts → IsTrueWordOf stepped events p comps domain own number word
      → KeepsTo stepped events p comps domain (with_known own number word) parts
  -- so is a bound that a raise may have
  pub bounds_hold : (events : List Event) (p : Partition) (comps : List C) → CanWeave serves floor stepped greatest events p comps
      → (domain : ℕ) (own : DomainState) (parts : List C) (x : Crossing) (bound : ℕ) → KeepsTo stepped events p comps domain own parts → MayRaise events p domain own x bound
      → bound ≤ finish_in (woven stepped events comps) x.parent
  -- the event that may fire can, and it is the domain's next in the weave
  pub can_fire : (events : List Event) (p : Partition) (comps : List C) → CanWeave serves floor stepped greatest events p comps
      → (domain : ℕ) (own : DomainState) (parts : List C) (key : Key) → KeepsTo stepped events p comps domain own parts → MayFire events p domain own key
      → CanFire greatest (domain_with stepped events p comps domain own parts)
  pub fires : (events : List Event) (p : Partition) (comps : List C) → CanWeave serves floor stepped greatest events p comps
      → (domain : ℕ) (own : DomainState) (parts : List C) (key : Key) (new : DomainValue C) (result : Fired) → KeepsTo stepped events p comps domain own parts → MayFire events p domain own key
      → IsFire stepped (domain_with stepped events p comps domain own parts) new result
      → KeepsTo stepped events p comps domain new.own new.comps × (result.finish ≡ finish_in (woven stepped events comps) result.number)
  pub ready : (events : List Event) (p : Partition) (comps : List C) → CanWeave serves floor stepped greatest events p comps
      → (domain : ℕ) (own : DomainState) (parts : List C) (e : Event) (start : ℕ) → KeepsTo stepped events p comps domain own parts → next_in events p domain own ≡ Some (e, start)
      → IsReadyEvent stepped events p comps domain own e start
  pub here : (events : List Event) (p : Partition) (comps : List C) → CanWeave serves floor stepped greatest events p comps
      → (index : ℕ) (x : FiredEvent) → slice_get (weave stepped events comps).fired index ≡ Some x → domain_of_event p.places x.event < length p.events
  pub crossings : (events : List Event) (p : Partition) (comps : List C) → CanWeave serves floor stepped greatest events p comps
      → (number : ℕ) (x : Crossing) → slice_get p.crossings number ≡ Some x → JoinsDomains stepped events p comps x
  -- no finish passes 2^62
  pub finishes : (events : List Event) (p : Partition) (comps : List C) → CanWeave serves floor stepped greatest events p comps
      → (number : ℕ) → finish_in (woven stepped events comps) number ≤ 2 ^ 62
  pub small : (events : List Event) (p : Partition) (comps : List C) → CanWeave serves floor stepped greatest events p comps → AreSmall events
  -- the least ready start is a sound floor, and lets the first unfired event fire
  pub floors_hold : (events : List Event) (p : Partition) (comps : List C) → CanWeave serves floor stepped greatest events p comps
      → (vs : List (DomainValue C)) (start : ℕ) → AreKept stepped events p comps vs → KnowFiredParents p (owns_of vs) → least_start_of events p (owns_of vs) ≡ Some start
      → (domain : ℕ) → IsSoundFloor (woven stepped events comps) p domain (with_floor start (own_at (owns_of vs) domain))
  pub goes_on : (events : List Event) (p : Partition) (comps : List C) → CanWeave serves floor stepped greatest events p comps
      → (vs : List (DomainValue C)) (index : ℕ) (x : FiredEvent) → AreKept stepped events p comps vs → KnowFiredParents p (owns_of vs) → IsFirstLeft stepped events p comps (owns_of vs) index x
      → MayGoOn events p (owns_of vs) x
  -- where no event is ready, all have fired
  pub all_done : (events : List Event) (p : Partition) (comps : List C) → CanWeave serves floor stepped greatest events p comps
      → (vs : List (DomainValue C)) → AreKept stepped events p comps vs → KnowFiredParents p (owns_of vs) → least_start_of events p (owns_of vs) ≡ None → HaveAllFired stepped events p comps (owns_of vs)
  -- where the next event may fire, no answer but that is right; and that it may is not changed by what the domain is
  -- told
  pub fires_on : (events : List Event) (p : Partition) (comps : List C) → CanWeave serves floor stepped greatest events p comps
      → (domain : ℕ) (own : DomainState) (parts : List C) (answer : Next) (e : Event) (start : ℕ) → KeepsTo stepped events p comps domain own parts → IsAnswer events p domain own answer
      → next_in events p domain own ≡ Some (e, start) → is_clear events p domain own start ≡ true → (key : Key) × (answer ≡ Fire key)
  pub stays_clear : (events : List Event) (p : Partition) (domain : ℕ) (before after : DomainState) (start : ℕ) → before.floor ≤ after.floor
      → ((number : ℕ) → SaysAsMuch (word_at before.known number) (word_at after.known number))
      → is_clear events p domain before start ≡ true → is_clear events p domain after start ≡ true
  -- what was fired is the weave's
  pub log : (events : List Event) (p : Partition) (comps : List C) → CanWeave serves floor stepped greatest events p comps
      → (domain : ℕ) (own : DomainState) (parts : List C) (fired : List Fired) → KeepsTo stepped events p comps domain own parts → own.fired ≡ map (timed_from events) fired
      → map fired_of own.fired ≡ fired
  pub firings : (events : List Event) (p : Partition) (comps : List C) → CanWeave serves floor stepped greatest events p comps
      → (domain : ℕ) (own : DomainState) (parts : List C) (place : ℕ) (x : FiredEvent) → KeepsTo stepped events p comps domain own parts → slice_get own.fired place ≡ Some x
      → IsWeaveFiring stepped events p comps domain x
  -- once all events have fired, each stands somewhere, and the components are the weave's
  pub among : (events : List Event) (p : Partition) (comps : List C) → CanWeave serves floor stepped greatest events p comps
      → (vs : List (DomainValue C)) → AreKept stepped events p comps vs → HaveAllFired stepped events p comps (owns_of vs) → (number : ℕ) → number < length events
      → IsFiredSomewhere stepped events p comps vs number
  pub ended : (events : List Event) (p : Partition) (comps : List C) → CanWeave serves floor stepped greatest events p comps
      → (vs : List (DomainValue C)) → AreKept stepped events p comps vs → HaveAllFired stepped events p comps (owns_of vs) → (domain : ℕ) (v : DomainValue C) → slice_get vs domain ≡ Some v
      → v.comps ≡ comps_in p.places domain (comps_after stepped events comps)
  pub count : (events : List Event) (p : Partition) (comps : List C) → CanWeave serves floor stepped greatest events p comps
      → (length (weave stepped events comps).fired ≡ length events) × (length (map fired_of (woven stepped events comps)) ≡ length events)
