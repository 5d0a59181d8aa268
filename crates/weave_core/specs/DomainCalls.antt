-- What the calls of a domain promise: each is a step of the machine, and the events that a domain fires are the first
-- of its events in every solution of the timing rules for which its words and its floor are sound.
use Rattle.std.specs.Prelude.{◌≡◌, ◌≤◌, ◌<◌, ◌⊎◌, ◌==◌, ◌^◌, ℕ, Bool, true, false, List, [], ◌∷◌, ◌++◌, length, map, Option, Some, None, slice_get, slice_set}
use Rattle.std.specs.List.{filter, enumerate_from}
use Rattle.std.specs.Option.{option_map}
use Rattle.zs_num.specs.declared.time.Key.{Key}
use Rattle.zs_num.specs.declared.time.Word.{Word}
use Rattle.zs_num.specs.declared.time.Word.TheVariants.{Bound, Exact}
use Rattle.component.specs.declared.kind.Kind.{Kind}
use Rattle.event_graph.specs.declared.event.Event.{Event}
use Rattle.event_graph.specs.declared.fired.Fired.{Fired}
use Rattle.event_graph.specs.Fits.{GraphFits}
use Rattle.event_graph.specs.ServedEvents.{after_serving, of_component}
use Rattle.event_graph.specs.TimingSolution.{IsSolution}
use Rattle.weave_core.specs.Interleavings.{IsFront, of_domain}
use Rattle.weave_core.specs.Soundness.{AreSoundBounds, AreSoundWords}
use Rattle.event_graph.specs.OneListWeave.{FiredEvent, is_fired}
use Rattle.domain_map.specs.declared.crossing.Crossing.{Crossing}
use Rattle.domain_map.specs.Domains.{Partition, domain_at, domain_of_event}
use Rattle.weave_core.specs.declared.next.Next.{Next}
use Rattle.weave_core.specs.declared.next.Next.TheVariants.{Done, Fire, Blocked}
use Rattle.weave_core.specs.DomainMachine.{DomainState, allows_bound, arrival_of, bound_of, cycle_of, is_clear, is_exact, is_unresolved, next_in, word_at}
use Rattle.weave_core.specs.Layout.{place_in}

-- What a domain keeps: the graph and its partition, which domain it is, what it knows and did, and its components in
-- order of their numbers.
pub record DomainValue (C : Type 0) : Type 0 where
  pub domain : ℕ
  pub events : List Event
  pub partition : Partition
  pub own : DomainState
  pub comps : List C

-- it is this domain of this graph, as it was partitioned
pub record IsDomainOf {C : Type 0} (events : List Event) (p : Partition) (domain : ℕ) (v : DomainValue C) : Type 0 where
  pub domain_is : v.domain ≡ domain
  pub events_are : v.events ≡ events
  pub partition_is : v.partition ≡ p

-- those of the components that are in a domain, in order of their numbers
abbrev pub comps_in : {C : Type 0} → (places : List ℕ) → (domain : ℕ) → List C → List C
comps_in {C} places domain comps =
    map (λ (at : ℕ × C). at.1) (filter (λ (at : ℕ × C). domain_at places at.0 == domain) (enumerate_from 0 comps))

-- the components of a domain, at their numbers among all components, which the graph fits
pub record IsFitted {C : Type 0} (serves : C → Kind → Bool) (floor : C → Kind → ℕ) (events : List Event) (p : Partition) (domain : ℕ) (comps all : List C) : Type 0 where
  pub count : length p.places ≡ length all
  pub fits : GraphFits serves floor events all
  pub comps_are : comps ≡ comps_in p.places domain all

module _ (events : List Event) (p : Partition) (domain : ℕ) where
  -- every event of the domain is fired
  abbrev pub AllFired : DomainState → Type 0
  AllFired own = (i : ℕ) (e : Event) → slice_get events i ≡ Some e → domain_of_event p.places e ≡ domain → is_fired own.fired e.number ≡ true

  -- of the unresolved crossings into the domain, the one with the least arrival, and at a tie the least number
  pub record IsLeastArrival (own : DomainState) (number : ℕ) (x : Crossing) : Type 0 where
    pub there : slice_get p.crossings number ≡ Some x
    pub unresolved : is_unresolved events p domain own number x ≡ true
    pub least : (other : ℕ) (y : Crossing) → slice_get p.crossings other ≡ Some y → is_unresolved events p domain own other y ≡ true
        → (arrival_of events p own number x < arrival_of events p own other y)
        ⊎ ((arrival_of events p own number x ≡ arrival_of events p own other y) × (number ≤ other))

  -- what a domain may answer: exactly one of these
  pub record MayFire (own : DomainState) (key : Key) : Type 0 where
    pub event : Event
    pub next : next_in events p domain own ≡ Some (event, key.start)
    pub number : event.number ≡ key.number
    pub clear : is_clear events p domain own key.start ≡ true

  pub record IsBlockedBy (own : DomainState) (number bound : ℕ) : Type 0 where
    pub crossing : Crossing
    pub is_least : IsLeastArrival own number crossing
    pub bound_is : bound ≡ bound_of events p own number crossing
    pub unfinished : AllFired own → ⊥
    pub late : (next_in events p domain own ≡ None)
        ⊎ ((e : Event) × (start : ℕ) × (next_in events p domain own ≡ Some (e, start)) × (arrival_of events p own number crossing ≤ start))

  abbrev pub IsAnswer : DomainState → Next → Type 0
  IsAnswer own Done = AllFired own
  IsAnswer own (Fire key) = MayFire own key
  IsAnswer own (Blocked crossing bound) = IsBlockedBy own crossing bound

  -- the word doesn't fall: a bound that isn't below the one known, or a finish that isn't below the bound of the
  -- crossing
  abbrev pub IsNoFall : DomainState → (number : ℕ) → Crossing → (was word : Word) → Type 0
  IsNoFall own number x (Bound a) (Bound b) = a ≤ b
  IsNoFall own number x (Exact f) (Bound b) = ⊥
  IsNoFall own number x (Bound a) (Exact f) = bound_of events p own number x ≤ f
  IsNoFall own number x (Exact g) (Exact f) = f ≡ g

  -- a word that the domain may be told: its crossing leads into the domain, it doesn't fall, a finish is the one that
  -- other crossings told of the same parent, and its cycle is one of a run
  pub record MayTell (own : DomainState) (number : ℕ) (word : Word) : Type 0 where
    pub crossing : Crossing
    pub there : slice_get p.crossings number ≡ Some crossing
    pub target : crossing.target ≡ domain
    pub no_fall : IsNoFall own number crossing (word_at own.known number) word
    pub agrees : (other : ℕ) (y : Crossing) → slice_get p.crossings other ≡ Some y → y.parent ≡ crossing.parent
        → is_exact (word_at own.known other) ≡ true → is_exact word ≡ true → cycle_of word ≡ cycle_of (word_at own.known other)
    pub small : cycle_of word ≤ 2 ^ 62

  -- What a domain answers of a crossing out of it: nothing where the parent is fired, and otherwise the greatest of the
  -- bounds that the crossing's word may be raised to, among the cycles that there are.
  pub record IsGreatestBound (own : DomainState) (x : Crossing) (bound : ℕ) : Type 0 where
    pub unfired : is_fired own.fired x.parent ≡ false
    pub allowed : allows_bound events p domain own x bound ≡ true
    pub greatest : (other : ℕ) → other < 2 ^ 64 → allows_bound events p domain own x other ≡ true → other ≤ bound

  abbrev pub IsBoundAnswer : DomainState → Crossing → Option ℕ → Type 0
  IsBoundAnswer own x None = is_fired own.fired x.parent ≡ true
  IsBoundAnswer own x (Some bound) = IsGreatestBound own x bound

  -- the least ready key
  abbrev pub earliest_of : DomainState → Option Key
  earliest_of own = option_map (λ next. record { start = next.1; number = next.0.number }) (next_in events p domain own)

-- the crossing of a number leads into the domain, and out of it
pub record IsInto (p : Partition) (domain number : ℕ) : Type 0 where
  pub crossing : Crossing
  pub there : slice_get p.crossings number ≡ Some crossing
  pub target : crossing.target ≡ domain

pub record IsOutOf (p : Partition) (domain number : ℕ) : Type 0 where
  pub crossing : Crossing
  pub there : slice_get p.crossings number ≡ Some crossing
  pub source : crossing.source ≡ domain

-- the numbers of the crossings out of the domain, in order
pub record AreOutOf (p : Partition) (domain : ℕ) (numbers : List ℕ) : Type 0 where
  pub each : (i number : ℕ) → slice_get numbers i ≡ Some number → IsOutOf p domain number
  pub covers : (number : ℕ) → IsOutOf p domain number → (i : ℕ) × (slice_get numbers i ≡ Some number)
  pub rising : (i j m n : ℕ) → i < j → slice_get numbers i ≡ Some m → slice_get numbers j ≡ Some n → m < n

-- a domain that has fired nothing and knows nothing
abbrev pub at_first : Partition → DomainState
at_first p = record { fired = []; known = map (λ x. Bound 0) p.crossings; floor = 0 }

-- after a look
abbrev pub with_known : DomainState → (number : ℕ) → Word → DomainState
with_known own number word = record own { known = slice_set own.known number word }

-- a fire: the least ready event fires, its component serves it, and nothing else changes
pub record IsFire {C : Type 0} (stepped : C → Kind → ℕ → C × ℕ) (old new : DomainValue C) (result : Fired) : Type 0 where
  pub event : Event
  pub start : ℕ
  pub next : next_in old.events old.partition old.domain old.own ≡ Some (event, start)
  pub component : C
  pub there : slice_get old.comps (place_in old.partition.places old.domain event.component) ≡ Some component
  pub result_is : result ≡ record { number = event.number; start = start; finish = (stepped component event.kind start).1 }
  pub new_is : new ≡ record old {
    own = record old.own {
      fired = old.own.fired ++ (record { event = event; start = start; finish = (stepped component event.kind start).1 }) ∷ [];
    };
    comps = slice_set old.comps (place_in old.partition.places old.domain event.component) (stepped component event.kind start).0;
  }

-- it may fire, and the greatest sum of the step is at most 2^62
pub record CanFire {C : Type 0} (greatest : C → Kind → ℕ → ℕ) (v : DomainValue C) : Type 0 where
  pub key : Key
  pub may : MayFire v.events v.partition v.domain v.own key
  pub small : (c : C) → slice_get v.comps (place_in v.partition.places v.domain may.event.component) ≡ Some c → greatest c may.event.kind key.start ≤ 2 ^ 62

-- Where the words that the domain knows and the bounds that it takes of them are sound for a solution, it fired the
-- first of its events in that solution, at their cycles, and its components are what these leave.
pub record Follows {C : Type 0} (stepped : C → Kind → ℕ → C × ℕ) (all : List C) (timed : List FiredEvent) (v : DomainValue C) (solution : IsSolution stepped v.events all timed) : Type 0 where
  pub fired : AreSoundWords timed v.partition v.own.known → AreSoundBounds v.events timed v.partition v.domain v.own
      → IsFront v.own.fired (of_domain v.partition.places v.domain solution.sorted)
  pub comps_are : AreSoundWords timed v.partition v.own.known → AreSoundBounds v.events timed v.partition v.domain v.own
      → v.comps ≡ comps_in v.partition.places v.domain (map (λ (at : ℕ × C). after_serving stepped at.1 (of_component at.0 v.own.fired)) (enumerate_from 0 all))
