-- What a domain begins with.
use Rattle.std.specs.Prelude.{◌≡◌, ◌≤◌, ◌<◌, ◌+◌, ◌^◌, ◌⊎◌, ◌==◌, ℕ, cond, max, List, length, Option, Some, None, IfSome, slice_get}
use Rattle.zs_num.specs.declared.time.Word.TheVariants.{Bound}
use Rattle.event_graph.specs.declared.event.Event.{Event}
use Rattle.event_graph.specs.declared.event.Parent.{Parent}
use Rattle.weave_core.specs.declared.children.Link.{Link}
use Rattle.domain_map.specs.declared.crossing.Crossing.{Crossing}
use Rattle.weave_core.specs.declared.incoming.Stub.{Stub}
use Rattle.weave_core.specs.Children.{IsChain}
use Rattle.weave_core.specs.Layout.{hit_after, times_parent, latest_to, links_to, place_in, unknown_into}
use Rattle.weave_core.specs.DomainMachine.{latency_at}
use Rattle.weave_core.specs.Stubs.{IsSmallStub}

-- the numbers rise
pub record IsRisingList (here : List Event) : Type 0 where
  pub rising : (i j : ℕ) (e f : Event) → i < j → slice_get here i ≡ Some e → slice_get here j ≡ Some f → e.number < f.number

-- the event of the number is at the place, or nowhere
pub record HasPlace (here : List Event) (number place : ℕ) : Type 0 where
  pub event : Event
  pub there : slice_get here place ≡ Some event
  pub number_is : event.number ≡ number

abbrev pub NoPlace : List Event → (number : ℕ) → Type 0
NoPlace here number = (place : ℕ) (e : Event) → slice_get here place ≡ Some e → e.number ≡ number → ⊥

-- 1 where the parent is here, and 0 otherwise
abbrev pub IsCount : List Event → Option Parent → ℕ → Type 0
IsCount here None n = n ≡ 0
IsCount here (Some q) n = ((n ≡ 1) × ((place : ℕ) × HasPlace here q.number place)) ⊎ ((n ≡ 0) × NoPlace here q.number)

-- the chain of each event has each child so often, and leaves it this start
pub record AreChained (here : List Event) (heads : List ℕ) (links : List Link) (count : (number child : ℕ) → ℕ) (late : (finish number child : ℕ) → ℕ) : Type 0 where
  pub each : (place : ℕ) (e : Event) → slice_get here place ≡ Some e
      → (head : ℕ) × ((slice_get heads place ≡ Some head) × ((head ≤ length links) × ((chain : List Link) × (IsChain links head chain
      × (((i : ℕ) (l : Link) → slice_get chain i ≡ Some l → (l.child < length here) × (l.delay ≤ 2 ^ 62))
      × (((child : ℕ) → links_to child chain ≡ count e.number child) × ((finish child : ℕ) → latest_to finish child chain ≡ late finish e.number child)))))))

-- a child more has this parent
abbrev pub AddsLink : List Event → (child : ℕ) → Option Parent → (heads after : List ℕ) → (links longer : List Link) → Type 0
AddsLink here child parent heads after links longer =
    (count : (number child : ℕ) → ℕ) (late : (finish number child : ℕ) → ℕ) → AreChained here heads links count late
    → AreChained here after longer (λ n c. count n c + cond (c == child) (times_parent n parent) 0) (λ f n c. max (late f n c) (cond (c == child) (hit_after f n parent) 0))

-- for each component up to this one its place among those of the domain
pub record AreOwnPlaces (places : List ℕ) (domain : ℕ) (own_places : List ℕ) (upto : ℕ) : Type 0 where
  pub size : length own_places ≡ upto
  pub each : (component : ℕ) → component < upto → slice_get own_places component ≡ Some (place_in places domain component)

-- the times of the event don't pass 2^62, and it takes no time less than none
pub record IsSmallEvent (e : Event) : Type 0 where
  pub ordered : e.min_start ≤ e.min_finish
  pub finish : e.min_finish ≤ 2 ^ 62
  pub first : IfSome e.first (λ q. q.delay ≤ 2 ^ 62)
  pub second : IfSome e.second (λ q. q.delay ≤ 2 ^ 62)

pub record AreSmall (events : List Event) : Type 0 where
  pub each : (i : ℕ) (e : Event) → slice_get events i ≡ Some e → IsSmallEvent e

-- for each event up to this one how many of its parents are here
pub record AreCounts (here : List Event) (waits : List ℕ) (upto : ℕ) : Type 0 where
  pub size : length waits ≡ upto
  pub each : (place : ℕ) (e : Event) → place < upto → slice_get here place ≡ Some e
      → (first : ℕ) × ((second : ℕ) × (IsCount here e.first first × (IsCount here e.second second × (slice_get waits place ≡ Some (first + second)))))

-- The crossings.

-- the crossing leads to an event here
pub record IsCrossed (events here : List Event) (x : Crossing) : Type 0 where
  pub place : ℕ
  pub child : HasPlace here x.child place
  pub parent : Event
  pub parent_there : slice_get events x.parent ≡ Some parent
  pub delay : x.delay ≤ 2 ^ 62

pub record AreCrossed (events here : List Event) (crossings : List Crossing) (domain : ℕ) : Type 0 where
  pub each : (number : ℕ) (x : Crossing) → slice_get crossings number ≡ Some x → x.target ≡ domain → IsCrossed events here x

-- the stub of a crossing of which nothing is known
pub record IsMadeOf (events here : List Event) (number : ℕ) (x : Crossing) (s : Stub) : Type 0 where
  pub number_is : s.number ≡ number
  pub delay : s.delay ≡ x.delay
  pub latency : s.latency ≡ latency_at events x.parent
  pub word : s.word ≡ Bound 0
  pub child : HasPlace here x.child s.child
  pub small : IsSmallStub s

-- the stubs of the crossings up to this one
pub record AreStubsUpto (events here : List Event) (crossings : List Crossing) (domain : ℕ) (stubs : List Stub) (upto : ℕ) : Type 0 where
  pub few : length stubs ≤ upto
  pub each : (place : ℕ) (s : Stub) → slice_get stubs place ≡ Some s
      → (s.number < upto) × ((x : Crossing) × ((slice_get crossings s.number ≡ Some x) × ((x.target ≡ domain) × IsMadeOf events here s.number x s)))
  pub covers : (number : ℕ) (x : Crossing) → number < upto → slice_get crossings number ≡ Some x → x.target ≡ domain
      → (place : ℕ) × ((s : Stub) × ((slice_get stubs place ≡ Some s) × (s.number ≡ number)))
  pub rising : (i j : ℕ) (s t : Stub) → i < j → slice_get stubs i ≡ Some s → slice_get stubs j ≡ Some t → s.number < t.number

-- each event waits for two parents at most
pub record HasWaits (here : List Event) (waits : List ℕ) : Type 0 where
  pub size : length waits ≡ length here
  pub few : (place wait : ℕ) → slice_get waits place ≡ Some wait → wait ≤ 2

-- and for each of these stubs
pub record AddsWaits (waits after : List ℕ) (stubs : List Stub) : Type 0 where
  pub size : length after ≡ length waits
  pub each : (place wait : ℕ) → slice_get waits place ≡ Some wait → slice_get after place ≡ Some (wait + unknown_into place stubs)
