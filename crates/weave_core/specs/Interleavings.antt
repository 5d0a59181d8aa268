-- What is true of the domains after every list of steps.
use Rattle.std.specs.Prelude.{◌≡◌, ◌<◌, ◌==◌, ℕ, Bool, true, false, List, length, take, Some, slice_get}
use Rattle.std.specs.List.{filter}
use Rattle.std.specs.Option.{option_map}
use Rattle.component.specs.declared.kind.Kind.{Kind}
use Rattle.event_graph.specs.declared.event.Event.{Event}
use Rattle.event_graph.specs.Fits.{GraphFits}
use Rattle.event_graph.specs.Numbered.{IsNumbered}
use Rattle.event_graph.specs.OneListWeave.{FiredEvent, is_fired, weave}
use Rattle.event_graph.specs.ServedEvents.{after_serving, of_component}
use Rattle.domain_map.specs.Domains.{Partition, IsPartition, domain_at, domain_of_event}
use Rattle.weave_core.specs.DomainMachine.{MachineState, Step, after_steps, at_rest, barrier, fire, is_allowed, next_in, state_of, take_step}
use Rattle.weave_core.specs.Soundness.{AreSoundWords, IsSoundFloor}

-- those of a domain's components
abbrev pub of_domain : (places : List ℕ) → (domain : ℕ) → List FiredEvent → List FiredEvent
of_domain places domain xs = filter (λ x. domain_of_event places x.event == domain) xs

-- the first so many
abbrev pub IsFront : List FiredEvent → List FiredEvent → Type 0
IsFront front xs = front ≡ take (length front) xs

module _ {C : Type 0} (stepped : C → Kind → ℕ → C × ℕ) where
  -- Each domain has fired the first events of the one-list weave in that domain, at the weave's cycles; its components
  -- are what these events leave; and all words and floors are sound for the weave.
  pub record FollowsTheWeave (events : List Event) (p : Partition) (comps : List C) (s : MachineState C) : Type 0 where
    pub fired : (domain : ℕ) → IsFront (state_of s domain).fired (of_domain p.places domain (weave stepped events comps).fired)
    pub comps_are : (number : ℕ) → slice_get s.comps number
        ≡ option_map (λ c. after_serving stepped c (of_component number (state_of s (domain_at p.places number)).fired)) (slice_get comps number)
    pub words : AreSoundWords (weave stepped events comps).fired p s.words
    pub known : (domain : ℕ) → AreSoundWords (weave stepped events comps).fired p (state_of s domain).known
    pub floors : (domain : ℕ) → IsSoundFloor (weave stepped events comps).fired p domain (state_of s domain)

  -- of the events that the weave fires, x is the first that its domain hasn't
  pub record IsFirstUnfired (events : List Event) (p : Partition) (comps : List C) (s : MachineState C) (x : FiredEvent) : Type 0 where
    pub index : ℕ
    pub there : slice_get (weave stepped events comps).fired index ≡ Some x
    pub unfired : is_fired (state_of s (domain_of_event p.places x.event)).fired x.event.number ≡ false
    pub before : (earlier : ℕ) (y : FiredEvent) → earlier < index → slice_get (weave stepped events comps).fired earlier ≡ Some y
        → is_fired (state_of s (domain_of_event p.places y.event)).fired y.event.number ≡ true

-- a graph that fits the components, partitioned among domains that each component has one of
pub record IsPartitioned {C : Type 0} (serves : C → Kind → Bool) (floor : C → Kind → ℕ) (events : List Event) (p : Partition) (comps : List C) : Type 0 where
  pub numbered : IsNumbered events
  pub fits : GraphFits serves floor events comps
  pub partitions : IsPartition events p
  pub places : length p.places ≡ length comps

-- after every list of steps
abbrev pub Interleavings : {C : Type 0} (serves : C → Kind → Bool) (floor : C → Kind → ℕ) (stepped : C → Kind → ℕ → C × ℕ) → Type 0
Interleavings {C} serves floor stepped =
    (events : List Event) (p : Partition) (comps : List C) (steps : List Step) → IsPartitioned serves floor events p comps
    → FollowsTheWeave stepped events p comps (after_steps events p stepped (at_rest p comps) steps)

-- after a barrier the domain with the first unfired event may fire, and what it fires is that event
abbrev pub FirstUnfiredMayFire : {C : Type 0} (serves : C → Kind → Bool) (floor : C → Kind → ℕ) (stepped : C → Kind → ℕ → C × ℕ) → Type 0
FirstUnfiredMayFire {C} serves floor stepped =
    (events : List Event) (p : Partition) (comps : List C) (steps : List Step) (x : FiredEvent) → IsPartitioned serves floor events p comps
    → let s : MachineState C = after_steps events p stepped (at_rest p comps) steps in
    let next : MachineState C = take_step events p stepped s barrier in
    is_allowed events p stepped s barrier ≡ true
    → IsFirstUnfired stepped events p comps s x
    → (is_allowed events p stepped next (fire (domain_of_event p.places x.event)) ≡ true)
    × (next_in events p (domain_of_event p.places x.event) (state_of next (domain_of_event p.places x.event)) ≡ Some (x.event, x.start))
