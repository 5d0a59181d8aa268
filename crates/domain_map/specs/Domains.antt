-- The domains of the weave. Each component belongs to one, and so do the events on it.
use Rattle.std.specs.Prelude.{◌≡◌, ◌<◌, ◌==◌, ◌++◌, ℕ, if◌then◌else◌, List, [], ◌∷◌, length, map, Option, Some, None, slice_get, slice_index}
use Rattle.std.specs.List.{All, filter, flat_map}
use Rattle.std.specs.Option.{option_map_or}
use Rattle.machine_desc.specs.declared.machine.Machine.{Machine}
use Rattle.machine_desc.specs.ComponentDomains.{component_domains}
use Rattle.event_graph.specs.declared.event.Event.{Event}
use Rattle.event_graph.specs.declared.event.Parent.{Parent}
use Rattle.domain_map.specs.declared.crossing.Crossing.{Crossing}

-- the domain of a component, by the domains of all components
abbrev pub domain_at : (places : List ℕ) → (component : ℕ) → ℕ
domain_at places component = slice_index places component

-- the domain of an event, and of the event of a number
abbrev pub domain_of_event : List ℕ → Event → ℕ
domain_of_event places e = domain_at places e.component

abbrev pub domain_of_number : List ℕ → List Event → (number : ℕ) → ℕ
domain_of_number places events number = option_map_or (domain_of_event places) (slice_get events number) 0

-- the numbers of a domain's events, in the order of the events
unfoldable pub events_in : List ℕ → List Event → (domain : ℕ) → List ℕ
events_in places events domain = map (λ e. e.number) (filter (λ e. domain_of_event places e == domain) events)

-- the crossing from a parent to an event: there is one where their domains differ
abbrev pub crossing_from : List ℕ → List Event → Event → Option Parent → List Crossing
crossing_from places events e None = []
crossing_from places events e (Some p) =
    (if domain_of_number places events p.number == domain_of_event places e
    then []
    else record {
      parent = p.number;
      child = e.number;
      source = domain_of_number places events p.number;
      target = domain_of_event places e;
      delay = p.delay;
    } ∷ [])

-- the crossings into an event: from its first parent and from its second
abbrev pub crossings_into : List ℕ → List Event → Event → List Crossing
crossings_into places events e = crossing_from places events e e.first ++ crossing_from places events e e.second

-- the crossings into some of the events, and all crossings, in the order of the events
unfoldable pub crossings_into_all : List ℕ → List Event → (some : List Event) → List Crossing
crossings_into_all places events some = flat_map (crossings_into places events) some

abbrev pub crossings_of : List ℕ → List Event → List Crossing
crossings_of places events = crossings_into_all places events events

-- The domain of each component, for each domain the numbers of its events, and the crossings between domains.
pub record Partition : Type 0 where
  pub places : List ℕ
  pub events : List (List ℕ)
  pub crossings : List Crossing

-- each component's domain is there
pub record HasDomains (p : Partition) : Type 0 where
  pub below : All (λ domain. domain < length p.events) p.places

-- the partition of these events by the domains that it has
pub record IsPartition (events : List Event) (p : Partition) : Type 0 where
  pub there : HasDomains p
  pub each : (domain : ℕ) → domain < length p.events → slice_get p.events domain ≡ Some (events_in p.places events domain)
  pub crossings : p.crossings ≡ crossings_of p.places events

-- the partition of these events by the domains of a machine
pub record IsSplit (events : List Event) (m : Machine) (p : Partition) : Type 0 where
  pub places : p.places ≡ component_domains m
  pub domains : length p.events ≡ m.domains.count
  pub partitions : IsPartition events p
