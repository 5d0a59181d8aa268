-- How a partition is kept.
use Rattle.std.specs.Prelude.{◌≡◌, ℕ, List, [], ◌∷◌, ◌++◌, Vec, length, map}
use Rattle.std.specs.List.{slice_index_or, slice_set}
use Rattle.std.specs.declared.alloc.Global.{Global}
use Rattle.domain_map.specs.declared.parts.Parts.TheInside.{Inside}
use Rattle.event_graph.specs.declared.event.Event.{Event}
use Rattle.domain_map.specs.Domains.{Partition, HasDomains, domain_of_event}

-- the lists of a list of lists
abbrev pub lists_of : List (Vec ℕ Global) → List (List ℕ)
lists_of lists = map (λ list. list.items) lists

abbrev pub partition_of : Inside → Partition
partition_of p = record { places = p.places.items; events = lists_of p.lists.items; crossings = p.crossings.items }

-- the count is that of the domains, and each component's domain is there
pub record IsWholePartition (p : Inside) : Type 0 where
  pub count : length (lists_of p.lists.items) ≡ p.count
  pub there : HasDomains (partition_of p)

-- the list of a domain
abbrev pub list_at : List (List ℕ) → (domain : ℕ) → List ℕ
list_at lists domain = slice_index_or lists domain []

-- with a number behind those of a domain, and with an event behind those of its own
abbrev pub with_event_number : List (List ℕ) → (domain number : ℕ) → List (List ℕ)
with_event_number lists domain number = slice_set lists domain (list_at lists domain ++ number ∷ [])

abbrev pub with_event_of_domain : List ℕ → List (List ℕ) → Event → List (List ℕ)
with_event_of_domain places lists e = with_event_number lists (domain_of_event places e) e.number
