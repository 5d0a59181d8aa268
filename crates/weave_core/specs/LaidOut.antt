-- What a domain keeps of a graph, before its first event fires.
use Rattle.std.specs.Prelude.{◌≡◌, ◌≤◌, ◌<◌, ◌^◌, ℕ, List, [], length, map}
use Rattle.std.specs.Vec.{vec_capacity}
use Rattle.zs_num.specs.declared.time.Word.TheVariants.{Bound}
use Rattle.event_graph.specs.declared.event.Event.{Event}
use Rattle.event_graph.specs.Numbered.{IsNumbered}
use Rattle.domain_map.specs.Domains.{Partition}
use Rattle.weave_core.specs.declared.prepare.Layout.{Layout as Kept}
use Rattle.weave_core.specs.Beginning.{AreSmall, AreOwnPlaces}
use Rattle.weave_core.specs.DomainMachine.{DomainState}
use Rattle.weave_core.specs.Exits.{AreExits}
use Rattle.weave_core.specs.Layout.{AreHere, AreLinked, AreStubs, Stands, fired_in, known_words}

-- A graph and a partition that a domain has numbers for: no time passes 2^62, and their counts pass no type.
pub record FitsDomain (events : List Event) (p : Partition) : Type 0 where
  pub small : AreSmall events
  pub few : length events < 2 ^ 30
  pub few_crossings : length p.crossings < 2 ^ 31
  pub few_places : length p.places < 2 ^ 16

-- nothing fired, and nothing told
abbrev pub at_rest_with : Partition → (floor : ℕ) → DomainState
at_rest_with p floor = record { fired = []; known = map (λ x. Bound 0) p.crossings; floor = floor }

pub record IsLaidOut (events : List Event) (p : Partition) (domain : ℕ) (l : Kept) : Type 0 where
  pub numbered : IsNumbered events
  pub here : AreHere events p domain l.here.items
  pub linked : AreLinked l.here.items l.heads.items l.links.items
  pub stubs : AreStubs events p domain l.here.items l.incoming.stubs
  pub few : length l.incoming.stubs < 2 ^ 31
  pub exits : AreExits l.here.items p.crossings domain (length p.crossings) l.exits.numbers.items l.exits.parents.items
  pub floor : l.incoming.floor ≡ 0
  pub known : known_words p.crossings l.incoming.stubs ≡ map (λ x. Bound 0) p.crossings
  pub stands : Stands events p domain (at_rest_with p 0) l.here.items l.incoming.stubs l.waiting
  pub counted : fired_in l.waiting.waits ≡ 0
  pub fired : l.fired.items ≡ []
  pub room : length l.here.items ≤ vec_capacity l.fired
  pub own_places : AreOwnPlaces p.places domain l.own_places.items (length p.places)
