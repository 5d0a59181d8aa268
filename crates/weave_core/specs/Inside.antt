-- How a domain is kept.
use Rattle.std.specs.Prelude.{◌≡◌, ◌≤◌, ◌<◌, ◌^◌, Bool, length, map}
use Rattle.std.specs.Vec.{vec_capacity}
use Rattle.component.specs.declared.kind.Kind.{Kind}
use Rattle.event_graph.specs.Numbered.{IsNumbered}
use Rattle.domain_map.specs.Domains.{IsPartition}
use Rattle.weave_core.specs.declared.domain.Domain.TheInside.{Inside}
use Rattle.weave_core.specs.DomainCalls.{DomainValue}
use Rattle.weave_core.specs.DomainMachine.{DomainState}
use Rattle.weave_core.specs.Exits.{AreExits}
use Rattle.weave_core.specs.Layout.{AreHere, AreLinked, AreStubs, HaveComponents, Stands, fired_in, known_words, timed_from}

-- what the domain knows and did
abbrev pub own_of : {C : Type 0} → Inside C → DomainState
own_of d = record {
  fired = map (timed_from d.graph.value) d.fired.items;
  known = known_words d.parts.value.crossings d.incoming.stubs;
  floor = d.incoming.floor;
}

abbrev pub domain_value : {C : Type 0} → Inside C → DomainValue C
domain_value d = record { domain = d.domain; events = d.graph.value; partition = d.parts.value; own = own_of d; comps = d.comps }

pub record IsDomain {C : Type 0} (serves : C → Kind → Bool) (d : Inside C) : Type 0 where
  pub numbered : IsNumbered d.graph.value
  pub partitions : IsPartition d.graph.value d.parts.value
  pub here : AreHere d.graph.value d.parts.value d.domain d.here.items
  pub linked : AreLinked d.here.items d.heads.items d.links.items
  pub stubs : AreStubs d.graph.value d.parts.value d.domain d.here.items d.incoming.stubs
  pub few : length d.incoming.stubs < 2 ^ 31
  pub exits : AreExits d.here.items d.parts.value.crossings d.domain (length d.parts.value.crossings) d.exits.numbers.items d.exits.parents.items
  pub stands : Stands d.graph.value d.parts.value d.domain (own_of d) d.here.items d.incoming.stubs d.waiting
  pub counted : length d.fired.items ≡ fired_in d.waiting.waits
  pub room : length d.here.items ≤ vec_capacity d.fired
  pub served : HaveComponents serves d.parts.value d.domain d.here.items d.own_places.items d.comps
