-- A look-up and a second one that waits for it, on two banks of different domains.
use Rattle.std.specs.Prelude.{◌≡◌, true, false, List, [], ◌∷◌, length, Some, None}
use Rattle.component.specs.declared.bank.Bank.{Bank}
use Rattle.component.specs.declared.kind.Kind.TheVariants.{Lookup}
use Rattle.event_graph.specs.declared.event.Event.{Event}
use Rattle.domain_map.specs.declared.crossing.Crossing.{Crossing}
use Rattle.domain_map.specs.Domains.{Partition}

abbrev pub pair : List Event
pair =
    record { number = 0; core = 0; component = 0; kind = Lookup; min_start = 0; min_finish = 10; critical = false; first = None; second = None }
    ∷ record { number = 1; core = 0; component = 1; kind = Lookup; min_start = 0; min_finish = 10; critical = true; first = Some (record { number = 0; delay = 0 }); second = None }
    ∷ []

-- the crossing between them is the only one, and the banks are idle and take 10 cycles
pub record IsPairOfEvents (events : List Event) (p : Partition) (banks : List Bank) : Type 0 where
  pub events_are : events ≡ pair
  pub domains_are : length p.events ≡ 2
  pub crossing : Crossing
  pub crossings_are : p.crossings ≡ crossing ∷ []
  pub parent_is : crossing.parent ≡ 0
  pub source_is : crossing.source ≡ 0
  pub former : Bank
  pub latter : Bank
  pub banks_are : banks ≡ former ∷ latter ∷ []
  pub idle : former.free ≡ 0
  pub fast : former.lookup ≡ 10
  pub latter_fast : latter.lookup ≡ 10
