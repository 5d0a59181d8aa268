-- A barrier of domains that keep to the weave, by their states alone.
use Rattle.std.proofs.Common.{◌≡◌, ◌<◌, ◌≤◌, ℕ, eqb, List, [], length, take, Some, slice_get, ◌∙◌, ap, arith}
use Rattle.component.specs.declared.kind.Kind.{Kind}
use Rattle.event_graph.specs.declared.event.Event.{Event}
use Rattle.event_graph.specs.OneListWeave.{FiredEvent, weave, woven}
use Rattle.event_graph.specs.TimingSolution.{IsInOrder, IsSolution}
use Rattle.domain_map.specs.Domains.{Partition, IsPartition, domain_of_event}
use Rattle.weave_core.specs.AtBarrier.{AreSoundDomains, IsFirstLeft, KnowFiredParents, MayGoOn, least_start_of, own_at}
use Rattle.weave_core.specs.DomainMachine.{DomainState, MachineState, with_floor}
use Rattle.weave_core.specs.Interleavings.{of_domain}
use Rattle.weave_core.specs.Soundness.{IsSoundFloor, start_in}
use Rattle.weave_core.proofs.AfterBarrier.{clear, next_is, start_at}
use Rattle.weave_core.proofs.Barriers.{floor_holds}
use Rattle.weave_core.proofs.Firing.{IsOrder}
use Rattle.weave_core.proofs.SoundDomains.{front_cut}
use Rattle.weave_core.proofs.Solutions.{floor_alike, order_alike, start_alike, words_alike}
use Rattle.weave_core.proofs.Steps.{AreFronts}

module _ {C : Type 0} (stepped : C → Kind → ℕ → C × ℕ) (events : List Event) (p : Partition) (comps : List C)
    (o : IsOrder events (weave stepped events comps).fired) (div : IsPartition events p)
    (here : (k : ℕ) (x : FiredEvent) → slice_get (weave stepped events comps).fired k ≡ Some x → domain_of_event p.places x.event < length p.events)
    (in_order : IsInOrder (weave stepped events comps).fired)
    (timed : List FiredEvent) (solution : IsSolution stepped events comps timed) (is : timed ≡ woven stepped events comps)
    (owns : List DomainState) (h : AreSoundDomains stepped events p comps timed solution owns) (told : KnowFiredParents p owns) where
  abbrev all : List FiredEvent
  all = (weave stepped events comps).fired

  abbrev state : MachineState C
  state = record { domains = owns; words = []; comps = comps }

  order : solution.sorted ≡ all
  order = order_alike stepped events comps o timed is solution.sorted solution.in_order solution.same in_order

  cut_of : (d : ℕ) → (cut : ℕ) × ((own_at owns d).fired ≡ of_domain p.places d (take cut all))
  cut_of d =
      let cut : (cut : ℕ) × (take (length (own_at owns d).fired) (of_domain p.places d all) ≡ of_domain p.places d (take cut all)) =
      front_cut (λ (y : FiredEvent). eqb (domain_of_event p.places y.event) d) all (length (own_at owns d).fired)
      in
      (cut.0, h.fired d ∙ (ap (λ (xs : List FiredEvent). take (length (own_at owns d).fired) (of_domain p.places d xs)) order ∙ cut.1))

  abbrev at_fronts : AreFronts stepped events p comps all o div state
  at_fronts = record {
    count = h.count;
    cut = λ d. (cut_of d).0;
    domains = λ d. record {
      fired = (cut_of d).1;
      known = words_alike stepped events comps o timed is p (own_at owns d).known (h.known d);
      floor = floor_alike stepped events comps o timed is p d (own_at owns d) (h.floors d);
    };
  }

  pub floors_hold : (start : ℕ) → least_start_of events p owns ≡ Some start → (d : ℕ) → IsSoundFloor timed p d (with_floor start (own_at owns d))
  floors_hold start least d = record {
    each = λ number x there target unknown.
        let l : start ≤ start_in all x.parent = floor_holds stepped events p comps all o div here state at_fronts told.each start least d number x there target unknown in
        omega (arith, l, start_alike stepped events comps o timed is x.parent);
  }

  pub may_go_on : (index : ℕ) (x : FiredEvent) → IsFirstLeft stepped events p comps owns index x → MayGoOn events p owns x
  may_go_on index x f =
      let s = start_at stepped events p comps all o div here state at_fronts told.each index x f.there f.unfired f.before in
      record {
        start = s.0;
        least_is = s.1;
        next = next_is stepped events p comps all o div here state at_fronts told.each index x f.there f.unfired f.before;
        clear = clear stepped events p comps all o div here state at_fronts told.each index x f.there f.unfired f.before;
      }
