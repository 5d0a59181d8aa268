-- A bound that a raise may have is at most the finish of the parent in every solution of the timing rules.
use Rattle.std.proofs.Common.{◌≡◌, ◌≤◌, ℕ, eqb, List, length, take, ◌∙◌, ap, arith}
use Rattle.component.specs.declared.kind.Kind.{Kind}
use Rattle.event_graph.specs.declared.event.Event.{Event}
use Rattle.event_graph.specs.OneListWeave.{FiredEvent, finish_in, weave, woven}
use Rattle.event_graph.specs.TimingSolution.{IsInOrder, IsSolution}
use Rattle.domain_map.specs.declared.crossing.Crossing.{Crossing}
use Rattle.domain_map.specs.Domains.{Partition, IsPartition, domain_of_event}
use Rattle.weave_core.specs.DomainMachine.{DomainState}
use Rattle.weave_core.specs.Interleavings.{of_domain}
use Rattle.weave_core.specs.Raising.{MayRaise}
use Rattle.weave_core.specs.SoundDomain.{IsSoundDomain}
use Rattle.weave_core.proofs.Firing.{IsOrder}
use Rattle.weave_core.proofs.Raised.{below_finish}
use Rattle.weave_core.proofs.Solutions.{bounds_alike, finish_alike, order_alike, words_alike}
use Rattle.weave_core.proofs.SoundDomains.{front_cut}

pub below_finish_of : {C : Type 0} (stepped : C → Kind → ℕ → C × ℕ) (events : List Event) (p : Partition) (comps : List C)
    (o : IsOrder events (weave stepped events comps).fired) (div : IsPartition events p) (in_order : IsInOrder (weave stepped events comps).fired)
    (timed : List FiredEvent) (solution : IsSolution stepped events comps timed) (is : timed ≡ woven stepped events comps) (domain : ℕ) (own : DomainState)
    (x : Crossing) (bound : ℕ) → IsSoundDomain stepped events p comps timed solution domain own → MayRaise events p domain own x bound → bound ≤ finish_in timed x.parent
below_finish_of stepped events p comps o div in_order timed solution is domain own x bound s may =
    let all : List FiredEvent = (weave stepped events comps).fired in
    let order : solution.sorted ≡ all = order_alike stepped events comps o timed is solution.sorted solution.in_order solution.same in_order in
    let cut : (cut : ℕ) × (take (length own.fired) (of_domain p.places domain all) ≡ of_domain p.places domain (take cut all)) =
    front_cut (λ (y : FiredEvent). eqb (domain_of_event p.places y.event) domain) all (length own.fired)
    in
    let fired : own.fired ≡ of_domain p.places domain (take cut.0 all) =
    s.fired ∙ (ap (λ (xs : List FiredEvent). take (length own.fired) (of_domain p.places domain xs)) order ∙ cut.1)
    in
    let l : bound ≤ finish_in all x.parent =
    below_finish events p all o div domain cut.0 own fired (words_alike stepped events comps o timed is p own.known s.known) (bounds_alike stepped events comps o timed is p domain own s.bounds) x bound may
    in
    omega (arith, l, finish_alike stepped events comps o timed is x.parent)
