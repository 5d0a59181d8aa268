-- A bound that a raise may have is at most the finish of the parent.
use Rattle.std.proofs.Common.{◌≡◌, ◌+◌, ◌≤◌, ℕ, true, leb, List, take, Some, slice_get, sym, ◌∙◌, ap, inl, inr, arith}
use Rattle.std.proofs.lemmas.Bool.{false≢true, cases_lt}
use Rattle.std.proofs.lemmas.Bool.Decides.{nat_tests}
use Rattle.event_graph.specs.declared.event.Event.{Event}
use Rattle.event_graph.specs.OneListWeave.{FiredEvent, finish_in, is_fired}
use Rattle.domain_map.specs.declared.crossing.Crossing.{Crossing}
use Rattle.domain_map.specs.Domains.{Partition, IsPartition, domain_of_event}
use Rattle.weave_core.specs.DomainMachine.{DomainState, latency_at, latency_of, limit_of}
use Rattle.weave_core.specs.Interleavings.{of_domain}
use Rattle.weave_core.specs.Raising.{MayRaise}
use Rattle.weave_core.specs.Soundness.{AreSoundBounds, AreSoundWords}
use Rattle.weave_core.proofs.Lists.{finding_option}
use Rattle.weave_core.proofs.Firing.{IsOrder, finish_is, fired_before}
use Rattle.weave_core.proofs.Joined.{latency_there, parent_of_crossing}
use Rattle.weave_core.proofs.PendingEvents.{limit_holds}

test_le : (a b : ℕ) → leb a b ≡ true → a ≤ b
test_le a b h = grind (arith, nat_tests)

-- in the order in which the weave fires
pub below_finish : (events : List Event) (p : Partition) (all : List FiredEvent) (o : IsOrder events all) (div : IsPartition events p)
    (domain cut : ℕ) (own : DomainState) (fired : own.fired ≡ of_domain p.places domain (take cut all)) (known : AreSoundWords all p own.known)
    (bounds : AreSoundBounds events all p domain own) (x : Crossing) (bound : ℕ) → MayRaise events p domain own x bound → bound ≤ finish_in all x.parent
below_finish events p all o div domain cut own fired known bounds x bound may =
    let l : (limit : ℕ) × ((limit_of events p domain own ≡ Some limit) × (leb bound (latency_at events x.parent + limit) ≡ true)) =
    finding_option (limit_of events p domain own) (λ limit. leb bound (latency_at events x.parent + limit)) may.allowed
    in
    let q : (k : ℕ) × ((w : FiredEvent) × ((slice_get all k ≡ Some w) × ((w.event.number ≡ x.parent) × (x.source ≡ domain_of_event p.places w.event)))) =
    parent_of_crossing events p all o div may.number x may.there
    in
    let d : domain_of_event p.places q.1.0.event ≡ domain = sym q.1.1.1.1 ∙ may.source in
    let behind : cut ≤ q.0 =
    elim (cases_lt q.0 cut) [
      | inr b ↦ b
      | inl less ↦
          let f : is_fired (of_domain p.places domain (take cut all)) q.1.0.event.number ≡ true = fired_before events all o p.places domain cut q.0 q.1.0 less q.1.1.0 d in
          absurd
          (false≢true
          (sym may.unfired
          ∙ (ap (λ (xs : List FiredEvent). is_fired xs x.parent) fired ∙ (ap (is_fired (of_domain p.places domain (take cut all))) (sym q.1.1.1.0) ∙ f))))
    ]
    in
    let limit : l.0 ≤ q.1.0.start = limit_holds events p all o div domain cut own fired known bounds l.0 l.1.0 q.0 q.1.0 q.1.1.0 d behind in
    let latency : latency_at events x.parent ≡ latency_of q.1.0.event =
    ap (latency_at events) (sym q.1.1.1.0) ∙ latency_there events q.1.0.event.number q.1.0.event (o.event q.0 q.1.0 q.1.1.0)
    in
    let time : q.1.0.start + latency_of q.1.0.event ≤ q.1.0.finish = o.time q.0 q.1.0 q.1.1.0 in
    let finish : finish_in all x.parent ≡ q.1.0.finish = ap (finish_in all) (sym q.1.1.1.0) ∙ finish_is events all o q.0 q.1.0 q.1.1.0 in
    let upto : bound ≤ latency_at events x.parent + l.0 = test_le bound (latency_at events x.parent + l.0) l.1.1 in
    omega (arith, upto, limit, latency, time, finish)
