-- What the parts of a round leave of the domains.
use Rattle.std.specs.Prelude.{◌≡◌, ◌≤◌, ◌<◌, ◌++◌, ◌∷◌, [], ℕ, Bool, true, List, length, map, Option, Some, is_some, slice_get, slice_index}
use Rattle.component.specs.declared.kind.Kind.{Kind}
use Rattle.event_graph.specs.declared.event.Event.{Event}
use Rattle.event_graph.specs.declared.fired.Fired.{Fired}
use Rattle.event_graph.specs.OneListWeave.{FiredEvent, finish_in, is_fired, woven}
use Rattle.domain_map.specs.declared.crossing.Crossing.{Crossing}
use Rattle.domain_map.specs.Domains.{Partition, domain_of_event}
use Rattle.weave_core.specs.AtBarrier.{IsFirstLeft, KnowFiredParents, least_start_of, own_at}
use Rattle.weave_core.specs.DomainCalls.{DomainValue, earliest_of}
use Rattle.weave_core.specs.DomainMachine.{DomainState, SaysAsMuch, is_clear, is_exact, next_in, with_floor, word_at}
use Rattle.weave_core.specs.Keeping.{AreKept, CanWeave, IsKept, owns_of}
use Rattle.weave_run.specs.declared.plan.Plan.{Plan}

-- The plan can be woven, a domain keeps to it, and all domains do.
abbrev pub CanWeavePlan : {C : Type 0} (serves : C → Kind → Bool) (floor : C → Kind → ℕ) (stepped : C → Kind → ℕ → C × ℕ) (greatest : C → Kind → ℕ → ℕ) → Plan C → Type 0
CanWeavePlan serves floor stepped greatest plan = CanWeave serves floor stepped greatest plan.graph.value plan.parts.value plan.comps.value

abbrev pub KeepsToWeave : {C : Type 0} (stepped : C → Kind → ℕ → C × ℕ) → Plan C → DomainValue C → Type 0
KeepsToWeave stepped plan v = IsKept stepped plan.graph.value plan.parts.value plan.comps.value v.domain v

abbrev pub AllKeep : {C : Type 0} (stepped : C → Kind → ℕ → C × ℕ) → Plan C → List (DomainValue C) → Type 0
AllKeep stepped plan vs = AreKept stepped plan.graph.value plan.parts.value plan.comps.value vs

-- A domain that fired more, and whose words say as much as before.
pub record Grows (before after : DomainState) : Type 0 where
  pub rest : List FiredEvent
  pub fired : after.fired ≡ before.fired ++ rest
  pub floor : after.floor ≡ before.floor
  pub words : (number : ℕ) → SaysAsMuch (word_at before.known number) (word_at after.known number)

-- A domain that fired nothing, and whose words say as much as before.
pub record Learns (before after : DomainState) : Type 0 where
  pub fired : after.fired ≡ before.fired
  pub floor : after.floor ≡ before.floor
  pub words : (number : ℕ) → SaysAsMuch (word_at before.known number) (word_at after.known number)

abbrev pub own_in : {C : Type 0} → List (DomainValue C) → (domain : ℕ) → DomainState
own_in vs domain = own_at (owns_of vs) domain

-- each domain
pub record AllGrow {C : Type 0} (before after : List (DomainValue C)) : Type 0 where
  pub each : (domain : ℕ) → Grows (own_in before domain) (own_in after domain)

pub record AllLearn {C : Type 0} (before after : List (DomainValue C)) : Type 0 where
  pub each : (domain : ℕ) → Learns (own_in before domain) (own_in after domain)

-- the finish of the event of a number
abbrev pub IsFinish : {C : Type 0} (stepped : C → Kind → ℕ → C × ℕ) → Plan C → (number finish : ℕ) → Type 0
IsFinish stepped plan number finish = finish ≡ finish_in (woven stepped plan.graph.value plan.comps.value) number

-- the domain's next event fired, at its finish in the weave
pub record HasFiredNext {C : Type 0} (stepped : C → Kind → ℕ → C × ℕ) (plan : Plan C) (old new : DomainValue C) (result : Fired) : Type 0 where
  pub same : new.domain ≡ old.domain
  pub kept : KeepsToWeave stepped plan new
  pub event : Event
  pub start : ℕ
  pub next : next_in plan.graph.value plan.parts.value old.domain old.own ≡ Some (event, start)
  pub fired : new.own.fired ≡ old.own.fired ++ (record { event = event; start = start; finish = result.finish }) ∷ []
  pub known : new.own.known ≡ old.own.known
  pub floor : new.own.floor ≡ old.own.floor
  pub number : result.number ≡ event.number
  pub finish : IsFinish stepped plan result.number result.finish

-- where its next event could fire, it has
abbrev pub HasGoneOn : (events : List Event) (p : Partition) (domain : ℕ) (before after : DomainState) → Type 0
HasGoneOn events p domain before after =
    (e : Event) (start : ℕ) → next_in events p domain before ≡ Some (e, start) → is_clear events p domain before start ≡ true → is_fired after.fired e.number ≡ true

-- a domain that ran
pub record HasRun {C : Type 0} (stepped : C → Kind → ℕ → C × ℕ) (plan : Plan C) (old new : DomainValue C) : Type 0 where
  pub same : new.domain ≡ old.domain
  pub kept : KeepsToWeave stepped plan new
  pub grows : Grows old.own new.own
  pub goes_on : HasGoneOn plan.graph.value plan.parts.value old.domain old.own new.own

-- each of these domains ran, to where it is among the others
pub record HaveRun {C : Type 0} (stepped : C → Kind → ℕ → C × ℕ) (plan : Plan C) (old new : List (DomainValue C)) : Type 0 where
  pub count : length new ≡ length old
  pub each : (place : ℕ) (v w : DomainValue C) → slice_get old place ≡ Some v → slice_get new place ≡ Some w → HasRun stepped plan v w

-- the domain that the crossing leads into knows the finish of its parent
abbrev pub IsResolved : {C : Type 0} → List (DomainValue C) → (number : ℕ) → Crossing → Type 0
IsResolved vs number x = is_exact (word_at (own_in vs x.target).known number) ≡ true

-- the finish of the crossing's parent is no earlier than this bound
abbrev pub IsBoundOf : {C : Type 0} (stepped : C → Kind → ℕ → C × ℕ) → Plan C → Crossing → (bound : ℕ) → Type 0
IsBoundOf stepped plan x bound = bound ≤ finish_in (woven stepped plan.graph.value plan.comps.value) x.parent

-- all domains after some were told more
pub record HaveLearned {C : Type 0} (stepped : C → Kind → ℕ → C × ℕ) (plan : Plan C) (old new : List (DomainValue C)) : Type 0 where
  pub kept : AllKeep stepped plan new
  pub learn : AllLearn old new

-- all domains after one crossing was told, and after all crossings out of an event were
pub record HasToldCrossing {C : Type 0} (stepped : C → Kind → ℕ → C × ℕ) (plan : Plan C) (old new : List (DomainValue C)) (number : ℕ) : Type 0 where
  pub kept : AllKeep stepped plan new
  pub learn : AllLearn old new
  pub told : (x : Crossing) → slice_get plan.parts.value.crossings number ≡ Some x → IsResolved new number x

pub record HasToldAll {C : Type 0} (stepped : C → Kind → ℕ → C × ℕ) (plan : Plan C) (old new : List (DomainValue C)) (parent : ℕ) : Type 0 where
  pub kept : AllKeep stepped plan new
  pub learn : AllLearn old new
  pub told : (number : ℕ) (x : Crossing) → slice_get plan.parts.value.crossings number ≡ Some x → x.parent ≡ parent → IsResolved new number x

-- After the crossings out of those events that a domain fired from a place on were told, and after those of each domain
-- below a number were.
pub record HasToldRest {C : Type 0} (stepped : C → Kind → ℕ → C × ℕ) (plan : Plan C) (old new : List (DomainValue C)) (source place : ℕ) : Type 0 where
  pub kept : AllKeep stepped plan new
  pub learn : AllLearn old new
  pub told : (at : ℕ) (y : FiredEvent) → place ≤ at → slice_get (own_in old source).fired at ≡ Some y
      → (number : ℕ) (x : Crossing) → slice_get plan.parts.value.crossings number ≡ Some x → x.parent ≡ y.event.number → IsResolved new number x

pub record HasToldRests {C : Type 0} (stepped : C → Kind → ℕ → C × ℕ) (plan : Plan C) (old new : List (DomainValue C)) (counts : List ℕ) (sources : ℕ) : Type 0 where
  pub kept : AllKeep stepped plan new
  pub learn : AllLearn old new
  pub told : (source at : ℕ) (y : FiredEvent) → source < sources → slice_index counts source ≤ at → slice_get (own_in old source).fired at ≡ Some y
      → (number : ℕ) (x : Crossing) → slice_get plan.parts.value.crossings number ≡ Some x → x.parent ≡ y.event.number → IsResolved new number x

-- how many events each domain below a number has fired
pub record AreNoted {C : Type 0} (vs : List (DomainValue C)) (counts : List ℕ) (domains : ℕ) : Type 0 where
  pub each : (domain : ℕ) (v : DomainValue C) → domain < domains → slice_get vs domain ≡ Some v → slice_index counts domain ≡ length v.own.fired

-- all domains keep to the weave, and each knows the finish of every parent that another one fired
pub record AreMet {C : Type 0} (stepped : C → Kind → ℕ → C × ℕ) (plan : Plan C) (vs : List (DomainValue C)) : Type 0 where
  pub kept : AllKeep stepped plan vs
  pub told : KnowFiredParents plan.parts.value (owns_of vs)

pub record HasMet {C : Type 0} (stepped : C → Kind → ℕ → C × ℕ) (plan : Plan C) (old new : List (DomainValue C)) : Type 0 where
  pub met : AreMet stepped plan new
  pub grow : AllGrow old new

-- after a domain ran and told the others
pub record HasRunHere {C : Type 0} (stepped : C → Kind → ℕ → C × ℕ) (plan : Plan C) (old new : List (DomainValue C)) (domain : ℕ) : Type 0 where
  pub has_met : HasMet stepped plan old new
  pub goes_on : HasGoneOn plan.graph.value plan.parts.value domain (own_in old domain) (own_in new domain)

-- of the events in the weave's order the first that is unfired has fired, if the unresolved crossings allowed it
abbrev pub HasAdvanced : {C : Type 0} (stepped : C → Kind → ℕ → C × ℕ) → Plan C → (old new : List (DomainValue C)) → Type 0
HasAdvanced stepped plan old new =
    (index : ℕ) (x : FiredEvent) → IsFirstLeft stepped plan.graph.value plan.parts.value plan.comps.value (owns_of old) index x
    → is_clear plan.graph.value plan.parts.value (domain_of_event plan.parts.value.places x.event) (own_in old (domain_of_event plan.parts.value.places x.event)) x.start ≡ true
    → is_fired (own_in new (domain_of_event plan.parts.value.places x.event)).fired x.event.number ≡ true

-- a round
pub record HasRunRound {C : Type 0} (stepped : C → Kind → ℕ → C × ℕ) (plan : Plan C) (old new : List (DomainValue C)) : Type 0 where
  pub has_met : HasMet stepped plan old new
  pub advanced : HasAdvanced stepped plan old new

-- The floors.

abbrev pub with_floors : {C : Type 0} → (floor : ℕ) → List (DomainValue C) → List (DomainValue C)
with_floors {C} floor vs = map (λ (v : DomainValue C). record v { own = with_floor floor v.own }) vs

-- each domain has this floor
pub record HaveFloor {C : Type 0} (vs : List (DomainValue C)) (floor : ℕ) : Type 0 where
  pub each : (domain : ℕ) (v : DomainValue C) → slice_get vs domain ≡ Some v → v.own.floor ≡ floor

-- an event of the domain is ready
abbrev pub has_event : {C : Type 0} → DomainValue C → Bool
has_event v = is_some (earliest_of v.events v.partition v.domain v.own)

-- the least start of a ready event
abbrev pub IsLeastStart : {C : Type 0} → Plan C → List (DomainValue C) → Option ℕ → Type 0
IsLeastStart plan vs front = front ≡ least_start_of plan.graph.value plan.parts.value (owns_of vs)
