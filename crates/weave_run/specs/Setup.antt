-- What a weave has before the first event fires.
use Rattle.std.specs.Prelude.{◌≡◌, ◌≤◌, ℕ, List, [], IfSome, length, Some, slice_get}
use Rattle.std.specs.Arc.{arc_value}
use Rattle.std.specs.Vec.{vec_capacity}
use Rattle.component.specs.declared.kind.Kind.{Kind}
use Rattle.event_graph.specs.declared.event.Event.{Event}
use Rattle.domain_map.specs.Domains.{Partition}
use Rattle.weave_core.specs.DomainCalls.{DomainValue, at_first, comps_in}
use Rattle.weave_run.specs.Dealing.{AreEmptyRooms}
use Rattle.weave_run.specs.Outgoing.{AreOutgoing}
use Rattle.weave_core.specs.Keeping.{HaveAllFired, owns_of}
use Rattle.weave_run.specs.Rounds.{AllKeep}
use Rattle.weave_run.specs.Teams.{IsNewTeam, IsTeam}
use Rattle.weave_run.specs.declared.plan.Plan.{Plan}
use Rattle.weave_run.specs.declared.setup.Prepared.{Prepared}
use Rattle.weave_run.specs.declared.setup.Room.{Room}

-- the domain of a number, before its first event
abbrev pub begun : {C : Type 0} → List Event → Partition → List C → (domain : ℕ) → DomainValue C
begun events p comps domain = record { domain = domain; events = events; partition = p; own = at_first p; comps = comps_in p.places domain comps }

-- the first so many domains
pub record AreBegun {C : Type 0} (events : List Event) (p : Partition) (comps : List C) (count : ℕ) (vs : List (DomainValue C)) : Type 0 where
  pub count_is : length vs ≡ count
  pub each : (domain : ℕ) (v : DomainValue C) → slice_get vs domain ≡ Some v → v ≡ begun events p comps domain

pub record HasRoom {C W : Type 0} (stepped : C → Kind → ℕ → C × ℕ) (plan : Plan C) (r : Room C W) : Type 0 where
  pub rooms : AreEmptyRooms (length plan.parts.value.events) (length plan.parts.value.places) r.rooms.items
  pub domains : (r.domains.items ≡ []) × (length plan.parts.value.events ≤ vec_capacity r.domains)
  pub outgoing : AreOutgoing plan.parts.value.crossings (length plan.graph.value) (arc_value r.outgoing)
  pub times : length r.times.items ≡ length plan.graph.value
  pub lists : (r.lists.items ≡ []) × (length plan.parts.value.events ≤ vec_capacity r.lists)
  pub team : IfSome r.team (IsNewTeam stepped plan)

pub record IsPrepared {C W : Type 0} (stepped : C → Kind → ℕ → C × ℕ) (plan : Plan C) (f : Prepared C W) : Type 0 where
  pub domains : AreBegun plan.graph.value plan.parts.value plan.comps.value (length plan.parts.value.events) f.domains.items
  pub outgoing : AreOutgoing plan.parts.value.crossings (length plan.graph.value) (arc_value f.outgoing)
  pub times : length f.times.items ≡ length plan.graph.value
  pub list : (f.list.items ≡ []) × (length plan.parts.value.places ≤ vec_capacity f.list)
  pub lists : (f.lists.items ≡ []) × (length plan.parts.value.events ≤ vec_capacity f.lists)
  pub team : IfSome f.team (IsNewTeam stepped plan)

-- when all events have fired
pub record IsLeft {C W : Type 0} (stepped : C → Kind → ℕ → C × ℕ) (plan : Plan C) (f : Prepared C W) : Type 0 where
  pub all : HaveAllFired stepped plan.graph.value plan.parts.value plan.comps.value (owns_of f.domains.items)
  pub kept : AllKeep stepped plan f.domains.items
  pub times : length f.times.items ≡ length plan.graph.value
  pub list : (f.list.items ≡ []) × (length plan.parts.value.places ≤ vec_capacity f.list)
  pub lists : (f.lists.items ≡ []) × (length plan.parts.value.events ≤ vec_capacity f.lists)
  pub team : IfSome f.team (IsTeam stepped plan f.domains.items)
