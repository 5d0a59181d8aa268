-- The workers that run domains beside each other.
use Rattle.std.specs.Prelude.{◌≡◌, ◌≤◌, ◌<◌, ℕ, List, length}
use Rattle.std.specs.Arc.{arc_value}
use Rattle.component.specs.declared.kind.Kind.{Kind}
use Rattle.crossing.specs.Seats.{AreSeats, finishes_of, sources_of}
use Rattle.dealing.specs.Workers.{AreFree}
use Rattle.weave_core.specs.DomainCalls.{DomainValue}
use Rattle.weave_run.specs.Seating.{AreSeated}
use Rattle.weave_run.specs.Shares.{AreShares}
use Rattle.weave_run.specs.declared.plan.Plan.{Plan}
use Rattle.weave_run.specs.declared.team.Team.{Team}

-- The workers, of whom there are 64 at most, are free and have room for all domains, and each has a share.
pub record HasWorkers {C W : Type 0} (plan : Plan C) (t : Team C W) : Type 0 where
  pub some : 0 < length t.crews.items
  pub few : length t.crews.items ≤ 64
  pub free : AreFree (length plan.parts.value.events) t.crews.items
  pub counts : length t.counts.items ≡ length plan.parts.value.events
  pub shares : AreShares plan (arc_value t.crossings) (length t.crews.items) t.shares.items

-- before the first round
pub record IsNewTeam {C W : Type 0} (stepped : C → Kind → ℕ → C × ℕ) (plan : Plan C) (t : Team C W) : Type 0 where
  pub has : HasWorkers plan t
  pub seats : AreSeats (arc_value t.crossings) (finishes_of stepped plan.graph.value plan.parts.value plan.comps.value) (sources_of plan.parts.value) (length plan.parts.value.events) t.seats.items

-- between rounds
pub record IsTeam {C W : Type 0} (stepped : C → Kind → ℕ → C × ℕ) (plan : Plan C) (vs : List (DomainValue C)) (t : Team C W) : Type 0 where
  pub has : HasWorkers plan t
  pub seated : AreSeated stepped plan (arc_value t.crossings) vs t.seats.items
