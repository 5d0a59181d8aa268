-- Each round fired the next event of the one-list weave, if that wasn't fired before. Each domain has its seat.
use Rattle.std.specs.Prelude.{◌≡◌, IfSome}
use Rattle.component.specs.ComponentStep.{comp_step}
use Rattle.weave_run.specs.Teams.{IsTeam}
use Rattle.weave_run.proofs.Rounding.{HasRounds}
use Rattle.weave_run.proofs.by_hands.run_rounds_by.Given as goal

abbrev pub invariant-loop-round : goal.invariant-loop-round
invariant-loop-round g l = record {
  so_far : HasRounds comp_step l.fn.plan l.domains.items l.floor l.round;
  hands : g.H.Hands.kept l.hands ≡ g.H.Hands.kept l.fn.hands;
  team : IfSome l.team (IsTeam comp_step l.fn.plan l.domains.items);
}
