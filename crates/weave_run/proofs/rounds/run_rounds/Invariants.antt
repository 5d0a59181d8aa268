-- Each round fired the next event of the one-list weave, if that wasn't fired before. Each domain has its seat.
use Rattle.std.specs.Prelude.{IfSome}
use Rattle.weave_run.specs.Teams.{IsTeam}
use Rattle.weave_run.proofs.Rounding.{HasRounds}
use Rattle.weave_run.proofs.rounds.run_rounds.Given as goal

abbrev pub invariant-loop-round : goal.invariant-loop-round
invariant-loop-round g l = record {
  so_far : HasRounds g.C.Component.stepped l.fn.plan l.domains.items l.floor l.round;
  team : IfSome l.team (IsTeam g.C.Component.stepped l.fn.plan l.domains.items);
}
