-- the core went on within its turn, and was told
use Rattle.std.proofs.Common.{◌≡◌}
use Rattle.bound_records.specs.Turns.{time_by_net}
use Rattle.trace.proofs.GoingAhead.{HasSettled}
use Rattle.trace.proofs.turns.go_ahead.Given as goal

abbrev pub invariant-loop : goal.invariant-loop
invariant-loop g l = record {
  so_far : HasSettled (time_by_net l.net) l.program l.end l.number l.initial.port l.port l.initial.core l.core (g.T.Tracer.steps l.initial.tracer) (g.T.Tracer.steps l.tracer);
  fixed : g.T.Tracer.fixed l.tracer ≡ g.T.Tracer.fixed l.initial.tracer;
}
