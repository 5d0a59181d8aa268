-- the instructions before this one were told
use Rattle.std.proofs.Common.{◌≡◌, ◌++◌}
use Rattle.trace.specs.Trace.{stretch_steps}
use Rattle.trace.proofs.telling.tell_instructions.Given as goal

abbrev pub invariant-loop-k : goal.invariant-loop-k
invariant-loop-k g l = record {
  told : g.T.Tracer.steps l.tracer ≡ g.T.Tracer.steps l.initial.tracer ++ stretch_steps l.number l.leg.pc l.k;
  fixed : g.T.Tracer.fixed l.tracer ≡ g.T.Tracer.fixed l.initial.tracer;
}
