-- what was untold of the cores before this one was told
use Rattle.std.proofs.Common.{◌≡◌, ◌++◌, drop, map}
use Rattle.trace.specs.EachCore.{untold_from}
use Rattle.trace.proofs.each_core.tell_untold.Given as goal

abbrev pub invariant-loop-number : goal.invariant-loop-number
invariant-loop-number g l = record {
  told : g.T.Tracer.steps l.tracer ++ untold_from l.number (drop l.number (map (λ legs. legs.items) l.untold)) ≡ g.T.Tracer.steps l.initial.tracer ++ untold_from 0 (map (λ legs. legs.items) l.untold);
  fixed : g.T.Tracer.fixed l.tracer ≡ g.T.Tracer.fixed l.initial.tracer;
}
