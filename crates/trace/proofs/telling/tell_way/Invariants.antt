-- the legs before this one were told, with their accesses
use Rattle.std.proofs.Common.{◌≡◌, ◌++◌, drop}
use Rattle.rv_core.specs.Told.{told_of}
use Rattle.trace.specs.Ways.{told_steps}
use Rattle.trace.proofs.telling.tell_way.Given as goal

abbrev pub invariant-loop-leg : goal.invariant-loop-leg
invariant-loop-leg g l = record {
  told : g.T.Tracer.steps l.tracer ++ told_steps l.number (told_of (drop l.leg-index l.way)) (drop l.place l.entries) ≡ g.T.Tracer.steps l.initial.tracer ++ told_steps l.number (told_of l.way) l.entries;
  fixed : g.T.Tracer.fixed l.tracer ≡ g.T.Tracer.fixed l.initial.tracer;
}
