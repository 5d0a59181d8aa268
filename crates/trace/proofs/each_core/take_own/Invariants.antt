-- turns were taken and told, as many as the port has entries more, and what the core executed since is untold
use Rattle.std.proofs.Common.{◌≡◌, ◌+◌, ◌-◌, ◌≤◌, All, false, [], length}
use Rattle.bound_core.specs.Ahead.{going}
use Rattle.bound_core.specs.IntervalBounds.{most_accesses}
use Rattle.bound_core.specs.Turn.{IsOver}
use Rattle.bound_records.specs.Turns.{time_by_net}
use Rattle.trace.specs.EachCore.{TakesOwn, TellsOwn}
use Rattle.trace.specs.Ways.{FitsLeg}
use Rattle.trace.proofs.each_core.take_own.Given as goal

abbrev pub invariant-loop-goes_on : goal.invariant-loop-goes_on
invariant-loop-goes_on g l = record {
  taken : TakesOwn (time_by_net l.net) l.program l.end l.number (length l.port.entries - length l.initial.port.entries) l.initial.port l.port l.initial.core l.core;
  told : TellsOwn (time_by_net l.net) l.program l.end l.number (length l.port.entries - length l.initial.port.entries) l.initial.port l.port l.initial.core.timed l.core.timed [] l.untold.items (g.T.Tracer.steps l.initial.tracer) (g.T.Tracer.steps l.tracer);
  grows : length l.initial.port.entries ≤ length l.port.entries;
  over : l.goes_on ≡ false → IsOver l.end l.core.timed;
  fits : All FitsLeg l.untold.items;
  number_is : l.core.number ≡ l.initial.core.number;
  fixed : g.T.Tracer.fixed l.tracer ≡ g.T.Tracer.fixed l.initial.tracer;
}

abbrev pub decreases-loop-goes_on : goal.decreases-loop-goes_on
decreases-loop-goes_on g l = most_accesses l.end l.core.timed + going l.goes_on
