-- those that ran are behind those that are left
use Rattle.std.proofs.Common.{◌-◌, ◌≤◌, length}
use Rattle.bound_phase.proofs.Rows.{RanSoFar}
use Rattle.bound_phase.proofs.crew.work.Given as goal

abbrev pub invariant-loop : goal.invariant-loop
invariant-loop g l = record {
  so_far : RanSoFar (g.X.Expand.time l.fn.expansion) (g.P.Program.image l.fn.program) l.fn.end l.fn.table l.fn.crew.queue.items (length l.fn.crew.queue.items - l.counter) l.crew.queue.items;
  within : l.counter ≤ length l.fn.crew.queue.items;
}
