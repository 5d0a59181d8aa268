-- Those that ran are behind those that are left.
use Rattle.std.proofs.Common.{◌≡◌, ◌-◌, ◌≤◌, length}
use Rattle.std.specs.VecDeque.{deque_capacity}
use Rattle.weave_run.proofs.Working.{ServedSoFar}
use Rattle.weave_run.proofs.crew.work.Given as goal

abbrev pub invariant-loop : goal.invariant-loop
invariant-loop g l = record {
  so_far : ServedSoFar g.C.Component.stepped l.fn.plan l.fn.crossings l.fn.crew.queue.items (length l.fn.crew.queue.items - l.counter) l.crew.queue.items;
  within : l.counter ≤ length l.fn.crew.queue.items;
  room : deque_capacity l.crew.queue ≡ deque_capacity l.fn.crew.queue;
}
