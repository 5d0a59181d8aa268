use Rattle.std.proofs.Common.{◌≡◌, ◌≤◌, [], All, length, vec_capacity}
use Rattle.std.specs.VecDeque.{deque_capacity}
use Rattle.dealing.proofs.worker.workers.Given as goal

abbrev pub invariant-loop : goal.invariant-loop
invariant-loop g l = record {
  count : length l.workers.items ≡ l.counter;
  none : All (λ w. w.queue.items ≡ []) l.workers.items;
  rooms : All (λ w. l.fn.room ≤ deque_capacity w.queue) l.workers.items;
  room : l.fn.count ≤ vec_capacity l.workers;
  within : l.counter ≤ l.fn.count;
}
