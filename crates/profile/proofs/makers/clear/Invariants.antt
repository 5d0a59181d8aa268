use Rattle.std.proofs.Common.{◌≡◌, ◌<◌, ℕ, [], length}
use Rattle.profile.specs.Makers.{queue_at}
use Rattle.profile.proofs.makers.clear.Given as goal

abbrev pub invariant-loop-core : goal.invariant-loop-core
invariant-loop-core l = record {
  done : (c : ℕ) → c < l.core → queue_at l.queues.items c ≡ [];
  count : length l.queues.items ≡ length l.fn.queues.items;
}
