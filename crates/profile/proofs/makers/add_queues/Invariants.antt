use Rattle.std.proofs.Common.{◌≡◌, ℕ, ◌-◌, ◌+◌, length}
use Rattle.profile.specs.Makers.{queue_at}
use Rattle.profile.proofs.makers.add_queues.Given as goal

abbrev pub invariant-loop-alloc : goal.invariant-loop-alloc
invariant-loop-alloc l = (c : ℕ) → queue_at l.queues.items c ≡ queue_at l.fn.queues.items c

abbrev pub decreases-loop-alloc : goal.decreases-loop-alloc
decreases-loop-alloc l = l.core + 1 - length l.queues.items
