use Rattle.std.proofs.Common.{◌≡◌, ℕ, ◌-◌, length}
use Rattle.last_jumps.specs.Kept.{kept_at}
use Rattle.last_jumps.proofs.last_jumps.add_cores.Given as goal

abbrev pub invariant-loop-alloc : goal.invariant-loop-alloc
invariant-loop-alloc l = (c : ℕ) → kept_at l.cores.items c ≡ kept_at l.fn.cores.items c

abbrev pub decreases-loop-alloc : goal.decreases-loop-alloc
decreases-loop-alloc l = l.count - length l.cores.items
