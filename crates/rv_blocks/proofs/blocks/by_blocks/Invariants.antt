-- what was executed leads here, and what is left with the cost of what is paid is the rest of the budget
use Rattle.std.proofs.Common.{None, ◌+◌, ◌-◌, ◌*◌, ◌<◌, ◌≤◌, ◌^◌, length}
use Rattle.rv_core.specs.Executions.{LeadsTo}
use Rattle.rv_blocks.specs.Slots.{left_at}
use Rattle.rv_blocks.proofs.blocks.by_blocks.Given as goal

abbrev pub invariant-next : goal.invariant-next
invariant-next g l = record {
  within : l.ip < length l.slots;
  paid : l.left + left_at l.slots l.ip ≤ l.budget;
  ran : LeadsTo None (l.budget - (l.left + left_at l.slots l.ip)) l._image l.fn.x (l.first + 4 * l.fn.place) l.x (l.first + 4 * l.ip);
}

abbrev pub decreases-next : goal.decreases-next
decreases-next g l = l.left * 2 ^ 48 + (2 ^ 48 - l.ip)
