-- What was executed leads here, in the line, and what is left with the cost of what is paid, up to the end of the block or of
-- the line, is the rest of the budget.
use Rattle.std.proofs.Common.{Some, ◌+◌, ◌-◌, ◌*◌, ◌<◌, ◌≤◌, min, length}
use Rattle.zs_num.specs.Request.{line_at}
use Rattle.rv_core.specs.Executions.{LeadsTo}
use Rattle.rv_blocks.specs.Slots.{left_at}
use Rattle.rv_blocks.proofs.line.by_line.Given as goal

abbrev pub invariant-next : goal.invariant-next
invariant-next g l = record {
  within : l.ip < length l.slots;
  begins : l.fn.place ≤ l.ip;
  inside : l.ip < l.end;
  paid : l.left + min (left_at l.slots l.ip) (l.end - l.ip) ≤ l.budget;
  ran : LeadsTo (Some (line_at (l.first + 4 * l.fn.place))) (l.budget - (l.left + min (left_at l.slots l.ip) (l.end - l.ip))) l._image l.fn.x (l.first + 4 * l.fn.place) l.x (l.first + 4 * l.ip);
}

abbrev pub decreases-next : goal.decreases-next
decreases-next g l = l.end - l.ip
