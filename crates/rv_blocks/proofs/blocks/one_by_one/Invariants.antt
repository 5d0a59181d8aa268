-- what was executed leads here, and what is left is the rest of what may be
use Rattle.std.proofs.Common.{◌+◌, ◌-◌, ◌*◌, ◌<◌, ◌≤◌, length}
use Rattle.rv_core.specs.Executions.{LeadsTo}
use Rattle.rv_blocks.proofs.blocks.one_by_one.Given as goal

abbrev pub invariant-next : goal.invariant-next
invariant-next l = record {
  within : l.ip < length l.slots;
  few : l.left ≤ l.most;
  ran : LeadsTo l.line (l.most - l.left) l._image l.fn.x (l.first + 4 * l.fn.place) l.x (l.first + 4 * l.ip);
}

abbrev pub decreases-next : goal.decreases-next
decreases-next l = l.left
