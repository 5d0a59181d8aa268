-- what was tried in vain has left the seat's accesses and notes as they were
use Rattle.std.proofs.Common.{◌≡◌}
use Rattle.shard_table.specs.Access.{IsSameSeat}
use Rattle.shard_table.proofs.table.ShardTable.access.Given as goal

abbrev pub invariant-loop : goal.invariant-loop
invariant-loop g l = record {
  same : IsSameSeat l.fn.seat l.seat;
  entries : l.seat.entries ≡ l.fn.seat.entries;
  notes : l.seat.knows.notes ≡ l.fn.seat.knows.notes;
}
