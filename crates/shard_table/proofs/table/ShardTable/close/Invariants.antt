-- the seats so far are one, and the notes and logs are theirs
use Rattle.std.proofs.Common.{◌≡◌, ◌+◌, ◌≤◌, length, map, All, None, vec_capacity}
use Rattle.shard_table.specs.Access.{IsSeatOf}
use Rattle.shard_table.proofs.Joining.{Joined}
use Rattle.shard_table.proofs.table.ShardTable.close.Given as goal

abbrev pub decreases-loop-seats : goal.decreases-loop-seats
decreases-loop-seats l = goal.left-loop-seats l

abbrev pub invariant-loop-seats : goal.invariant-loop-seats
invariant-loop-seats l = record {
  joined : Joined l.fn.seats.items l.seats.items l.place.me.0.parts l.place.me.0.notes (map (λ log. log.entries) l.logs.items);
  hold : l.place.me.0.hold ≡ None;
  table : l.place.table_id ≡ l.fn.self.table;
  room : length l.logs.items + length l.seats.items ≤ vec_capacity l.logs;
  of_table : All (IsSeatOf l.fn.self) l.seats.items;
}
