-- the cores below the number are back
use Rattle.std.proofs.Common.{◌≡◌, ◌≤◌, List, length, vec_capacity}
use Rattle.dealing.specs.Dealing.{AreDealt}
use Rattle.dealing.specs.Workers.{queues_of}
use Rattle.bound_workers.specs.declared.member.Member.{Member}
use Rattle.bound_workers.proofs.Returns.{LeftSoFar}
use Rattle.bound_workers.proofs.hiring.let_go.Given as goal

abbrev pub invariant-loop-number : goal.invariant-loop-number
invariant-loop-number l = record {
  some : length l.teams ≡ length l.fn.teams;
  cores_count : length l.cores.items ≡ l.number;
  seats_count : length l.seats.items ≡ l.number;
  records_count : length l.records.items ≡ l.number;
  cores_room : l.fn.count ≤ vec_capacity l.cores;
  seats_room : l.fn.count ≤ vec_capacity l.seats;
  records_room : l.fn.count ≤ vec_capacity l.records;
  so_far : (members : List Member) → AreDealt 0 members (queues_of l.fn.teams) → length members ≡ l.fn.count → LeftSoFar members l.number l.teams l.cores.items l.seats.items l.records.items;
}
