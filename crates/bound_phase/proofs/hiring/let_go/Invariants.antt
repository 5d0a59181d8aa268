-- the cores below the number are back
use Rattle.std.proofs.Common.{◌≡◌, ◌≤◌, List, length, vec_capacity}
use Rattle.dealing.specs.Dealing.{AreDealt}
use Rattle.dealing.specs.Workers.{queues_of}
use Rattle.bound_phase.specs.declared.member.Member.{Member}
use Rattle.bound_phase.proofs.Returns.{LeftSoFar}
use Rattle.bound_phase.proofs.hiring.let_go.Given as goal

abbrev pub invariant-loop-number : goal.invariant-loop-number
invariant-loop-number l = record {
  some : length l.crews ≡ length l.fn.crews;
  cores_count : length l.cores.items ≡ l.number;
  seats_count : length l.seats.items ≡ l.number;
  cores_room : l.fn.count ≤ vec_capacity l.cores;
  seats_room : l.fn.count ≤ vec_capacity l.seats;
  so_far : (members : List Member) → AreDealt 0 members (queues_of l.fn.crews) → length members ≡ l.fn.count → LeftSoFar members l.number l.crews l.cores.items l.seats.items;
}
