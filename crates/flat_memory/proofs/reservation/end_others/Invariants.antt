-- the reservations before this number are as they are left, and the others as they were
use Rattle.std.proofs.Common.{◌≡◌, ◌<◌, ◌≤◌, ℕ, ◌==◌, get_or, None}
use Rattle.flat_memory.specs.FlatMemory.{unless_written}
use Rattle.flat_memory.proofs.reservation.end_others.Given as goal

abbrev pub invariant-loop-number : goal.invariant-loop-number
invariant-loop-number l = record {
  done : (i : ℕ) → i < l.number → get_or l.reservations i None ≡ unless_written (i == l.core) l.addr (get_or l.initial.reservations i None);
  rest : (i : ℕ) → l.number ≤ i → get_or l.reservations i None ≡ get_or l.initial.reservations i None;
}
