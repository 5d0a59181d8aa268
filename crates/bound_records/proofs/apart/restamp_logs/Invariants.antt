-- the logs before this one have their stamps, and the others are as they were
use Rattle.std.proofs.Common.{◌≡◌, ◌<◌, ◌≤◌, ℕ, get_or}
use Rattle.access_record.specs.Restamped.{lists_of_stamped}
use Rattle.bound_records.specs.Recorders.{no_log}
use Rattle.bound_records.proofs.TakenApart.{stamped_by_lists}
use Rattle.bound_records.proofs.apart.restamp_logs.Given as goal

abbrev pub invariant-loop-log : goal.invariant-loop-log
invariant-loop-log l = record {
  done : (i : ℕ) → i < l.log-index → get_or l.logs i (no_log 1 0 0) ≡ stamped_by_lists (lists_of_stamped l.stamped) (get_or l.initial.logs i (no_log 1 0 0));
  rest : (i : ℕ) → l.log-index ≤ i → get_or l.logs i (no_log 1 0 0) ≡ get_or l.initial.logs i (no_log 1 0 0);
}
