-- the logs before this one are empty, and the others are as they were
use Rattle.std.proofs.Common.{◌≡◌, ◌<◌, ◌≤◌, ℕ, get_or}
use Rattle.bound_records.specs.Recorders.{emptied, no_log}
use Rattle.bound_records.proofs.recorder.clear_logs.Given as goal

abbrev pub invariant-loop-log : goal.invariant-loop-log
invariant-loop-log l = record {
  done : (i : ℕ) → i < l.log-index → get_or l.log-items i (no_log 1 0 0) ≡ emptied (get_or l.initial.log-items i (no_log 1 0 0));
  rest : (i : ℕ) → l.log-index ≤ i → get_or l.log-items i (no_log 1 0 0) ≡ get_or l.initial.log-items i (no_log 1 0 0);
}
