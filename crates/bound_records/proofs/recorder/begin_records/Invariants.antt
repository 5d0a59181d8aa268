-- the records before these are forgotten, and the others are as they were
use Rattle.std.proofs.Common.{◌≡◌, ◌<◌, ◌≤◌, ℕ, get_or}
use Rattle.bound_records.specs.Recorders.{emptied_at, no_records}
use Rattle.bound_records.proofs.recorder.begin_records.Given as goal

abbrev pub invariant-loop-record : goal.invariant-loop-record
invariant-loop-record l = record {
  done : (i : ℕ) → i < l.record-index → get_or l.record-items i (no_records 0 0 0) ≡ emptied_at l.begin (get_or l.initial.record-items i (no_records 0 0 0));
  rest : (i : ℕ) → l.record-index ≤ i → get_or l.record-items i (no_records 0 0 0) ≡ get_or l.initial.record-items i (no_records 0 0 0);
}
