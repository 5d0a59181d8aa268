-- the records before this place have their stamps, and the others are as they were
use Rattle.std.proofs.Common.{◌≡◌, ◌<◌, ◌≤◌, ℕ, Some}
use Rattle.std.specs.Prelude.{slice_get}
use Rattle.access_record.specs.BankLogs.{BankLogState}
use Rattle.access_record.specs.Laws.{beyond_hits}
use Rattle.access_record.specs.RecordLogs.{RecordLogState}
use Rattle.bound_records.proofs.apart.restamp_records.Given as goal

abbrev pub invariant-loop-place : goal.invariant-loop-place
invariant-loop-place l = record {
  done : (i : ℕ) (log : BankLogState) (kept : RecordLogState) → i < l.place → slice_get l.logs i ≡ Some log → slice_get l.initial.records i ≡ Some kept
      → slice_get l.records i ≡ Some (record kept { entries = beyond_hits log.entries });
  rest : (i : ℕ) → l.place ≤ i → slice_get l.records i ≡ slice_get l.initial.records i;
}
