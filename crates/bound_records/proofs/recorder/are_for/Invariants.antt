-- the logs looked at are such
use Rattle.std.proofs.Common.{◌≡◌, ◌<◌, ℕ}
use Rattle.std.specs.Prelude.{Some, slice_get}
use Rattle.access_record.specs.BankLogs.{BankLogState}
use Rattle.bound_records.specs.Recorders.{emptied, no_log}
use Rattle.bound_records.proofs.recorder.are_for.Given as goal

abbrev pub invariant-loop-core : goal.invariant-loop-core
invariant-loop-core l = (i : ℕ) (log : BankLogState) → i < l.core → slice_get l.logs i ≡ Some log → emptied log ≡ no_log l.banks l.room i
