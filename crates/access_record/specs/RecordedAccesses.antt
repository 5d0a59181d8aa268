-- What is kept of an interval's accesses, core by core.
use Rattle.std.specs.Prelude.{◌≡◌, ℕ, List, ◌++◌, Some, drop, length, map, slice_get, slice_index}
use Rattle.zs_num.specs.declared.entry.Entry.{Entry}
use Rattle.access_log.specs.History.{of_core}
use Rattle.access_record.specs.BankLogs.{BankLogState}
use Rattle.access_record.specs.Laws.{beyond_hits, kept_of}
use Rattle.access_record.specs.RecordLogs.{RecordLogState}

-- the logs are those of the cores, in order of their numbers
abbrev pub AreInOrder : List BankLogState → Type 0
AreInOrder logs = (i : ℕ) (log : BankLogState) → slice_get logs i ≡ Some log → log.core ≡ i

-- a core's records are those of its accesses that make events, in an interval and a memory that begin so
pub record IsRecordOf (begin base : ℕ) (entries : List Entry) (kept : RecordLogState) : Type 0 where
  pub entries_are : kept.entries ≡ beyond_hits entries
  pub begin_is : kept.begin ≡ begin
  pub base_is : kept.base ≡ base

-- each core has its records
pub record AreRecordsOf (begin base : ℕ) (logs : List BankLogState) (records : List RecordLogState) : Type 0 where
  pub as_many : length records ≡ length logs
  pub each : (i : ℕ) (log : BankLogState) (kept : RecordLogState) → slice_get logs i ≡ Some log → slice_get records i ≡ Some kept → IsRecordOf begin base log.entries kept

-- ---- the walk over the accesses in recorded order

-- Of these accesses some are left, and those that make events were listed behind the first ones. Of each core as many were met, and of its records as many taken, as are not left.
pub record IsWalking (begin base : ℕ) (recorded : List Entry) (logs : List BankLogState) (records : List RecordLogState) (first : List Entry) (rest : List Entry) (met taken : List ℕ) (items : List Entry) : Type 0 where
  pub listed : items ++ map (kept_of begin base) (beyond_hits rest) ≡ first ++ map (kept_of begin base) (beyond_hits recorded)
  pub met_so : (i : ℕ) (log : BankLogState) → slice_get logs i ≡ Some log → drop (slice_index met i) log.entries ≡ of_core i rest
  pub taken_so : (i : ℕ) (log : RecordLogState) → slice_get records i ≡ Some log → drop (slice_index taken i) log.entries ≡ beyond_hits (of_core i rest)
  pub as_many_met : length met ≡ length logs
  pub as_many_taken : length taken ≡ length records
