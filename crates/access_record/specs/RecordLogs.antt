-- The records of a core's accesses in an interval.
use Rattle.std.specs.Prelude.{◌≡◌, ℕ, ◌^◌, ◌<◌, ◌≤◌, List, All, map, length}
use Rattle.zs_num.specs.declared.entry.Entry.{Entry}
use Rattle.access_record.specs.Records.{RecordState, record_of}

pub record RecordLogState : Type 0 where
  -- whose accesses they are
  pub core : ℕ
  -- when the interval began
  pub begin : ℕ
  -- where memory begins
  pub base : ℕ
  -- in the order of the core
  pub entries : List Entry
  -- for how many there is memory
  pub room : ℕ

-- a log has a record of each access
pub record AreRecorded (log : RecordLogState) (records : List RecordState) : Type 0 where
  pub records_are : records ≡ map (record_of log.begin log.base) log.entries
  pub own : All (λ e. e.core ≡ log.core) log.entries
  pub within : length log.entries ≤ log.room
  pub short : log.room < 2 ^ 32
  pub early : log.begin < 2 ^ 63
  pub low : log.base < 2 ^ 63
