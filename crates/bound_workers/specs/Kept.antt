-- What is kept of the accesses that a core makes through its seat.
use Rattle.std.specs.Prelude.{◌≡◌, ◌<◌, ◌≤◌, List, [], map}
use Rattle.zs_num.specs.declared.entry.Entry.{Entry}
use Rattle.access_record.specs.BankLogs.{BankLogState}
use Rattle.access_record.specs.Laws.{beyond_hits}
use Rattle.access_record.specs.RecordLogs.{RecordLogState}
use Rattle.stats.specs.Counted.{no_core_count}
use Rattle.stats.specs.declared.counts.CoreCount.{CoreCount}
use Rattle.bound_records.specs.Counted.{count_of}
use Rattle.bound_records.specs.declared.record_port.CoreRecord.{CoreRecord}
use Rattle.parts_table.specs.Access.{SeatState, TableState}

-- the accesses of a seat, in its core's order; no stamp is known
abbrev pub entries_of_seat : SeatState → List Entry
entries_of_seat seat = map (λ a. a.entry) seat.made

-- this is kept of the accesses of a seat, and there is room for all that its core can make
pub record IsKeptAtWork (t : TableState) (seat : SeatState) (log : BankLogState) (records : RecordLogState) (count : CoreCount) : Type 0 where
  pub core_is : log.core ≡ seat.core
  pub some : 0 < log.banks
  pub entries_are : log.entries ≡ entries_of_seat seat
  pub room : t.room ≤ log.room
  pub records_core : records.core ≡ log.core
  pub records_are : records.entries ≡ beyond_hits log.entries
  pub records_room : records.room ≡ log.room
  pub count_is : count ≡ count_of log.entries

-- without its accesses
abbrev pub blank_of : CoreRecord → CoreRecord
blank_of r = record { log = record r.log { entries = [] }; records = record r.records { entries = [] }; count = no_core_count }
