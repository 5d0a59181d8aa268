-- The bound phase of an interval by several workers.
use Rattle.std.specs.Prelude.{◌≡◌, ℕ, ◌<◌, ◌≤◌, List, [], All, length, slice_get, Some}
use Rattle.machine_desc.specs.declared.machine.Machine.{Machine}
use Rattle.stats.specs.Counted.{no_core_count}
use Rattle.bound_core.specs.NumberedCores.{NumberedCore}
use Rattle.bound_core.specs.ShardPort.{AreShardsOf, l1i_in}
use Rattle.bound_records.specs.CoreRuns.{CanRunInterval}
use Rattle.bound_records.specs.Recorders.{core_room}
use Rattle.bound_records.specs.declared.record_port.CoreRecord.{CoreRecord}
use Rattle.parts_table.specs.Access.{AreNewSeats, SeatState, TableState, opening_shards}
use Rattle.parts_table.specs.KeptKeys.{BlocksState}
use Rattle.bound_workers.specs.Team.{IsFree, Team}

-- nothing is kept of a core yet, and there is room for all that it can make at the table
pub record IsNewRecord (t : TableState) (number : ℕ) (kept : CoreRecord) : Type 0 where
  pub core_is : kept.log.core ≡ number
  pub some : 0 < kept.log.banks
  pub none : kept.log.entries ≡ []
  pub room : t.room ≤ kept.log.room
  pub records_core : kept.records.core ≡ number
  pub records_none : kept.records.entries ≡ []
  pub records_room : kept.records.room ≡ kept.log.room
  pub count_is : kept.count ≡ no_core_count

-- a core of this number before the interval, with room for what it writes
pub record IsReady (m : Machine) (end : ℕ) (t : TableState) (number : ℕ) (c : NumberedCore) : Type 0 where
  pub can : CanRunInterval m end m.memory.base m.memory.size (l1i_in (opening_shards t)) c.timed
  pub spare : core_room m ≤ c.spare
  pub number_is : c.number ≡ number

-- The cores have new seats at a table of the machine's shards, and nothing is kept of them yet.
pub record HaveSeats (m : Machine) (end : ℕ) (t : TableState) (cores : List NumberedCore) (seats : List SeatState) (records : List CoreRecord) : Type 0 where
  pub count : length cores ≡ t.cores
  pub cores_are : t.cores ≡ m.cores
  pub ready : (number : ℕ) (c : NumberedCore) → slice_get cores number ≡ Some c → IsReady m end t number c
  pub seats_new : AreNewSeats t seats
  pub many : length records ≡ length cores
  pub none_kept : (number : ℕ) (kept : CoreRecord) → slice_get records number ≡ Some kept → IsNewRecord t number kept
  pub shards : AreShardsOf t.cores (opening_shards t) m.memory.base m.memory.size
  pub room : t.room ≡ core_room m

-- so many workers without cores, and what it takes to put the accesses of so many cores in order
pub record AreToolsFor (workers cores room : ℕ) (teams : List Team) (blocks : List BlocksState) (merge : ℕ) : Type 0 where
  pub workers_are : length teams ≡ workers
  pub free : All (IsFree cores) teams
  pub blocks_are : length blocks ≡ cores
  pub rooms : All (λ b. b.room ≡ room) blocks
  pub merge_is : merge ≡ cores
