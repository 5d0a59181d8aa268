-- The bound phase of an interval by several workers.
use Rattle.std.specs.Prelude.{◌≡◌, ℕ, ◌+◌, ◌*◌, ◌^◌, ◌<◌, ◌≤◌, Bool, false, List, length, map, slice_get, All, None, Some, IsNone, IsTrue}
use Rattle.zs_num.specs.declared.entry.Entry.{Entry}
use Rattle.machine_desc.specs.declared.machine.Machine.{Machine}
use Rattle.elf_load.specs.MemoryImage.{MemoryImage}
use Rattle.shard.specs.Served.{ShardState}
use Rattle.shard_table.specs.Access.{AreNewSeats, SeatState, TableState}
use Rattle.access_log.specs.History.{of_core}
use Rattle.access_log.specs.RecordedOrder.{recorded_order}
use Rattle.bound_core.specs.History.{IsHistory, after_history}
use Rattle.bound_core.specs.ShardPort.{AreShardsOf, l1i_in}
use Rattle.bound_core.specs.ShardWorld.{restarted}
use Rattle.bound_core.specs.TimedCore.{beside_cycles}
use Rattle.bound_core.specs.NumberedCores.{NumberedCore, timed_of}
use Rattle.bound_core.specs.Turn.{IsOver}

-- A core of this machine between two instructions. Unless it has halted, the interval that ends at `end` is one of the
-- machine's length at most from its clock.
pub record IsBeforeInterval (m : Machine) (end : ℕ) (c : NumberedCore) : Type 0 where
  pub idle : c.timed.core.instruction ≡ None
  pub unfetched : c.timed.core.is_fetched ≡ false
  pub base : c.timed.core.memory.base ≡ m.memory.base
  pub size : c.timed.core.memory.size ≡ m.memory.size
  pub near : IsNone c.timed.core.halted → end ≤ c.timed.clock + m.interval
  pub clock : c.timed.clock ≤ 2 ^ 60

-- it fetches only where the cores have instruction caches
abbrev pub FetchesIn : (l1i : Bool) → NumberedCore → Type 0
FetchesIn l1i c = IsTrue c.timed.core.fetching → IsTrue l1i

-- The cores and the shards of a machine, in order of their numbers, before an interval.
pub record CanBound (m : Machine) (end : ℕ) (cores : List NumberedCore) (shards : List ShardState) : Type 0 where
  pub count : length cores ≡ m.cores
  pub numbers : (number : ℕ) (c : NumberedCore) → slice_get cores number ≡ Some c → c.number ≡ number
  pub at_start : All (IsBeforeInterval m end) cores
  pub shards_are : AreShardsOf m.cores shards m.memory.base m.memory.size
  pub banks : length shards ≡ m.l2.banks
  pub fetches : All (FetchesIn (l1i_in shards)) cores

-- The entries, in recorded order, are a history of the interval, whatever the order in which the cores took their
-- turns; the cores and the shards are what it leaves.
pub record IsBound (time : Entry → ℕ) (image : MemoryImage) (end : ℕ) (cores : List NumberedCore) (shards : List ShardState)
    (cores_after : List NumberedCore) (shards_after : List ShardState) (entries : List Entry) : Type 0 where
  pub history : IsHistory time image end (timed_of cores) (map restarted shards) entries
  pub in_order : recorded_order entries ≡ entries
  pub cores_are : timed_of cores_after ≡ (after_history time image end (timed_of cores) (map restarted shards) entries).cores
  pub numbers : map (λ c. c.number) cores_after ≡ map (λ c. c.number) cores
  pub shards_are : shards_after ≡ (after_history time image end (timed_of cores) (map restarted shards) entries).world.shards

-- Every core has halted or come to the end of the interval. No access starts more than 2^30 cycles behind the end, no
-- clock is more than 2^30 cycles behind where it began or behind the end, and each core has an access for each cycle
-- and `beside_cycles` more at most.
pub record HaveEndedInterval (m : Machine) (end : ℕ) (cores cores_after : List NumberedCore) (entries : List Entry) : Type 0 where
  pub over : All (IsOver end) (timed_of cores_after)
  pub starts : All (λ e. e.start ≤ end + 2 ^ 30) entries
  pub few : length entries ≤ m.cores * (m.interval + beside_cycles)
  pub few_each : (core : ℕ) → core < m.cores → length (of_core core entries) ≤ m.interval + beside_cycles
  pub clocks : (most : ℕ) → end ≤ most → All (λ c. c.clock ≤ most) (timed_of cores) → All (λ c. c.clock ≤ most + 2 ^ 30) (timed_of cores_after)

-- there is room for so many bytes on the console
abbrev pub HasConsoleRoom : ℕ → NumberedCore → Type 0
HasConsoleRoom room c = room ≤ c.spare

-- the cores have room for what they write, and new seats at a table of the machine's shards
pub record HaveNewSeats (m : Machine) (end : ℕ) (t : TableState) (cores : List NumberedCore) (seats : List SeatState) : Type 0 where
  pub count : length cores ≡ t.cores
  pub cores_are : t.cores ≡ m.cores
  pub ready : (number : ℕ) (c : NumberedCore) → slice_get cores number ≡ Some c → IsBeforeInterval m end c × HasConsoleRoom (m.interval + beside_cycles) c × (c.number ≡ number) × FetchesIn (l1i_in t.shards) c
  pub seats_new : AreNewSeats t seats
  pub shards : AreShardsOf t.cores t.shards m.memory.base m.memory.size
  pub room : t.room ≡ m.interval + beside_cycles
