-- What the turns of an interval keep, in whatever order the cores take them.
use Rattle.std.specs.Prelude.{◌≡◌, ◌⊎◌, ℕ, ◌+◌, ◌^◌, ◌<◌, ◌≤◌, Bool, IsTrue, List, length, slice_get, sum_by, Some, All}
use Rattle.zs_num.specs.declared.entry.Entry.{Entry}
use Rattle.elf_load.specs.MemoryImage.{MemoryImage}
use Rattle.noc_mesh.specs.declared.net.Net.{Net}
use Rattle.noc_mesh.specs.NetTiming.{net_time}
use Rattle.access_log.specs.History.{of_core}
use Rattle.access_record.specs.Records.{IsInReach}
use Rattle.bound_core.specs.Reaching.{Reaches}
use Rattle.bound_core.specs.ReferenceMachine.{BoundState}
use Rattle.bound_core.specs.ShardPort.{base_of, l1i_of, room_of, size_of}
use Rattle.bound_core.specs.ShardWorld.{ShardWorld, shards_serve}
use Rattle.bound_core.specs.NumberedCores.{NumberedCore, timed_of}
use Rattle.bound_core.specs.IntervalBounds.{latest_clock, most_accesses}
use Rattle.bound_core.specs.Turn.{EndsInterval, IsOver, TakesTurn}
use Rattle.bound_records.specs.CoreRuns.{AreNumbered}
use Rattle.bound_records.specs.Recorders.{GivesTurn, RecorderState, TurnPortState}

-- the time of an access by an expansion
abbrev pub time_by_net : Net → Entry → ℕ
time_by_net net e = net_time net.path e

-- a bound phase on its way, with these cores, where these accesses were taken and recorded
abbrev pub phase_by : List NumberedCore → RecorderState → (taken : List Entry) → BoundState ShardWorld
phase_by cores r taken = record { cores = timed_of cores; world = r.world; entries = taken }

-- A core on its way through an interval, with this memory, and with instruction caches or none: it is over, or it has
-- come to the interval's begin and has at most so many accesses left, and none of them is late.
pub record IsOnItsWay (begin end base size : ℕ) (l1i : Bool) (left : ℕ) (c : NumberedCore) : Type 0 where
  pub few : IsOver end c.timed ⊎ ((most_accesses end c.timed ≤ left) × ((latest_clock end c.timed ≤ end + 2 ^ 30) × (begin ≤ c.timed.clock)))
  pub clock : latest_clock end c.timed ≤ 2 ^ 57
  pub spare : left < c.spare
  pub base_is : c.timed.core.memory.base ≡ base
  pub size_is : c.timed.core.memory.size ≡ size
  pub fetches : IsTrue c.timed.core.fetching → IsTrue l1i

-- What holds of a recorder with these cores while turns are taken in an interval: it has room for all that is left, and
-- began as this one.
pub record HasRoomForTurns (end most : ℕ) (r : RecorderState) (taken : List Entry) (left : List ℕ) (cores : List NumberedCore) (now : RecorderState) : Type 0 where
  pub few : length taken + sum_by (λ n. n) left ≤ most
  pub room : most < room_of now.world + length taken
  pub each : (i n : ℕ) (entries : List Entry) → slice_get left i ≡ Some n → slice_get now.lists i ≡ Some entries → length entries + n < now.room
  pub stamps : length now.world.stamps ≡ length cores
  pub lists : length now.lists ≡ length cores
  pub banks : length now.world.shards ≡ length r.world.shards
  pub base : base_of now.world ≡ r.base
  pub size : size_of now.world ≤ 2 ^ 28
  pub short : end ≤ r.begin + 10000
  pub as_was : now ≡ record r { world = now.world; lists = now.lists }

-- These turns lead from the first state to where cores and recorder are now. Together the cores have no more accesses
-- than so many.
pub record HaveTaken (time : Entry → ℕ) (image : MemoryImage) (end most : ℕ) (r : RecorderState) (first : BoundState ShardWorld) (turns : List ℕ) (cores : List NumberedCore) (now : RecorderState) : Type 0 where
  -- the accesses in the order of the turns
  pub taken : List Entry
  pub reaches : Reaches shards_serve time image end first turns (phase_by cores now taken)
  pub left : List ℕ
  pub count : length left ≡ length cores
  pub each : (i n : ℕ) (c : NumberedCore) → slice_get left i ≡ Some n → slice_get cores i ≡ Some c → IsOnItsWay r.begin end (base_of now.world) (size_of now.world) (l1i_of now.world) n c
  pub room : HasRoomForTurns end most r taken left cores now
  pub numbered : AreNumbered cores
  pub own : (core : ℕ) (entries : List Entry) → slice_get now.lists core ≡ Some entries → of_core core taken ≡ entries
  pub starts : All (λ e. e.start ≤ 2 ^ 34) taken
  pub reach : All (IsInReach r.begin r.base) taken

-- ---- one turn

-- what a turn that takes an access does, as the code of a turn says it
pub record TakesAccess (time : Entry → ℕ) (image : MemoryImage) (end : ℕ) (port port_after : TurnPortState) (core after : NumberedCore) (e : Entry) : Type 0 where
  pub turn : TakesTurn time image end GivesTurn port port_after core.timed after.timed e
  pub own : e.core ≡ core.number
  pub start : e.start ≤ latest_clock end core.timed
  pub begun : core.timed.clock ≤ after.timed.clock
  pub fewer : most_accesses end after.timed < most_accesses end core.timed
  pub not_later : latest_clock end after.timed ≤ latest_clock end core.timed
  pub number : after.number ≡ core.number
  pub memory : after.timed.core.memory ≡ core.timed.core.memory
  pub fetching : after.timed.core.fetching ≡ core.timed.core.fetching
  pub spare : core.spare ≤ after.spare + 1

-- and one that takes none
pub record TakesNone (image : MemoryImage) (end : ℕ) (port port_after : TurnPortState) (core after : NumberedCore) : Type 0 where
  pub ends : EndsInterval image end port port_after core.timed after.timed
  pub over : IsOver end after.timed
  pub not_later : latest_clock end after.timed ≤ latest_clock end core.timed
  pub number : after.number ≡ core.number
  pub memory : after.timed.core.memory ≡ core.timed.core.memory
  pub fetching : after.timed.core.fetching ≡ core.timed.core.fetching
  pub spare : after.spare ≡ core.spare

-- the port with this core chosen
abbrev pub chosen : TurnPortState → (number : ℕ) → TurnPortState
chosen port number = record port { core = number }
