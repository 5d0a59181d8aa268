-- Cores that run to the end of an interval, one after the other.
use Rattle.std.specs.Prelude.{◌≡◌, ℕ, ◌+◌, ◌-◌, ◌*◌, ◌/◌, ◌^◌, ◌<◌, ◌≤◌, Bool, false, IsTrue, List, [], ◌++◌, length, map, slice_get, slice_set, Some, None, All}
use Rattle.zs_num.specs.Request.{line_of}
use Rattle.zs_num.specs.declared.entry.Entry.{Entry}
use Rattle.elf_load.specs.MemoryImage.{MemoryImage}
use Rattle.machine_desc.specs.declared.machine.Machine.{Machine}
use Rattle.event_graph.specs.AccessPaths.{path_of}
use Rattle.noc_mesh.specs.declared.net.Net.{Net}
use Rattle.noc_mesh.specs.NetTiming.{net_time}
use Rattle.access_record.specs.Records.{IsInReach}
use Rattle.bound_core.specs.TurnLaws.{moved}
use Rattle.bound_core.specs.Reaching.{Reaches}
use Rattle.bound_core.specs.ReferenceMachine.{BoundState}
use Rattle.bound_core.specs.ShardPort.{base_of, l1i_of, room_of, size_of}
use Rattle.bound_core.specs.ShardWorld.{ShardWorld, shards_serve}
use Rattle.bound_core.specs.TimedCore.{TimedCore}
use Rattle.bound_core.specs.NumberedCores.{NumberedCore, timed_of}
use Rattle.bound_core.specs.IntervalBounds.{latest_clock, most_accesses}
use Rattle.bound_core.specs.Turn.{IsOver, RunsToEnd}
use Rattle.bound_records.specs.Recorders.{GivesRecorded, RecorderState, RecordPortState, core_room, entries_of}

-- the expansion of this machine
abbrev pub IsNetOf : Machine → Net → Type 0
IsNetOf machine net = net.path ≡ path_of machine

-- the time of an access where nothing else runs, by what it asked and how it was met
abbrev pub access_time_of : Machine → Entry → ℕ
access_time_of machine e = net_time (path_of machine) e

-- each core has the number of its place
abbrev pub AreNumbered : List NumberedCore → Type 0
AreNumbered cores = (i : ℕ) (c : NumberedCore) → slice_get cores i ≡ Some c → c.number ≡ i

-- What the bound phase asks of a core, with this memory, and with instruction caches or none: a core that is not halted
-- has come to the end of the last interval.
pub record CanRunInterval (machine : Machine) (end base size : ℕ) (l1i : Bool) (c : TimedCore) : Type 0 where
  pub idle : c.core.instruction ≡ None
  pub unfetched : c.core.is_fetched ≡ false
  pub clock : c.clock ≤ 2 ^ 56
  pub left : c.core.halted ≡ None → end - c.clock ≤ machine.interval
  pub base_is : c.core.memory.base ≡ base
  pub size_is : c.core.memory.size ≡ size
  pub fetches : IsTrue c.core.fetching → IsTrue l1i

-- it begins no earlier than this, and is in this memory
pub record IsNear (low base size : ℕ) (e : Entry) : Type 0 where
  pub from : low ≤ e.start
  pub first : base / 64 ≤ line_of e.request
  pub near : line_of e.request ≤ (base + size) / 64

-- a bound phase on its way, with these cores, where one worker has recorded it, one core after the other
abbrev pub phase_in : List NumberedCore → RecorderState → BoundState ShardWorld
phase_in cores r = record { cores = timed_of cores; world = r.world; entries = entries_of r }

-- The turns of a core, which take these entries, up to the end of the interval: wherever a bound phase has come to, they
-- lead it on.
pub record HasRun (machine : Machine) (image : MemoryImage) (end begin base : ℕ) (core core_after : NumberedCore) (world world_after : ShardWorld) (entries : List Entry) : Type 0 where
  pub leads : (s t : BoundState ShardWorld) (numbers : List ℕ) → Reaches shards_serve (access_time_of machine) image end s numbers t
      → slice_get t.cores core.number ≡ Some core.timed → t.world ≡ world
      → Reaches shards_serve (access_time_of machine) image end s (numbers ++ map (λ e. e.core) entries) (moved t core.number core_after.timed world_after entries)
  pub own : All (λ e. e.core ≡ core.number) entries
  pub starts : All (λ e. e.start ≤ 2 ^ 34) entries
  pub reach : All (IsInReach begin base) entries
  pub few : length entries ≤ core_room machine
  pub over : IsOver end core_after.timed
  pub clock : core_after.timed.clock ≤ 2 ^ 57
  pub number : core_after.number ≡ core.number
  pub base_stays : base_of world_after ≡ base_of world
  pub size_stays : size_of world_after ≡ size_of world
  pub l1i_stays : l1i_of world_after ≡ l1i_of world
  pub stamps : length world_after.stamps ≡ length world.stamps
  pub banks : length world_after.shards ≡ length world.shards
  pub room : room_of world ≤ room_of world_after + core_room machine

-- the port of a core before its first access
abbrev pub first_port : RecorderState → (core : ℕ) → RecordPortState
first_port r core = record { world = r.world; core = core; begin = r.begin; base = r.base; entries = []; room = r.room }

-- What a core does up to the end of its interval, whose accesses are then kept at its number.
pub record HasRunToEnd (time : Entry → ℕ) (image : MemoryImage) (end : ℕ) (core core_after : NumberedCore) (r after : RecorderState) : Type 0 where
  pub last : RecordPortState
  pub ran : RunsToEnd time image end GivesRecorded (λ p. Some p.entries) core.number (first_port r core.number) last core.timed core_after.timed
  pub over : IsOver end core_after.timed
  pub few : most_accesses end core.timed ≤ end - core.timed.clock + 257
  pub latest : latest_clock end core_after.timed ≤ latest_clock end core.timed
  pub number : core_after.number ≡ core.number
  pub base_stays : base_of last.world ≡ base_of r.world
  pub size_stays : size_of last.world ≡ size_of r.world
  pub l1i_stays : l1i_of last.world ≡ l1i_of r.world
  pub kept : after ≡ record r { world = last.world; lists = slice_set r.lists core.number last.entries }

-- a core has run, whose accesses are kept at its number
pub record HasRecorded (machine : Machine) (image : MemoryImage) (end : ℕ) (core core_after : NumberedCore) (r after : RecorderState) : Type 0 where
  pub entries : List Entry
  pub world : ShardWorld
  pub run : HasRun machine image end r.begin r.base core core_after r.world world entries
  pub kept : after ≡ record r { world = world; lists = slice_set r.lists core.number entries }

-- So many of the cores have run, one after the other, and the others have no access yet.
pub record HaveRecorded (machine : Machine) (image : MemoryImage) (end ran : ℕ) (cores cores_after : List NumberedCore) (r after : RecorderState) : Type 0 where
  pub reaches : Reaches shards_serve (access_time_of machine) image end (phase_in cores r) (map (λ e. e.core) (entries_of after)) (phase_in cores_after after)
  pub own : (i : ℕ) (entries : List Entry) → slice_get after.lists i ≡ Some entries → All (λ e. e.core ≡ i) entries
  pub none : (i : ℕ) (entries : List Entry) → ran ≤ i → slice_get after.lists i ≡ Some entries → entries ≡ []
  pub starts : All (λ e. e.start ≤ 2 ^ 34) (entries_of after)
  pub reach : All (IsInReach after.begin after.base) (entries_of after)
  pub few : length (entries_of after) ≤ ran * core_room machine
  pub count : length cores_after ≡ length cores
  pub numbered : AreNumbered cores_after
  pub over : (i : ℕ) (c : NumberedCore) → i < ran → slice_get cores_after i ≡ Some c → IsOver end c.timed
  pub clocks : (i : ℕ) (c : NumberedCore) → i < ran → slice_get cores_after i ≡ Some c → c.timed.clock ≤ 2 ^ 57
  pub rest : (i : ℕ) → ran ≤ i → slice_get cores_after i ≡ slice_get cores i
  pub base_stays : base_of after.world ≡ base_of r.world
  pub size_stays : size_of after.world ≡ size_of r.world
  pub l1i_stays : l1i_of after.world ≡ l1i_of r.world
  pub stamps : length after.world.stamps ≡ length r.world.stamps
  pub banks : length after.world.shards ≡ length r.world.shards
  pub lists : length after.lists ≡ length r.lists
  pub begin_is : after.begin ≡ r.begin
  pub base_is : after.base ≡ r.base
  pub room_is : after.room ≡ r.room
  pub room : room_of r.world ≤ room_of after.world + ran * core_room machine
