-- What is kept of the accesses of an interval, core by core.
use Rattle.std.specs.Prelude.{◌≡◌, ℕ, ◌+◌, ◌<◌, ◌≤◌, ◌^◌, List, [], ◌∷◌, ◌++◌, All, length, map, replicate, slice_get, slice_set, Some}
use Rattle.zs_num.specs.declared.entry.Entry.{Entry}
use Rattle.zs_num.specs.declared.request.Request.{Request}
use Rattle.zs_num.specs.Servable.{IsServable}
use Rattle.machine_desc.specs.declared.machine.Machine.{Machine}
use Rattle.access_log.specs.History.{AreStamped, of_core}
use Rattle.access_log.specs.RecordedOrder.{no_stamps, recorded_order}
use Rattle.access_record.specs.BankLogs.{BankLogState}
use Rattle.access_record.specs.Laws.{beyond_hits, kept_of}
use Rattle.access_record.specs.RecordLogs.{RecordLogState}
use Rattle.access_record.specs.Turns.{IfListed, in_turns}
use Rattle.access_record.specs.declared.turns.Turns.{Turns}
use Rattle.access_record.specs.declared.turns.Turns.TheVariants.{CoreByCore, Listed}
use Rattle.bound_core.specs.ShardPort.{base_of, l1i_of, room_of, size_of}
use Rattle.bound_core.specs.ShardWorld.{ShardWorld, shards_serve}
use Rattle.bound_core.specs.TimedCore.{beside_cycles}
use Rattle.stats.specs.declared.counts.CoreCount.{CoreCount}
use Rattle.stats.specs.Counted.{no_core_count}
use Rattle.weave_chains.specs.Listed.{list_of, one_after_other}
use Rattle.bound_records.specs.Counted.{count_of}

-- how many accesses a core has in an interval at most
abbrev pub core_room : Machine → ℕ
core_room machine = machine.interval + beside_cycles

-- ---- all cores

-- caches and memory, and the accesses of an interval
pub record RecorderState : Type 0 where
  pub world : ShardWorld
  -- for each core its accesses, in its order
  pub lists : List (List Entry)
  -- when the interval began
  pub begin : ℕ
  -- where memory begins
  pub base : ℕ
  -- for how many accesses of each core there is memory
  pub room : ℕ

-- the accesses of all cores, one core after the other
abbrev pub entries_of : RecorderState → List Entry
entries_of r = one_after_other r.lists

-- the accesses that make events, as their records give them back: for each core its own, in its order
abbrev pub kept_lists : RecorderState → List (List Entry)
kept_lists r = map (λ entries. map (kept_of r.begin r.base) (beyond_hits entries)) r.lists

-- and those of all cores, in recorded order
abbrev pub recorded_kept : RecorderState → List Entry
recorded_kept r = map (kept_of r.begin r.base) (beyond_hits (recorded_order (entries_of r)))

-- what is counted of each core's accesses
abbrev pub counts_in : RecorderState → List CoreCount
counts_in r = map count_of r.lists

-- it is one for the cores and the memory of a machine, with room for an interval's accesses
pub record IsRecorderFor (machine : Machine) (r : RecorderState) : Type 0 where
  pub stamps : length r.world.stamps ≡ machine.cores
  pub lists : length r.lists ≡ machine.cores
  pub room : core_room machine ≤ r.room
  pub base : r.base ≡ machine.memory.base

-- In this order the turns took its accesses: each core has its own, in its order, and the stamps are those of the order,
-- from 0 on, so the recorded order can be told.
pub record AreStampedInTurn (taken : List Entry) (r : RecorderState) : Type 0 where
  pub some : 0 < length r.world.shards
  pub few : length taken < 2 ^ 32
  pub known : All (λ e. e.core < length r.lists) taken
  pub own : (core : ℕ) (entries : List Entry) → slice_get r.lists core ≡ Some entries → of_core core taken ≡ entries
  pub stamped : AreStamped (length r.world.shards) (no_stamps (length r.world.shards) (length r.lists)) taken

-- the accesses in the order of turns
abbrev pub taken_in : Turns → RecorderState → List Entry
taken_in CoreByCore r = entries_of r
taken_in (Listed turns) r = in_turns turns.now r.lists

-- the turns took them in this order
pub record AreTakenIn (turns : Turns) (r : RecorderState) : Type 0 where
  pub stamped : AreStampedInTurn (taken_in turns r) r
  pub named : IfListed turns (λ cores. cores ≡ map (λ e. e.core) (taken_in turns r))

-- the turns of a list took its accesses, and the list names their cores
pub record AreTakenBy (turns : List ℕ) (r : RecorderState) : Type 0 where
  pub stamped : AreStampedInTurn (in_turns turns r.lists) r
  pub named : turns ≡ map (λ e. e.core) (in_turns turns r.lists)

-- without its accesses
abbrev pub without_accesses : RecorderState → RecorderState
without_accesses r = record r { lists = replicate (length r.lists) []; begin = 0 }

-- ---- what stands for it

-- what is kept of a core that has no access
abbrev pub no_log : (banks room core : ℕ) → BankLogState
no_log banks room core = record { core = core; banks = banks; entries = []; room = room }

abbrev pub no_records : (base room core : ℕ) → RecordLogState
no_records base room core = record { core = core; begin = 0; base = base; entries = []; room = room }

-- and where an interval begins
abbrev pub emptied : BankLogState → BankLogState
emptied log = record log { entries = [] }

abbrev pub emptied_at : (begin : ℕ) → RecordLogState → RecordLogState
emptied_at begin kept = record kept { begin = begin; entries = [] }

abbrev pub uncounted : CoreCount → CoreCount
uncounted count = no_core_count

-- what is kept of the core of this number
pub record IsKeptOf (r : RecorderState) (core : ℕ) (log : BankLogState) (kept : RecordLogState) (count : CoreCount) : Type 0 where
  pub log_core : log.core ≡ core
  pub log_banks : log.banks ≡ length r.world.shards
  pub log_room : log.room ≡ r.room
  pub kept_core : kept.core ≡ core
  pub kept_begin : kept.begin ≡ r.begin
  pub kept_base : kept.base ≡ r.base
  pub kept_room : kept.room ≡ r.room
  pub kept_entries : kept.entries ≡ beyond_hits log.entries
  pub count_is : count ≡ count_of log.entries

-- and of each core
pub record AreKeptOf (r : RecorderState) (banks : ℕ) (logs : List BankLogState) (records : List RecordLogState) (counts : List CoreCount) : Type 0 where
  pub stamps : length r.world.stamps ≡ length logs
  pub banks_are : banks ≡ length r.world.shards
  pub some_banks : 0 < banks
  pub few : length logs ≤ 256
  pub records_many : length records ≡ length logs
  pub counts_many : length counts ≡ length logs
  pub base : r.base < 2 ^ 63
  pub each : (i : ℕ) (log : BankLogState) (kept : RecordLogState) (count : CoreCount) → slice_get logs i ≡ Some log → slice_get records i ≡ Some kept → slice_get counts i ≡ Some count → IsKeptOf r i log kept count

-- ---- the port of a core that runs

-- caches and memory, and what is kept of the core's accesses in the interval
pub record RecordPortState : Type 0 where
  pub world : ShardWorld
  -- the core whose accesses follow
  pub core : ℕ
  -- when the interval began
  pub begin : ℕ
  -- where memory begins
  pub base : ℕ
  -- the accesses so far
  pub entries : List Entry
  -- for how many there is memory in all
  pub room : ℕ

-- what stands for it
pub record IsRecordPort (p : RecordPortState) (log : BankLogState) (kept : RecordLogState) (count : CoreCount) : Type 0 where
  pub log_core : log.core ≡ p.core
  pub log_banks : log.banks ≡ length p.world.shards
  pub log_entries : log.entries ≡ p.entries
  pub log_room : log.room ≡ p.room
  pub kept_core : kept.core ≡ p.core
  pub kept_begin : kept.begin ≡ p.begin
  pub kept_base : kept.base ≡ p.base
  pub kept_room : kept.room ≡ p.room
  pub kept_entries : kept.entries ≡ beyond_hits p.entries
  pub count_is : count ≡ count_of p.entries

-- What comes of a request: the shard of its line serves it, the entry is kept, and nothing else changes. Only what the
-- memory can be asked is asked.
pub record GivesRecorded (p : RecordPortState) (start : ℕ) (request : Request) (e : Entry) (q : RecordPortState) : Type 0 where
  pub given : (e, q.world) ≡ shards_serve p.world p.core start request
  pub kept : q ≡ record p { world = q.world; entries = p.entries ++ e ∷ [] }
  pub asked : IsServable (base_of p.world) (size_of p.world) (l1i_of p.world) request
  pub start_is : e.start ≡ start
  pub request_is : e.request ≡ request
  pub base_stays : base_of q.world ≡ base_of p.world
  pub size_stays : size_of q.world ≡ size_of p.world
  pub room : room_of p.world ≤ room_of q.world + 1

-- ---- the port of turns

-- what is kept of all cores, and the core whose turn it is
pub record TurnPortState : Type 0 where
  pub recorder : RecorderState
  pub core : ℕ

-- with an access more of a core, after which caches and memory are these
abbrev pub with_access_of : RecorderState → (core : ℕ) → Entry → ShardWorld → RecorderState
with_access_of r core e world = record r { world = world; lists = slice_set r.lists core (list_of r.lists core ++ e ∷ []) }

-- What comes of a request: the shard of its line serves it, the entry is kept as the core's last, and nothing else
-- changes. Only what the memory can be asked is asked.
pub record GivesTurn (p : TurnPortState) (start : ℕ) (request : Request) (e : Entry) (q : TurnPortState) : Type 0 where
  pub given : (e, q.recorder.world) ≡ shards_serve p.recorder.world p.core start request
  pub kept : q ≡ record p { recorder = with_access_of p.recorder p.core e q.recorder.world }
  pub asked : IsServable (base_of p.recorder.world) (size_of p.recorder.world) (l1i_of p.recorder.world) request
  pub start_is : e.start ≡ start
  pub request_is : e.request ≡ request
  pub base_stays : base_of q.recorder.world ≡ base_of p.recorder.world
  pub size_stays : size_of q.recorder.world ≡ size_of p.recorder.world
  pub l1i_stays : l1i_of q.recorder.world ≡ l1i_of p.recorder.world
  pub room : room_of p.recorder.world ≤ room_of q.recorder.world + 1
