-- What a recorder is made of.
use Rattle.std.specs.Prelude.{◌≡◌, ℕ, ◌<◌, ◌≤◌, ◌^◌, List, length, map, slice_get, Some}
use Rattle.zs_num.specs.declared.entry.Entry.{Entry}
use Rattle.access_log.specs.History.{of_core}
use Rattle.access_record.specs.Laws.{beyond_hits}
use Rattle.access_record.specs.Restamped.{stamped_lists}
use Rattle.access_record.specs.Turns.{in_turns}
use Rattle.stats.specs.Counted.{no_core_count}
use Rattle.bound_core.specs.ShardWorld.{begun_world, restarted}
use Rattle.bound_records.specs.Counted.{count_of}
use Rattle.bound_records.specs.Recorders.{RecorderState, no_log, no_records}
use Rattle.bound_records.specs.declared.apart.RecorderParts.{RecorderParts}
use Rattle.bound_records.specs.declared.record_port.CoreRecord.{CoreRecord}

-- what is kept of a core before its first access in an interval
abbrev pub new_record : (banks begin base room core : ℕ) → CoreRecord
new_record banks begin base room core = record {
  log = no_log banks room core;
  records = record (no_records base room core) { begin = begin };
  count = no_core_count;
}

-- The parts of a recorder before the first access of an interval that begins then.
pub record AreNewPartsOf (r : RecorderState) (begin : ℕ) (p : RecorderParts) : Type 0 where
  pub world : p.port.world ≡ begun_world (length r.world.stamps) (map restarted r.world.shards)
  pub banks_are : p.banks ≡ length r.world.shards
  pub some_banks : 0 < p.banks
  pub count : length p.records.items ≡ length r.lists
  pub few : length r.lists ≤ 256
  pub stamps : length r.world.stamps ≡ length r.lists
  pub each : (core : ℕ) (kept : CoreRecord) → slice_get p.records.items core ≡ Some kept → kept ≡ new_record p.banks begin r.base r.room core
  pub begin_is : p.begin ≡ begin
  pub base_is : p.base ≡ r.base
  pub low : p.base < 2 ^ 63
  pub room_is : p.room ≡ r.room

-- ---- parts that a recorder can be made of

-- the accesses of each core, in its order
abbrev pub lists_in : List CoreRecord → List (List Entry)
lists_in records = map (λ kept. kept.log.entries) records

-- this is kept of the core of this number
pub record IsKeptIn (p : RecorderParts) (core : ℕ) (kept : CoreRecord) : Type 0 where
  pub log_core : kept.log.core ≡ core
  pub log_banks : kept.log.banks ≡ p.banks
  pub log_room : kept.log.room ≡ p.room
  pub records_core : kept.records.core ≡ core
  pub records_begin : kept.records.begin ≡ p.begin
  pub records_base : kept.records.base ≡ p.base
  pub records_room : kept.records.room ≡ p.room
  pub records_are : kept.records.entries ≡ beyond_hits kept.log.entries
  pub count_is : kept.count ≡ count_of kept.log.entries

pub record AreRecorderParts (p : RecorderParts) : Type 0 where
  pub stamps : length p.port.world.stamps ≡ length p.records.items
  pub banks_are : p.banks ≡ length p.port.world.shards
  pub some_banks : 0 < p.banks
  pub few : length p.records.items ≤ 256
  pub low : p.base < 2 ^ 63
  pub each : (core : ℕ) (kept : CoreRecord) → slice_get p.records.items core ≡ Some kept → IsKeptIn p core kept

-- the turns took the accesses: each core has its own, in its order
abbrev pub AreTurnsOfLists : (turns : List ℕ) → List (List Entry) → Type 0
AreTurnsOfLists turns lists = (core : ℕ) (entries : List Entry) → slice_get lists core ≡ Some entries → of_core core (in_turns turns lists) ≡ entries

-- the recorder of these parts, whose accesses have the stamps that follow in the order of the turns
abbrev pub recorder_of : RecorderParts → (turns : List ℕ) → RecorderState
recorder_of p turns = record {
  world = p.port.world;
  lists = stamped_lists p.banks turns (lists_in p.records.items);
  begin = p.begin;
  base = p.base;
  room = p.room;
}
