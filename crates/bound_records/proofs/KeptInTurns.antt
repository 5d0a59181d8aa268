-- What a port of turns keeps of the core whose turn it is.
use Rattle.std.proofs.Common.{◌≡◌, ℕ, ◌+◌, ◌-◌, ◌<◌, ◌≤◌, ◌++◌, ◌∷◌, [], List, length, Some, min, get_or, sym, ◌∙◌, ap, arith}
use Rattle.std.specs.Prelude.{slice_set}
use Rattle.std.specs.Option.{option_map_or}
use Rattle.std.proofs.lemmas.List.{length-append}
use Rattle.std.proofs.lemmas.Option.{slice_get-get_or}
use Rattle.zs_num.specs.declared.entry.Entry.{Entry}
use Rattle.access_record.specs.BankLogs.{BankLogState}
use Rattle.access_record.specs.RecordLogs.{RecordLogState}
use Rattle.stats.specs.declared.counts.CoreCount.{CoreCount}
use Rattle.bound_core.specs.ShardPort.{room_of}
use Rattle.bound_core.specs.ShardWorld.{ShardWorld}
use Rattle.reference.proofs.Lists.{get_set}
use Rattle.weave_chains.specs.Listed.{list_of}
use Rattle.bound_records.specs.Recorders.{AreKeptOf, IsKeptOf, RecorderState, TurnPortState, with_access_of}
use Rattle.bound_records.proofs.Lists.{has_at}

-- what is kept of the core that is chosen
pub own : {r : RecorderState} {banks : ℕ} {logs : List BankLogState} {records : List RecordLogState} {counts : List CoreCount} {core n : ℕ} {log : BankLogState} {kept : RecordLogState} {count : CoreCount}
    → AreKeptOf r banks logs records counts × (core < length r.world.stamps) → n ≡ core → log ≡ get_or logs n log → kept ≡ get_or records n kept → count ≡ get_or counts n count → IsKeptOf r n log kept count
own {logs = logs} {records = records} {counts = counts} {n = n} {log = log} {kept = kept} {count = count} known same log_is kept_is count_is =
    let k = known.0 in
    let stamps = k.stamps in
    let many = k.records_many in
    let as_many = k.counts_many in
    let there = known.1 in
    let below : n < length logs = omega (arith, same, there, stamps) in
    k.each n log kept count (slice_get-get_or logs n log below ∙ ap (λ (x : BankLogState). Some x) (sym log_is))
    (slice_get-get_or records n kept (omega (arith, below, many)) ∙ ap (λ (x : RecordLogState). Some x) (sym kept_is))
    (slice_get-get_or counts n count (omega (arith, below, as_many)) ∙ ap (λ (x : CoreCount). Some x) (sym count_is))

-- caches and memory after an access have as many shards and stamps
pub over_world : {r : RecorderState} {banks : ℕ} {logs : List BankLogState} {records : List RecordLogState} {counts : List CoreCount} (world : ShardWorld) → length world.stamps ≡ length r.world.stamps → length world.shards ≡ length r.world.shards
    → AreKeptOf r banks logs records counts → AreKeptOf (record r { world = world }) banks logs records counts
over_world world stamps shards k = record {
  stamps = stamps ∙ k.stamps;
  banks_are = k.banks_are ∙ sym shards;
  some_banks = k.some_banks;
  few = k.few;
  records_many = k.records_many;
  counts_many = k.counts_many;
  base = k.base;
  each = λ i log kept count here there counted.
      let is = k.each i log kept count here there counted in
      record {
        log_core = is.log_core;
        log_banks = is.log_banks ∙ sym shards;
        log_room = is.log_room;
        kept_core = is.kept_core;
        kept_begin = is.kept_begin;
        kept_base = is.kept_base;
        kept_room = is.kept_room;
        kept_entries = is.kept_entries;
        count_is = is.count_is;
      };
}

-- for how many accesses there is room at least
abbrev pub room_in : TurnPortState → ℕ
room_in p = min (room_of p.recorder.world) (p.recorder.room - length (list_of p.recorder.lists p.core))

-- an access more takes the room of one
pub room_less : (p : TurnPortState) (world : ShardWorld) (core : ℕ) (e : Entry) (q : TurnPortState) → p.core < length p.recorder.lists → core ≡ p.core → room_of p.recorder.world ≤ room_of world + 1
    → q ≡ record { recorder = with_access_of (record p.recorder { world = world }) core e world; core = core } → room_in p ≤ room_in q + 1
room_less p world core e q below same less is =
    let lists = p.recorder.lists in
    let list : List Entry = list_of lists p.core ++ e ∷ [] in
    let there = has_at lists p.core below in
    let after : list_of (slice_set lists p.core list) p.core ≡ list = ap (λ o. option_map_or (λ (es : List Entry). es) o []) (get_set lists p.core there.0 list there.1) in
    let long = ap length after in
    let longer = length-append (list_of lists p.core) (e ∷ []) in
    let all : q ≡ record { recorder = with_access_of (record p.recorder { world = world }) p.core e world; core = p.core } =
    is ∙ ap (λ (n : ℕ). let x : TurnPortState = record { recorder = with_access_of (record p.recorder { world = world }) n e world; core = n } in x) same
    in
    let room : room_in q ≡ min (room_of world) (p.recorder.room - length (list_of (slice_set lists p.core list) p.core)) = ap room_in all in
    omega (arith, less, long, longer, room)
