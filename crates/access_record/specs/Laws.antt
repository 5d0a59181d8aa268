-- What bytes and records keep of accesses.
use Rattle.std.specs.Prelude.{◌≡◌, ℕ, ◌%◌, ◌<◌, ◌≤◌, List, map, nat_le}
use Rattle.std.specs.List.{AllByRecursion, filter}
use Rattle.zs_num.specs.declared.entry.Entry.{Entry}
use Rattle.access_log.specs.History.{bank_of_entry}
use Rattle.event_graph.specs.declared.access_path.AccessPath.{AccessPath}
use Rattle.event_graph.specs.EventGraph.{all_events}
use Rattle.noc_mesh.specs.NetTiming.{net_pieces, net_time}
use Rattle.access_record.specs.BankLogs.{byte_of, makes_events}
use Rattle.access_record.specs.Records.{IsInReach, MakeSameEvents, entry_of, record_of}

-- Up to 64 banks a byte tells which one it was, and whether there are events.
abbrev pub BytesTell : Type 0
BytesTell = (banks : ℕ) (e : Entry) → 0 < banks → banks ≤ 64
    → (byte_of banks e % 64 ≡ bank_of_entry banks e) × (nat_le 128 (byte_of banks e) ≡ makes_events e.outcome)

-- the access for which the record of an access stands
abbrev pub kept_of : (begin base : ℕ) → Entry → Entry
kept_of begin base e = entry_of e.core begin base (record_of begin base e)

-- It has the same core, start, line and outcome, and is a fetch if that is one.
abbrev pub RecordsStandForAccesses : Type 0
RecordsStandForAccesses = (begin base : ℕ) (e : Entry) → IsInReach begin base e → MakeSameEvents (kept_of begin base e) e

-- So it is made of the same events, and takes the same time where nothing else runs, in every machine.
abbrev pub RecordsKeepEachAccess : Type 0
RecordsKeepEachAccess = (path : AccessPath) (begin base : ℕ) (e : Entry) → IsInReach begin base e
    → (net_pieces path (kept_of begin base e) ≡ net_pieces path e) × (net_time path (kept_of begin base e) ≡ net_time path e)

-- Hits make no events: those of an interval are those of its other accesses.
abbrev pub beyond_hits : List Entry → List Entry
beyond_hits entries = filter (λ e. makes_events e.outcome) entries

abbrev pub HitsMakeNoEvents : Type 0
HitsMakeNoEvents = (path : AccessPath) (entries : List Entry) → all_events (net_pieces path) (beyond_hits entries) ≡ all_events (net_pieces path) entries

-- The events of an interval are those of the records of its accesses that make some.
abbrev pub RecordsKeepTheEvents : Type 0
RecordsKeepTheEvents = (path : AccessPath) (begin base : ℕ) (entries : List Entry) → AllByRecursion (IsInReach begin base) (beyond_hits entries)
    → all_events (net_pieces path) (map (kept_of begin base) (beyond_hits entries)) ≡ all_events (net_pieces path) entries
