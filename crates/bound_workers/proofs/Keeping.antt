-- One access more is kept of a core at work.
use Rattle.std.proofs.Common.{◌≡◌, ◌+◌, ◌-◌, ◌<◌, ◌≤◌, ℕ, List, [], ◌∷◌, ◌++◌, length, map, refl, sym, ◌∙◌, ap, subst, arith}
use Rattle.std.proofs.lemmas.List.{length-append, length-map, map-append}
use Rattle.zs_num.specs.declared.entry.Entry.{Entry}
use Rattle.zs_num.specs.declared.request.Request.{Request}
use Rattle.access_record.specs.BankLogs.{BankLogState}
use Rattle.access_record.specs.Laws.{beyond_hits}
use Rattle.access_record.specs.RecordLogs.{RecordLogState}
use Rattle.stats.specs.declared.counts.CoreCount.{CoreCount}
use Rattle.bound_records.specs.Counted.{count_of}
use Rattle.bound_records.specs.declared.record_port.CoreRecord.{CoreRecord}
use Rattle.parts_table.specs.declared.view.Made.{Made}
use Rattle.parts_table.specs.Access.{IsAccess, IsSameSeat, IsSeatOf, SeatState, TableState}
use Rattle.parts_table.specs.World.{MayAsk, world_of}
use Rattle.bound_workers.specs.Kept.{IsKeptAtWork, blank_of, entries_of_seat}
use Rattle.bound_workers.specs.Port.{IsAtTable, TablePortState}

module _ (t : TableState) (before later : SeatState) (start : ℕ) (request : Request) (e : Entry) (access : IsAccess before later start request e) where
  pub one_more_made : length later.made ≡ length before.made + 1
  one_more_made = ap length access.access.2 ∙ length-append before.made (record { entry = e; time = access.access.0; shared = access.access.1 } ∷ [])

  pub one_more_entry : entries_of_seat later ≡ entries_of_seat before ++ e ∷ []
  one_more_entry =
      ap (λ (ms : List Made). map (λ a. a.entry) ms) access.access.2 ∙ map-append (λ a. a.entry) before.made (record { entry = e; time = access.access.0; shared = access.access.1 } ∷ [])

  pub still_of : IsSeatOf t before → IsSeatOf t later
  still_of is = record {
    table = access.same.table ∙ is.table;
    opening = access.same.opening ∙ is.opening;
    cores = access.same.cores ∙ is.cores;
    banks = access.same.banks ∙ is.banks;
    room = access.same.room ∙ is.room;
  }

  module _ (log : BankLogState) (records : RecordLogState) (count : CoreCount) (kept : IsKeptAtWork t before log records count) where
    pub core_of_log : e.core ≡ log.core
    core_of_log = access.core_is ∙ sym kept.core_is

    pub room_in_log : length before.made < t.room → length log.entries < log.room
    room_in_log less =
        let size = ap length kept.entries_are ∙ length-map before.made (λ a. a.entry) in
        let room = kept.room in
        omega (arith, less, size, room)

    pub still_kept : (log_after : BankLogState) (records_after : RecordLogState) (count_after : CoreCount) → log_after ≡ record log { entries = log.entries ++ e ∷ [] }
        → records_after ≡ record records { entries = beyond_hits (log.entries ++ e ∷ []) } → count_after ≡ count_of (log.entries ++ e ∷ []) → IsKeptAtWork t later log_after records_after count_after
    still_kept log_after records_after count_after logs all counts =
        let entries : log_after.entries ≡ log.entries ++ e ∷ [] = ap (λ (l : BankLogState). l.entries) logs in
        let room : log_after.room ≡ log.room = ap (λ (l : BankLogState). l.room) logs in record {
          core_is = ap (λ (l : BankLogState). l.core) logs ∙ (kept.core_is ∙ sym access.same.core);
          some = subst (λ (n : ℕ). 0 < n) (sym (ap (λ (l : BankLogState). l.banks) logs)) kept.some;
          entries_are = entries ∙ (ap (λ (es : List Entry). es ++ e ∷ []) kept.entries_are ∙ sym one_more_entry);
          room = subst (λ (n : ℕ). t.room ≤ n) (sym room) kept.room;
          records_core = ap (λ (l : RecordLogState). l.core) all ∙ (kept.records_core ∙ sym (ap (λ (l : BankLogState). l.core) logs));
          records_are = ap (λ (l : RecordLogState). l.entries) all ∙ ap beyond_hits (sym entries);
          records_room = ap (λ (l : RecordLogState). l.room) all ∙ (kept.records_room ∙ sym room);
          count_is = counts ∙ ap count_of (sym entries);
        }

pub same_blank : (before after : CoreRecord) (es : List Entry) (fs : List Entry) → after.log ≡ record before.log { entries = es } → after.records ≡ record before.records { entries = fs } → blank_of after ≡ blank_of before
same_blank before after es fs logs all =
    ap (λ (l : BankLogState). blank_of (record after { log = l })) logs ∙ ap (λ (l : RecordLogState). blank_of (record { log = before.log; records = l; count = after.count })) all

-- ---- the port

pub ask_at : (t : TableState) (seat : SeatState) (request : Request) → IsSeatOf t seat → MayAsk t.cores t.banks (world_of t.opening) seat.core request → MayAsk seat.knows.cores seat.knows.banks (world_of seat.knows.opening) seat.core request
ask_at t seat request is may =
    subst (λ n. MayAsk n seat.knows.banks (world_of seat.knows.opening) seat.core request) (sym is.cores)
    (subst (λ n. MayAsk t.cores n (world_of seat.knows.opening) seat.core request) (sym is.banks) (subst (λ parts. MayAsk t.cores t.banks (world_of parts) seat.core request) (sym is.opening) may))

pub still_at : (p : TablePortState) (later : SeatState) (start : ℕ) (request : Request) (e : Entry) → IsAccess p.turn later start request e → IsAtTable p → length p.turn.made < p.table.room → (kept : CoreRecord)
    → kept.log ≡ record p.kept.log { entries = p.kept.log.entries ++ e ∷ [] } → kept.records ≡ record p.kept.records { entries = beyond_hits (p.kept.log.entries ++ e ∷ []) } → kept.count ≡ count_of (p.kept.log.entries ++ e ∷ [])
    → IsAtTable (record { table = p.table; base = p.base; size = p.size; turn = later; kept = kept })
still_at p later start request e access at less kept logs all counts =
    let more = one_more_made p.table p.turn later start request e access in record {
      of_table = still_of p.table p.turn later start request e access at.of_table;
      room = omega (arith, more, less);
      shards = at.shards;
      core = subst (λ (n : ℕ). n < p.table.cores) (sym access.same.core) at.core;
      is_kept = still_kept p.table p.turn later start request e access p.kept.log p.kept.records p.kept.count at.is_kept kept.log kept.records kept.count logs all counts;
    }
