use Rattle.std.proofs.Common.{ℕ, ◌≡◌, Some, get_or, map, subst}
use Rattle.std.specs.List.{slice_get}
use Rattle.access_record.specs.Laws.{kept_of}
use Rattle.access_record.specs.RecordLogs.{RecordLogState}
use Rattle.access_record.proofs.Walk.{some_same}
use Rattle.access_record.proofs.accesses.take.Goals as goal

pub returns-clause-entry : goal.returns-clause-entry
returns-clause-entry c = λ log at.
    subst (λ (l : RecordLogState). slice_get (map (kept_of l.begin l.base) l.entries) (get_or c.args.taken.now c.args.core 0) ≡ Some c.entry-entry.result) (some_same (slice_get c.args.records.now c.args.core) c.records_at.ensures at)
    (subst (λ (k : ℕ). slice_get (map (kept_of c.records_at.result.now.begin c.records_at.result.now.base) c.records_at.result.now.entries) (get_or c.args.taken.now k 0) ≡ Some c.entry-entry.result) c.from.ensures c.entry-entry.ensures.entry)
