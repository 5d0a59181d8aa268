use Rattle.std.proofs.Common.{ℕ, ◌≡◌, Some, get_or, subst, sym}
use Rattle.std.specs.List.{slice_get}
use Rattle.access_record.specs.BankLogs.{BankLogState}
use Rattle.access_record.proofs.Walk.{some_same}
use Rattle.access_record.proofs.accesses.meet.Goals as goal

pub returns-clause-events : goal.returns-clause-events
returns-clause-events c = λ log e at there.
    c.has_events_at-events.ensures.events e
    (subst (λ (k : ℕ). slice_get c.log_at.result.now.entries (get_or c.args.met.now k 0) ≡ Some e) (sym c.from.ensures)
    (subst (λ (l : BankLogState). slice_get l.entries (get_or c.args.met.now c.args.core 0) ≡ Some e) (some_same (slice_get c.args.logs.now c.args.core) at c.log_at.ensures) there))
