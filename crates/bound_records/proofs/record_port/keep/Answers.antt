use Rattle.std.proofs.Common.{◌≡◌, ◌<◌, ◌^◌, length, ap, subst, sym, arith}
use Rattle.stats.specs.declared.counts.CoreCount.{CoreCount}
use Rattle.stats.specs.CountsFit.{CoreFits}
use Rattle.stats.specs.Passes.{with_access}
use Rattle.access_record.specs.BankLogs.{makes_events}
use Rattle.access_record.specs.Laws.{beyond_hits}
use Rattle.bound_records.proofs.Counted.{more_fits}
use Rattle.bound_records.proofs.Lists.{fewer}
use Rattle.bound_records.proofs.record_port.keep.Goals as goal

pub count_access-requires : goal.count_access-requires
count_access-requires g c =
    let entries = c.args.log.now.entries in
    let most = c.banks.ensures.short in
    let within = c.requires.room in
    let short : length entries < 2 ^ 32 = omega (arith, within, most) in
    subst (λ (count : CoreCount). CoreFits (with_access count c.args.entry.now)) (sym c.requires.count) (more_fits entries c.args.entry.now short)

pub put-requires-then-makes_events-clause-room : goal.put-requires-then-makes_events-clause-room
put-requires-then-makes_events-clause-room g c =
    let entries = c.args.log.now.entries in
    let same : length c.args.records.now.entries ≡ length (beyond_hits entries) = ap length c.requires.kept in
    let few = fewer (λ e. makes_events e.outcome) entries in
    let within = c.requires.room in
    let room = c.requires.records_room in
    omega (arith, same, few, within, room)
