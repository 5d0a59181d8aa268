use Rattle.std.proofs.Common.{◌≡◌, ◌<◌, List, get_or, length, sym, ◌∙◌, subst, arith}
use Rattle.std.proofs.lemmas.List.{get_or_default}
use Rattle.std.proofs.lemmas.Option.{slice_get-get_or}
use Rattle.access_record.specs.BankLogs.{BankLogState}
use Rattle.access_record.specs.Restamped.{AreSameButStamps, list_like, lists_of_stamped}
use Rattle.bound_records.specs.Recorders.{no_log}
use Rattle.bound_records.proofs.Lists.{by_index}
use Rattle.bound_records.proofs.TakenApart.{stamped_by_lists}
use Rattle.bound_records.proofs.apart.restamp_logs.Goals as goal

pub restamp-requires : goal.restamp-requires
restamp-requires c =
    let i = c.loop-log.log-index in
    let logs : List BankLogState = c.loop-log.logs in
    let first : List BankLogState = c.args.logs.now in
    let within : i < length first = c.loop-log-test.true in
    let long : length logs ≡ length first = c.loop-log.auto.logs in
    let log : BankLogState = get_or first i (no_log 1 0 0) in
    let same : get_or logs i c.log-item.result ≡ log =
    get_or_default logs i c.log-item.result (no_log 1 0 0) (omega (arith, within, long)) ∙ c.loop-log.invariant.rest i (omega arith)
    in
    subst (λ (x : BankLogState). AreSameButStamps x.entries (list_like (lists_of_stamped c.args.stamped.now) x.entries)) (sym same) (c.requires i log (slice_get-get_or first i (no_log 1 0 0) within))

pub returns : goal.returns
returns c = by_index (stamped_by_lists (lists_of_stamped c.args.stamped.now)) c.args.logs.now _ (no_log 1 0 0) c.loop-log.auto.logs (λ i below. c.loop-log.invariant.done i (omega (arith, below, c.loop-log-test.false)))
