-- The byte at a place is that of the entry there.
use Rattle.std.proofs.Common.{◌≡◌, ◌^◌, ◌<◌, ◌∙◌, get_or, leb, length, ap, subst, arith}
use Rattle.std.specs.List.{slice_get}
use Rattle.access_record.specs.BankLogs.{BankLogState}
use Rattle.access_record.proofs.Walk.{byte_at}
use Rattle.access_record.proofs.Steps.{events_back}
use Rattle.access_record.proofs.bank_log.BankLog.has_events_at.Goals as goal

pub returns-clause-events : goal.returns-clause-events
returns-clause-events c = λ e at.
    let l = c.self.inside in
    let byte = c.index.result.now in
    let is : byte ≡ get_or l.bytes.items c.args.place byte = c.index.ensures in
    let there = ap (λ (s : BankLogState). slice_get s.entries c.args.place) c.self.view_is ∙ at in
    c.has_events.ensures ∙ (ap (leb 128) (is ∙ byte_at l.banks l.list.entries l.bytes.items c.args.place byte e c.self.invariant.0.bytes_are there) ∙ events_back l.banks e c.self.invariant.0.some c.self.invariant.0.few)

pub returns-clause-few : goal.returns-clause-few
returns-clause-few c =
    let here : length c.self.inside.list.entries < 2 ^ 32 = (let h = c.self.invariant.0.within in omega (arith, c.self.invariant.0.short)) in
    subst (λ (s : BankLogState). length s.entries < 2 ^ 32) c.self.view_is here
