-- The byte at a place is that of the entry there.
use Rattle.std.proofs.Common.{◌≡◌, ◌^◌, ◌<◌, ◌%◌, ◌∙◌, ℕ, All, get_or, length, ap, subst, arith}
use Rattle.std.specs.List.{slice_get}
use Rattle.access_log.specs.History.{bank_of_entry}
use Rattle.access_record.specs.BankLogs.{BankLogState}
use Rattle.access_record.proofs.Walk.{byte_at}
use Rattle.access_record.proofs.Steps.{bank_back}
use Rattle.access_record.proofs.bank_log.BankLog.bank_at.Goals as goal

pub returns-clause-bank : goal.returns-clause-bank
returns-clause-bank c = λ e at.
    let l = c.self.inside in
    let byte = c.index.result.now in
    let is : byte ≡ get_or l.bytes.items c.args.place byte = c.index.ensures in
    let there = ap (λ (s : BankLogState). slice_get s.entries c.args.place) c.self.view_is ∙ at in
    c.bank_of_byte.ensures ∙ (ap (λ (b : ℕ). b % 64) (is ∙ byte_at l.banks l.list.entries l.bytes.items c.args.place byte e c.self.invariant.0.bytes_are there) ∙ (bank_back l.banks e c.self.invariant.0.some c.self.invariant.0.few
    ∙ ap (λ (s : BankLogState). bank_of_entry s.banks e) c.self.view_is))

pub returns-clause-own : goal.returns-clause-own
returns-clause-own c = subst (λ (s : BankLogState). All (λ e. e.core ≡ s.core) s.entries) c.self.view_is c.self.invariant.0.own

pub returns-clause-few : goal.returns-clause-few
returns-clause-few c =
    let here : length c.self.inside.list.entries < 2 ^ 32 = (let h = c.self.invariant.0.within in omega (arith, c.self.invariant.0.short)) in
    subst (λ (s : BankLogState). length s.entries < 2 ^ 32) c.self.view_is here
