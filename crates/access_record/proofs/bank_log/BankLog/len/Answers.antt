-- There is a byte for each entry, and room for as many as fit in 32 bits.
use Rattle.std.proofs.Common.{◌≡◌, ◌∙◌, length, All, ap, subst, arith}
use Rattle.std.proofs.lemmas.List.{length-map}
use Rattle.access_record.specs.BankLogs.{BankLogState, byte_of}
use Rattle.access_record.proofs.bank_log.BankLog.len.Goals as goal

as_many : (c : goal.After-len) → length c.self.inside.bytes.items ≡ length c.self.inside.list.entries
as_many c = ap length c.self.invariant.0.bytes_are ∙ length-map c.self.inside.list.entries (byte_of c.self.inside.banks)

pub overflow_cast-result : goal.overflow_cast-result
overflow_cast-result c = let h = as_many c in let k = c.self.invariant.0.within in omega (arith, c.self.invariant.0.short)

pub returns : goal.returns
returns c = record {
  count = (let h = as_many c in let k : length c.self.inside.list.entries ≡ length c.args.self.now.entries = ap (λ (l : BankLogState). length l.entries) c.self.view_is in omega arith);
  own = subst (λ (l : BankLogState). All (λ e. e.core ≡ l.core) l.entries) c.self.view_is c.self.invariant.0.own;
}
