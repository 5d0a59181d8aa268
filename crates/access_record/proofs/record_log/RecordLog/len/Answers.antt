-- There is a record for each entry, and room for as many as fit in 32 bits.
use Rattle.std.proofs.Common.{◌≡◌, ◌∙◌, length, ap, arith}
use Rattle.std.proofs.lemmas.List.{length-map}
use Rattle.access_record.specs.RecordLogs.{RecordLogState}
use Rattle.access_record.specs.Records.{record_of}
use Rattle.access_record.proofs.record_log.RecordLog.len.Goals as goal

as_many : (c : goal.After-len) → length c.self.inside.records.items ≡ length c.self.inside.list.entries
as_many c = ap length c.self.invariant.0.records_are ∙ length-map c.self.inside.list.entries (record_of c.self.inside.begin c.self.inside.base)

pub overflow_cast-result : goal.overflow_cast-result
overflow_cast-result c = let h = as_many c in let k = c.self.invariant.0.within in omega (arith, c.self.invariant.0.short)

pub returns : goal.returns
returns c = let h = as_many c in let k : length c.self.inside.list.entries ≡ length c.args.self.now.entries = ap (λ (l : RecordLogState). length l.entries) c.self.view_is in omega arith
