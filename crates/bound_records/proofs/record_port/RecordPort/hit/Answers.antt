use Rattle.std.proofs.Common.{refl, sym, ◌∙◌, ap}
use Rattle.access_record.specs.BankLogs.{BankLogState}
use Rattle.access_record.specs.Laws.{beyond_hits}
use Rattle.access_record.specs.RecordLogs.{RecordLogState}
use Rattle.bound_records.specs.Counted.{count_of}
use Rattle.bound_records.proofs.Turns.{as_many_banks}
use Rattle.bound_records.proofs.record_port.RecordPort.hit.Goals as goal

pub invariant_of-self-2 : goal.invariant_of-self-2
invariant_of-self-2 g c =
    let port = c.self.inside.port in
    let log = c.keep.ensures.log in
    let records = c.keep.ensures.records in
    let access = c.access_alone.ensures in
    record {
      log_core = ap (λ (l : BankLogState). l.core) log ∙ (c.self.invariant.log_core ∙ sym access.same_core);
      log_banks = ap (λ (l : BankLogState). l.banks) log
          ∙ (c.self.invariant.log_banks ∙ sym (as_many_banks port.world c.access_alone.new.self.world port.core c.args.start c.args.request c.in_ok-entry.entry c.in_ok-entry.ensures.gives));
      log_entries = refl;
      log_room = refl;
      kept_core = ap (λ (k : RecordLogState). k.core) records ∙ (c.self.invariant.kept_core ∙ sym access.same_core);
      kept_begin = refl;
      kept_base = refl;
      kept_room = ap (λ (k : RecordLogState). k.room) records ∙ (c.self.invariant.kept_room ∙ sym (ap (λ (l : BankLogState). l.room) log));
      kept_entries = ap (λ (k : RecordLogState). k.entries) records ∙ sym (ap (λ (l : BankLogState). beyond_hits l.entries) log);
      count_is = c.keep.ensures.count ∙ sym (ap (λ (l : BankLogState). count_of l.entries) log);
    }
