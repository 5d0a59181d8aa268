-- A log has the same records, whatever the stamps.
use Rattle.std.proofs.Common.{◌≡◌, List, length, refl, sym, ◌∙◌, ap, subst, arith}
use Rattle.zs_num.specs.declared.entry.Entry.{Entry}
use Rattle.access_record.specs.BankLogs.{BankLogState}
use Rattle.access_record.specs.Laws.{beyond_hits}
use Rattle.access_record.specs.RecordLogs.{RecordLogState}
use Rattle.access_record.specs.Records.{record_of}
use Rattle.access_record.specs.Restamped.{AreSameButStamps}
use Rattle.access_record.proofs.Restamps.{same_holds, same_length, same_made}
use Rattle.access_record.proofs.record_log.RecordLog.restamp.Goals as goal

pub invariant_of-self : goal.invariant_of-self
invariant_of-self c =
    let l = c.self.inside in
    let kept = c.self.invariant.0 in
    let old : List Entry = l.list.entries in
    let new : List Entry = c.beyond_hits_of-self-inside.result.entries in
    let asked : AreSameButStamps old (beyond_hits c.args.log.now.entries) = subst (λ (s : RecordLogState). AreSameButStamps s.entries (beyond_hits c.args.log.now.entries)) (sym c.self.view_is) c.requires in
    let is : new ≡ beyond_hits c.args.log.now.entries = c.beyond_hits_of-self-inside.ensures ∙ ap (λ (s : BankLogState). beyond_hits s.entries) c.log.view_is in
    let same : AreSameButStamps old new = subst (AreSameButStamps old) (sym is) asked in
    let long : length new ≡ length old = same_length old new same in
    let within = kept.within in (
      record {
        records_are = kept.records_are ∙ sym (same_made (record_of l.begin l.base) (λ e. refl) old new same);
        own = same_holds (λ (e : Entry). e.core ≡ l.core) (λ e is. is) (λ e is. is) old new same kept.own;
        within = omega (arith, long, within);
        short = kept.short;
        early = kept.early;
        low = kept.low;
      },
      c.self.invariant.1,
    )
