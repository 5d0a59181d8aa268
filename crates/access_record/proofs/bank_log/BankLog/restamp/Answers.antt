-- A log has the same bytes, whatever the stamps.
use Rattle.std.proofs.Common.{◌≡◌, List, length, refl, sym, ◌∙◌, subst, arith}
use Rattle.zs_num.specs.declared.entry.Entry.{Entry}
use Rattle.access_record.specs.BankLogs.{BankLogState, byte_of}
use Rattle.access_record.specs.Restamped.{AreSameButStamps, list_like, lists_of_stamped}
use Rattle.access_record.proofs.Restamps.{same_holds, same_length, same_made}
use Rattle.access_record.proofs.bank_log.BankLog.restamp.Goals as goal

pub invariant_of-self : goal.invariant_of-self
invariant_of-self c =
    let l = c.self.inside in
    let kept = c.self.invariant.0 in
    let old : List Entry = l.list.entries in
    let new : List Entry = c.restamped-self-inside.result.entries in
    let lists : List (List Entry) = lists_of_stamped c.args.stamped.now in
    let asked : AreSameButStamps old (list_like lists old) = subst (λ (s : BankLogState). AreSameButStamps s.entries (list_like lists s.entries)) (sym c.self.view_is) c.requires in
    let same : AreSameButStamps old new = subst (AreSameButStamps old) (sym c.restamped-self-inside.ensures) asked in
    let long : length new ≡ length old = same_length old new same in
    let within = kept.within in (
      record {
        some = kept.some;
        few = kept.few;
        bytes_are = kept.bytes_are ∙ sym (same_made (byte_of l.banks) (λ e. refl) old new same);
        own = same_holds (λ (e : Entry). e.core ≡ l.core) (λ e is. is) (λ e is. is) old new same kept.own;
        within = omega (arith, long, within);
        short = kept.short;
      },
      c.self.invariant.1,
    )
