-- The record at a place is that of the entry there, and the core is that of all.
use Rattle.std.proofs.Common.{◌≡◌, ◌^◌, ◌<◌, ◌∙◌, List, Some, length, map, get_or, ap, subst, sym, arith}
use Rattle.std.specs.List.{slice_get}
use Rattle.zs_num.specs.declared.entry.Entry.{Entry}
use Rattle.access_record.specs.Laws.{kept_of}
use Rattle.access_record.specs.RecordLogs.{RecordLogState}
use Rattle.access_record.specs.Records.{RecordState, record_of}
use Rattle.access_record.proofs.Kept.{kept_at}
use Rattle.access_record.proofs.record_log.RecordLog.entry.Goals as goal

pub returns-clause-entry : goal.returns-clause-entry
returns-clause-entry c =
    let l = c.self.inside in
    let r : RecordState = c.index.result.now in
    let within : c.args.place < length l.list.entries = subst (λ (s : RecordLogState). c.args.place < length s.entries) (sym c.self.view_is) c.requires in
    let is : r ≡ get_or l.records.items c.args.place r = c.index.ensures in
    let there : r ≡ get_or (map (record_of l.begin l.base) l.list.entries) c.args.place r = subst (λ (rs : List RecordState). r ≡ get_or rs c.args.place r) c.self.invariant.0.records_are is in
    let at = kept_at l.core l.begin l.base l.list.entries c.args.place r c.self.invariant.0.own within there in
    subst (λ (s : RecordLogState). slice_get (map (kept_of s.begin s.base) s.entries) c.args.place ≡ Some c.entry.result) c.self.view_is
    (at ∙ ap (λ (e : Entry). Some e) (sym c.entry.ensures))

pub returns-clause-few : goal.returns-clause-few
returns-clause-few c =
    let here : length c.self.inside.list.entries < 2 ^ 32 = (let h = c.self.invariant.0.within in omega (arith, c.self.invariant.0.short)) in
    subst (λ (s : RecordLogState). length s.entries < 2 ^ 32) c.self.view_is here
