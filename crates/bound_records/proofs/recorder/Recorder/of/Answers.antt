use Rattle.std.proofs.Common.{◌≡◌, ℕ, Vec, Global, List, length, map, sym, ◌∙◌, ap, subst, arith}
use Rattle.std.specs.Prelude.{slice_get}
use Rattle.std.specs.Vec.{with_items}
use Rattle.std.proofs.lemmas.List.{length-map, with_items_is}
use Rattle.zs_num.specs.declared.entry.Entry.{Entry}
use Rattle.access_record.specs.BankLogs.{BankLogState}
use Rattle.access_record.specs.RecordLogs.{RecordLogState}
use Rattle.access_record.specs.Restamped.{AreSameButStamps, list_like, lists_of_stamped, stamped_lists}
use Rattle.stats.specs.declared.counts.CoreCount.{CoreCount}
use Rattle.bound_records.specs.Apart.{lists_in}
use Rattle.bound_records.specs.Recorders.{AreKeptOf, RecorderState}
use Rattle.bound_records.specs.declared.apart.RecorderParts.{RecorderParts}
use Rattle.bound_records.specs.declared.record_port.CoreRecord.{CoreRecord}
use Rattle.bound_records.proofs.ByCore.{entries_by_log}
use Rattle.bound_records.proofs.TakenApart.{can_stamp, can_stamp_records, recorder_is, recorder_kept, stamped_are, stamped_by_lists}
use Rattle.bound_records.proofs.recorder.Recorder.of.Goals as goal
use Rattle.bound_records.proofs.recorder.Recorder.of.Goals.{After-deref_mut-2}

pub restamp_logs-requires : goal.restamp_logs-requires
restamp_logs-requires c = λ i log here.
    let p : RecorderParts = c.args.parts in
    let turns : List ℕ = c.args.turns.now.items in
    let logs = c.fill.ensures.logs in
    let lists : lists_of_stamped c.of.result ≡ stamped_lists p.banks turns (lists_in p.records.items) =
    stamped_are c.of.result p turns c.fill.new.self.logs.items c.of.ensures.banks (ap (λ (v : Vec ℕ Global). v.items) c.of.ensures.turns) (ap (λ (v : Vec BankLogState Global). v.items) c.of.ensures.logs) logs
    in
    subst (λ (ls : List (List Entry)). AreSameButStamps log.entries (list_like ls log.entries)) (sym lists)
    (can_stamp p turns c.requires.parts c.requires.turns i log (ap (λ (ls : List BankLogState). slice_get ls i) (sym (c.deref_mut.ensures.value ∙ logs)) ∙ here))

-- the logs with their stamps, and the records
logs_are : (c : goal.After-deref_mut-2) → (with_items c.fill.new.self.logs c.restamp_logs.new.logs).items ≡ map (stamped_by_lists (stamped_lists c.args.parts.banks c.args.turns.now.items (lists_in c.args.parts.records.items))) (map (λ k. k.log) c.args.parts.records.items)
logs_are c =
    let p : RecorderParts = c.args.parts in
    let turns : List ℕ = c.args.turns.now.items in
    let logs = c.fill.ensures.logs in
    let lists : lists_of_stamped c.of.result ≡ stamped_lists p.banks turns (lists_in p.records.items) =
    stamped_are c.of.result p turns c.fill.new.self.logs.items c.of.ensures.banks (ap (λ (v : Vec ℕ Global). v.items) c.of.ensures.turns) (ap (λ (v : Vec BankLogState Global). v.items) c.of.ensures.logs) logs
    in
    let now = c.deref_mut.ensures.value in
    let stamped = c.restamp_logs.ensures in
    let a = ap length stamped in
    let b = length-map c.deref_mut.result.now (stamped_by_lists (lists_of_stamped c.of.result)) in
    let d = ap length now in
    let e = c.fill.new.self.logs.ok.0 in
    with_items_is c.fill.new.self.logs c.restamp_logs.new.logs (omega (arith, a, b, d, e))
    ∙ (stamped
    ∙ (ap (map (stamped_by_lists (lists_of_stamped c.of.result))) (now ∙ logs)
    ∙ ap (λ (ls : List (List Entry)). map (stamped_by_lists ls) (map (λ k. k.log) p.records.items)) lists))

pub restamp_records-requires-clause-same : goal.restamp_records-requires-clause-same
restamp_records-requires-clause-same c = λ i log kept here there.
    can_stamp_records c.args.parts c.args.turns.now.items c.requires.parts c.requires.turns i log kept
    (ap (λ (ls : List BankLogState). slice_get ls i) (sym (c.deref.ensures.value ∙ logs_are c)) ∙ here)
    (ap (λ (ks : List RecordLogState). slice_get ks i) (sym (c.deref_mut-2.ensures.value ∙ c.fill.ensures.records)) ∙ there)

pub invariant_of-result : goal.invariant_of-result
invariant_of-result c =
    let p : RecorderParts = c.args.parts in
    let turns : List ℕ = c.args.turns.now.items in
    let kept : List CoreRecord = p.records.items in
    let stamped : List BankLogState = map (stamped_by_lists (stamped_lists p.banks turns (lists_in kept))) (map (λ k. k.log) kept) in
    let logs : (with_items c.fill.new.self.logs c.restamp_logs.new.logs).items ≡ stamped = logs_are (goal.at.invariant_of-result c).After-deref_mut-2 in
    let before : c.deref_mut-2.result.now ≡ map (λ k. k.records) kept = c.deref_mut-2.ensures.value ∙ c.fill.ensures.records in
    let many = c.restamp_records.ensures.many in
    let long = ap length c.deref_mut-2.ensures.value in
    let len = c.fill.new.self.records.ok.0 in
    let records : (with_items c.fill.new.self.records c.restamp_records.new.records).items ≡ c.restamp_records.new.records = with_items_is c.fill.new.self.records c.restamp_records.new.records (omega (arith, many, long, len)) in
    let all = recorder_kept p turns c.requires.parts c.requires.turns c.restamp_records.new.records (many ∙ ap length before)
    (λ i log rec here there. c.restamp_records.ensures.each i log rec
    (ap (λ (ls : List BankLogState). slice_get ls i) (c.deref.ensures.value ∙ logs) ∙ here) (ap (λ (ks : List RecordLogState). slice_get ks i) before ∙ there))
    in
    let At : (ls : List BankLogState) (ks : List RecordLogState) (ns : List CoreCount) → Type 0 = λ ls ks ns.
    AreKeptOf (record { world = p.port.world; lists = entries_by_log ls; begin = p.begin; base = p.base; room = p.room }) p.banks ls ks ns
    in
    subst (λ (ls : List BankLogState). At ls (with_items c.fill.new.self.records c.restamp_records.new.records).items c.fill.new.self.counts.items) (sym logs)
    (subst (λ (ks : List RecordLogState). At stamped ks c.fill.new.self.counts.items) (sym records)
    (subst (λ (ns : List CoreCount). At stamped c.restamp_records.new.records ns) (sym c.fill.ensures.counts) all))

pub returns : goal.returns
returns c =
    let p : RecorderParts = c.args.parts in
    let turns : List ℕ = c.args.turns.now.items in
    ap (λ (ls : List BankLogState). let r : RecorderState = record { world = p.port.world; lists = entries_by_log ls; begin = p.begin; base = p.base; room = p.room } in r) (logs_are (goal.at.returns c).After-deref_mut-2)
    ∙ recorder_is p turns c.requires.parts c.requires.turns
