use Rattle.std.proofs.Common.{◌≡◌, ◌<◌, ◌^◌, List, length, map, refl, sym, ◌∙◌, ap, subst}
use Rattle.std.specs.Prelude.{IfOk}
use Rattle.zs_num.specs.declared.entry.Entry.{Entry}
use Rattle.access_log.specs.History.{AreStamped}
use Rattle.access_log.specs.RecordedOrder.{no_stamps, recorded_order}
use Rattle.access_record.specs.BankLogs.{BankLogState}
use Rattle.access_record.specs.Laws.{beyond_hits, kept_of}
use Rattle.access_record.specs.RecordLogs.{RecordLogState}
use Rattle.access_record.specs.RecordedAccesses.{AreRecordsOf}
use Rattle.access_record.specs.Turns.{AreTurnsOf, taken_of}
use Rattle.bound_records.specs.Recorders.{AreTakenIn, RecorderState, entries_of, recorded_kept, taken_in}
use Rattle.bound_records.proofs.ByCore.{are_records, are_turns, entries_by_log, few_logs, stamped_logs, taken_logs}
use Rattle.bound_records.proofs.InOrder.{same_recorded}
use Rattle.bound_records.proofs.recorder.Recorder.recorded_accesses.Goals as goal

pub recorded_accesses-requires-clause-some : goal.recorded_accesses-requires-clause-some
recorded_accesses-requires-clause-some c = c.self.invariant.some_banks

pub recorded_accesses-requires-clause-turns : goal.recorded_accesses-requires-clause-turns
recorded_accesses-requires-clause-turns c =
    let r : RecorderState = record { world = c.self.inside.port.world; lists = entries_by_log c.self.inside.logs.items; begin = c.self.inside.begin; base = c.self.inside.base; room = c.self.inside.room } in
    let banks = c.self.inside.banks in
    let logs = c.self.inside.logs.items in
    let records = c.self.inside.records.items in
    let counts = c.self.inside.counts.items in
    let taken : AreTakenIn (c.args.turns) r = subst (AreTakenIn c.args.turns) (sym c.self.view_is) c.requires.turns in
    subst (AreTurnsOf (c.args.turns)) (sym c.deref.ensures.value) (are_turns r banks logs records counts c.self.invariant refl (c.args.turns) taken)

pub recorded_accesses-requires-clause-cores : goal.recorded_accesses-requires-clause-cores
recorded_accesses-requires-clause-cores c =
    let r : RecorderState = record { world = c.self.inside.port.world; lists = entries_by_log c.self.inside.logs.items; begin = c.self.inside.begin; base = c.self.inside.base; room = c.self.inside.room } in
    let banks = c.self.inside.banks in
    let logs = c.self.inside.logs.items in
    let records = c.self.inside.records.items in
    let counts = c.self.inside.counts.items in
    let t : AreTakenIn c.args.turns r = subst (AreTakenIn c.args.turns) (sym c.self.view_is) c.requires.turns in
    let order : recorded_order (entries_of r) ≡ recorded_order (taken_in c.args.turns r) =
    same_recorded (taken_in c.args.turns r) r.lists t.stamped.own t.stamped.known (length r.world.shards) t.stamped.some t.stamped.stamped c.stamps_rise.ensures c.cores_decide_the_order.ensures
    in
    let same : recorded_order (taken_of c.args.turns c.deref.result.now) ≡ recorded_order (entries_of r) =
    ap (λ (ls : List BankLogState). recorded_order (taken_of c.args.turns ls)) c.deref.ensures.value ∙ (ap recorded_order (taken_logs r banks logs records counts c.self.invariant refl c.args.turns) ∙ sym order)
    in
    c.requires.cores ∙ (ap (λ (x : RecorderState). map (λ (e : Entry). e.core) (recorded_order (entries_of x))) (sym c.self.view_is) ∙ ap (map (λ (e : Entry). e.core)) (sym same))

pub recorded_accesses-requires-clause-few : goal.recorded_accesses-requires-clause-few
recorded_accesses-requires-clause-few c =
    let r : RecorderState = record { world = c.self.inside.port.world; lists = entries_by_log c.self.inside.logs.items; begin = c.self.inside.begin; base = c.self.inside.base; room = c.self.inside.room } in
    let banks = c.self.inside.banks in
    let logs = c.self.inside.logs.items in
    let records = c.self.inside.records.items in
    let counts = c.self.inside.counts.items in
    let taken : AreTakenIn (c.args.turns) r = subst (AreTakenIn c.args.turns) (sym c.self.view_is) c.requires.turns in
    let are : c.deref.result.now ≡ logs = c.deref.ensures.value in
    subst (λ (ls : List BankLogState). length (taken_of (c.args.turns) ls) < 2 ^ 32) (sym are) (few_logs r banks logs records counts c.self.invariant refl (c.args.turns) taken)

pub recorded_accesses-requires-clause-stamped : goal.recorded_accesses-requires-clause-stamped
recorded_accesses-requires-clause-stamped c =
    let r : RecorderState = record { world = c.self.inside.port.world; lists = entries_by_log c.self.inside.logs.items; begin = c.self.inside.begin; base = c.self.inside.base; room = c.self.inside.room } in
    let banks = c.self.inside.banks in
    let logs = c.self.inside.logs.items in
    let records = c.self.inside.records.items in
    let counts = c.self.inside.counts.items in
    let taken : AreTakenIn (c.args.turns) r = subst (AreTakenIn c.args.turns) (sym c.self.view_is) c.requires.turns in
    let are : c.deref.result.now ≡ logs = c.deref.ensures.value in
    subst (λ (ls : List BankLogState). AreStamped banks (no_stamps banks (length ls)) (taken_of (c.args.turns) ls)) (sym are) (stamped_logs r banks logs records counts c.self.invariant refl (c.args.turns) taken)

pub recorded_accesses-requires-clause-records : goal.recorded_accesses-requires-clause-records
recorded_accesses-requires-clause-records c =
    let r : RecorderState = record { world = c.self.inside.port.world; lists = entries_by_log c.self.inside.logs.items; begin = c.self.inside.begin; base = c.self.inside.base; room = c.self.inside.room } in
    let banks = c.self.inside.banks in
    let logs = c.self.inside.logs.items in
    let records = c.self.inside.records.items in
    let counts = c.self.inside.counts.items in
    subst (λ (ls : List BankLogState). AreRecordsOf r.begin r.base ls c.deref-2.result.now) (sym c.deref.ensures.value)
    (subst (λ (ks : List RecordLogState). AreRecordsOf r.begin r.base logs ks) (sym c.deref-2.ensures.value) (are_records r banks logs records counts c.self.invariant refl))

pub returns : goal.returns
returns c =
    let r : RecorderState = record { world = c.self.inside.port.world; lists = entries_by_log c.self.inside.logs.items; begin = c.self.inside.begin; base = c.self.inside.base; room = c.self.inside.room } in
    let banks = c.self.inside.banks in
    let logs = c.self.inside.logs.items in
    let records = c.self.inside.records.items in
    let counts = c.self.inside.counts.items in
    let t : AreTakenIn c.args.turns r = subst (AreTakenIn c.args.turns) (sym c.self.view_is) c.requires.turns in
    let order : recorded_order (entries_of r) ≡ recorded_order (taken_in c.args.turns r) =
    same_recorded (taken_in c.args.turns r) r.lists t.stamped.own t.stamped.known (length r.world.shards) t.stamped.some t.stamped.stamped c.stamps_rise.ensures c.cores_decide_the_order.ensures
    in
    let same : recorded_order (taken_of c.args.turns c.deref.result.now) ≡ recorded_order (entries_of r) =
    ap (λ (ls : List BankLogState). recorded_order (taken_of c.args.turns ls)) c.deref.ensures.value ∙ (ap recorded_order (taken_logs r banks logs records counts c.self.invariant refl c.args.turns) ∙ sym order)
    in
    subst (λ (x : RecorderState). IfOk c.recorded_accesses.result (λ list. list.items ≡ recorded_kept x)) c.self.view_is
    (subst (λ (es : List Entry). IfOk c.recorded_accesses.result (λ list. list.items ≡ map (kept_of r.begin r.base) (beyond_hits es))) same c.recorded_accesses.ensures)
