use Rattle.std.proofs.Common.{◌≡◌, ◌<◌, List, length, Some, refl, sym, ◌∙◌, ap, subst, arith}
use Rattle.std.specs.Prelude.{slice_get}
use Rattle.std.proofs.lemmas.List.{length-map}
use Rattle.zs_num.specs.declared.entry.Entry.{Entry}
use Rattle.access_record.specs.Laws.{kept_of}
use Rattle.access_record.specs.RecordLogs.{RecordLogState}
use Rattle.weave_chains.specs.Listed.{list_of}
use Rattle.bound_records.specs.Recorders.{RecorderState, kept_lists}
use Rattle.bound_records.proofs.ByCore.{cores_are, entries_by_log, list_at, listed}
use Rattle.bound_records.proofs.accesses.RecorderAccesses.access.Goals as goal

pub records_of-requires : goal.records_of-requires
records_of-requires c =
    let r : RecorderState = record { world = c.self.inside.port.world; lists = entries_by_log c.self.inside.logs.items; begin = c.self.inside.begin; base = c.self.inside.base; room = c.self.inside.room } in
    let banks = c.self.inside.banks in
    let logs = c.self.inside.logs.items in
    let records = c.self.inside.records.items in
    let counts = c.self.inside.counts.items in
    let are = cores_are r banks logs records counts c.self.invariant refl in
    let long : length c.deref.result.now ≡ length records = ap length c.deref.ensures.value in
    let there : c.args.place < length (list_of (kept_lists r) c.args.core) = subst (λ (x : RecorderState). c.args.place < length (list_of (kept_lists x) c.args.core)) (sym c.self.view_is) c.requires in
    let within : c.args.core < length (kept_lists r) = listed (kept_lists r) c.args.core c.args.place there in
    omega (arith, within, are, long)

pub entry-requires : goal.entry-requires
entry-requires c =
    let r : RecorderState = record { world = c.self.inside.port.world; lists = entries_by_log c.self.inside.logs.items; begin = c.self.inside.begin; base = c.self.inside.base; room = c.self.inside.room } in
    let banks = c.self.inside.banks in
    let logs = c.self.inside.logs.items in
    let records = c.self.inside.records.items in
    let counts = c.self.inside.counts.items in
    let kept = c.records_of.result.now in
    let there : slice_get records c.args.core ≡ Some kept = ap (λ (ls : List RecordLogState). slice_get ls c.args.core) (sym c.deref.ensures.value) ∙ c.records_of.ensures in
    let at = list_at r banks logs records counts c.self.invariant refl c.args.core kept there in
    let within : c.args.place < length (list_of (kept_lists r) c.args.core) = subst (λ (x : RecorderState). c.args.place < length (list_of (kept_lists x) c.args.core)) (sym c.self.view_is) c.requires in
    let long = ap length at ∙ length-map kept.entries (kept_of kept.begin kept.base) in
    omega (arith, within, long)

pub returns : goal.returns
returns c =
    let r : RecorderState = record { world = c.self.inside.port.world; lists = entries_by_log c.self.inside.logs.items; begin = c.self.inside.begin; base = c.self.inside.base; room = c.self.inside.room } in
    let banks = c.self.inside.banks in
    let logs = c.self.inside.logs.items in
    let records = c.self.inside.records.items in
    let counts = c.self.inside.counts.items in
    let kept = c.records_of.result.now in
    let there : slice_get records c.args.core ≡ Some kept = ap (λ (ls : List RecordLogState). slice_get ls c.args.core) (sym c.deref.ensures.value) ∙ c.records_of.ensures in
    let at = list_at r banks logs records counts c.self.invariant refl c.args.core kept there in
    ap (λ (x : RecorderState). slice_get (list_of (kept_lists x) c.args.core) c.args.place) (sym c.self.view_is) ∙ (ap (λ (ls : List Entry). slice_get ls c.args.place) at ∙ c.entry.ensures.entry)
