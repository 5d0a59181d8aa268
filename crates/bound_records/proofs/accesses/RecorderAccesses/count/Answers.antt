use Rattle.std.proofs.Common.{◌≡◌, List, length, Some, refl, sym, ◌∙◌, ap, arith}
use Rattle.std.specs.Prelude.{slice_get}
use Rattle.std.proofs.lemmas.List.{length-map}
use Rattle.access_record.specs.Laws.{kept_of}
use Rattle.access_record.specs.RecordLogs.{RecordLogState}
use Rattle.weave_chains.specs.Listed.{list_of}
use Rattle.bound_records.specs.Recorders.{RecorderState, kept_lists}
use Rattle.bound_records.proofs.ByCore.{cores_are, entries_by_log, list_at}
use Rattle.bound_records.proofs.accesses.RecorderAccesses.count.Goals as goal

pub records_of-requires : goal.records_of-requires
records_of-requires c =
    let r : RecorderState = record { world = c.self.inside.port.world; lists = entries_by_log c.self.inside.logs.items; begin = c.self.inside.begin; base = c.self.inside.base; room = c.self.inside.room } in
    let banks = c.self.inside.banks in
    let logs = c.self.inside.logs.items in
    let records = c.self.inside.records.items in
    let counts = c.self.inside.counts.items in
    let are = cores_are r banks logs records counts c.self.invariant refl in
    let same : length (kept_lists r) ≡ length (kept_lists c.args.self.now) = ap (λ (x : RecorderState). length (kept_lists x)) c.self.view_is in
    let long : length c.deref.result.now ≡ length records = ap length c.deref.ensures.value in
    omega (arith, c.requires, are, same, long)

pub returns : goal.returns
returns c =
    let r : RecorderState = record { world = c.self.inside.port.world; lists = entries_by_log c.self.inside.logs.items; begin = c.self.inside.begin; base = c.self.inside.base; room = c.self.inside.room } in
    let banks = c.self.inside.banks in
    let logs = c.self.inside.logs.items in
    let records = c.self.inside.records.items in
    let counts = c.self.inside.counts.items in
    let kept = c.records_of.result.now in
    let there : slice_get records c.args.core ≡ Some kept = ap (λ (ls : List RecordLogState). slice_get ls c.args.core) (sym c.deref.ensures.value) ∙ c.records_of.ensures in
    let at = list_at r banks logs records counts c.self.invariant refl c.args.core kept there in
    c.len.ensures.count ∙ (sym (ap length at ∙ length-map kept.entries (kept_of kept.begin kept.base)) ∙ ap (λ (x : RecorderState). length (list_of (kept_lists x) c.args.core)) c.self.view_is)
