use Rattle.std.proofs.Common.{refl, ◌∙◌, ap}
use Rattle.bound_records.specs.Recorders.{RecorderState, counts_in}
use Rattle.bound_records.proofs.ByCore.{counts_are, entries_by_log}
use Rattle.bound_records.proofs.recorder.Recorder.counts.Goals as goal

pub returns : goal.returns
returns c =
    let r : RecorderState = record { world = c.self.inside.port.world; lists = entries_by_log c.self.inside.logs.items; begin = c.self.inside.begin; base = c.self.inside.base; room = c.self.inside.room } in
    let banks = c.self.inside.banks in
    let logs = c.self.inside.logs.items in
    let records = c.self.inside.records.items in
    let counts = c.self.inside.counts.items in
    c.deref.ensures.value ∙ (counts_are r banks logs records counts c.self.invariant refl ∙ ap counts_in c.self.view_is)
