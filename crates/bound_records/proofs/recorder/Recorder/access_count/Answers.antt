use Rattle.std.proofs.Common.{◌<◌, ◌^◌, List, length, refl, sym, ◌∙◌, ap, subst}
use Rattle.zs_num.specs.declared.entry.Entry.{Entry}
use Rattle.access_record.specs.BankLogs.{BankLogState, entries_in}
use Rattle.bound_records.specs.Recorders.{RecorderState, entries_of}
use Rattle.bound_records.proofs.ByCore.{entries_are, entries_by_log}
use Rattle.bound_records.proofs.recorder.Recorder.access_count.Goals as goal

pub count_all-requires : goal.count_all-requires
count_all-requires c =
    let r : RecorderState = record { world = c.self.inside.port.world; lists = entries_by_log c.self.inside.logs.items; begin = c.self.inside.begin; base = c.self.inside.base; room = c.self.inside.room } in
    let banks = c.self.inside.banks in
    let logs = c.self.inside.logs.items in
    let records = c.self.inside.records.items in
    let counts = c.self.inside.counts.items in
    let few = subst (λ (x : RecorderState). length (entries_of x) < 2 ^ 32) (sym c.self.view_is) c.requires in
    let few_in : length (entries_in logs) < 2 ^ 32 = subst (λ (es : List Entry). length es < 2 ^ 32) (entries_are r banks logs records counts c.self.invariant refl) few in
    subst (λ (ls : List BankLogState). length (entries_in ls) < 2 ^ 32) (sym c.deref.ensures.value) few_in

pub returns : goal.returns
returns c =
    let r : RecorderState = record { world = c.self.inside.port.world; lists = entries_by_log c.self.inside.logs.items; begin = c.self.inside.begin; base = c.self.inside.base; room = c.self.inside.room } in
    let banks = c.self.inside.banks in
    let logs = c.self.inside.logs.items in
    let records = c.self.inside.records.items in
    let counts = c.self.inside.counts.items in
    c.count_all.ensures ∙ (ap (λ (ls : List BankLogState). length (entries_in ls)) c.deref.ensures.value
    ∙ (sym (ap length (entries_are r banks logs records counts c.self.invariant refl)) ∙ ap (λ (x : RecorderState). length (entries_of x)) c.self.view_is))
