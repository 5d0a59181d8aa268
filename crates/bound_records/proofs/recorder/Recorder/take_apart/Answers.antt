use Rattle.std.proofs.Common.{refl, ◌∙◌}
use Rattle.bound_records.specs.Recorders.{RecorderState}
use Rattle.bound_records.proofs.ByCore.{entries_by_log}
use Rattle.bound_records.proofs.TakenApart.{new_parts}
use Rattle.bound_records.proofs.recorder.Recorder.take_apart.Goals as goal

pub returns : goal.returns
returns c =
    let i = c.self.inside in
    let now : RecorderState = record { world = i.port.world; lists = entries_by_log i.logs.items; begin = i.begin; base = i.base; room = i.room } in
    new_parts c.args.self now c.args.begin i.banks i.logs.items i.records.items i.counts.items c.self.invariant (c.self.view_is ∙ c.restart.ensures) refl
    (record { port = i.port; banks = i.banks; records = c.joined.result; begin = i.begin; base = i.base; room = i.room })
    refl refl refl refl refl c.joined.ensures.logs c.joined.ensures.records c.joined.ensures.counts
