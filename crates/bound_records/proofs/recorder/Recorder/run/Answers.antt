use Rattle.std.proofs.Common.{ℕ, List, length, map, subst, sym, ap, ◌∙◌}
use Rattle.std.specs.Prelude.{slice_get}
use Rattle.zs_num.specs.declared.entry.Entry.{Entry}
use Rattle.event_graph.specs.PathInRange.{IsAccessPath}
use Rattle.bound_core.specs.ShardPort.{base_of, l1i_of, size_of}
use Rattle.bound_core.specs.ShardWorld.{ShardWorld}
use Rattle.bound_records.specs.CoreRuns.{CanRunInterval}
use Rattle.bound_records.specs.Recorders.{RecorderState, entries_of}
use Rattle.bound_records.proofs.ByHistory.{have_run, kept_run}
use Rattle.bound_records.proofs.Whole.{HaveEnded, begun_base, begun_size, ended_in_order, has_history, none_there, recorder_begun, room_for_all, world_begun}
use Rattle.bound_records.proofs.recorder.Recorder.run.Goals as goal

pub run_cores-requires-clause-recorder : goal.run_cores-requires-clause-recorder
run_cores-requires-clause-recorder g c κs within = recorder_begun c.args.machine.now c.saturating_sub.result c.args.self c.restart.new.self c.restart.ensures c.requires.recorder

pub run_cores-requires-clause-begin : goal.run_cores-requires-clause-begin
run_cores-requires-clause-begin g c κs within = ap (λ (r : RecorderState). r.begin) c.restart.ensures ∙ c.saturating_sub.ensures

pub run_cores-requires-clause-base : goal.run_cores-requires-clause-base
run_cores-requires-clause-base g c κs within = begun_base c.args.machine.now c.saturating_sub.result c.args.self c.restart.new.self c.restart.ensures c.requires.shards

pub run_cores-requires-clause-size : goal.run_cores-requires-clause-size
run_cores-requires-clause-size g c κs within = begun_size c.args.machine.now c.saturating_sub.result c.args.self c.restart.new.self c.restart.ensures c.requires.shards

pub run_cores-requires-clause-ready : goal.run_cores-requires-clause-ready
run_cores-requires-clause-ready g c κs within = λ i core here.
    let machine = c.args.machine.now in
    let world = world_begun machine c.saturating_sub.result c.args.self c.restart.new.self c.restart.ensures c.requires.recorder in
    subst (λ (w : ShardWorld). CanRunInterval machine c.args.end (base_of w) (size_of w) (l1i_of w) core.timed) (sym world) (c.requires.ready i core here)

pub run_cores-requires-clause-none : goal.run_cores-requires-clause-none
run_cores-requires-clause-none g c κs within = λ i es here. none_there (length c.args.self.lists) i es (ap (λ (r : RecorderState). slice_get r.lists i) (sym c.restart.ensures) ∙ here)

pub run_cores-requires-clause-room : goal.run_cores-requires-clause-room
run_cores-requires-clause-room g c κs within = room_for_all c.args.machine.now c.saturating_sub.result c.args.self c.restart.new.self c.restart.ensures c.requires.machine

pub returns-clause-run : goal.returns-clause-run
returns-clause-run g c =
    let machine = c.args.machine.now in
    let s = c.in_ok-recorder.recorder in
    let turns : List ℕ = map (λ (e : Entry). e.core) (entries_of s) in
    let ended : HaveEnded machine c.args.program.now c.args.end turns (entries_of s) c.args.cores.now c.run_cores.new.cores c.restart.new.self s =
    ended_in_order machine c.args.program.now c.args.end c.args.cores.now c.run_cores.new.cores c.restart.new.self s c.requires.count c.in_ok-recorder.ensures
    in
    have_run machine c.args.program.now c.args.end turns (entries_of s) c.args.cores.now c.run_cores.new.cores c.args.self s c.requires.machine
    (has_history machine c.saturating_sub.result c.args.cores.now c.args.self c.restart.new.self c.requires.recorder c.restart.ensures c.requires.count
    c.args.program.now c.args.end turns (entries_of s) c.run_cores.new.cores s c.requires.shards.some ended (c.phases_are_histories.ensures _ c.args.program.now c.args.end) c.saturating_sub.ensures)
    c.stamps_rise.ensures c.cores_decide_the_order.ensures c.recorded_order_keeps_the_stamps.ensures

pub returns-clause-kept : goal.returns-clause-kept
returns-clause-kept g c =
    let machine = c.args.machine.now in
    let s = c.in_ok-recorder.recorder in
    let turns : List ℕ = map (λ (e : Entry). e.core) (entries_of s) in
    let ended : HaveEnded machine c.args.program.now c.args.end turns (entries_of s) c.args.cores.now c.run_cores.new.cores c.restart.new.self s =
    ended_in_order machine c.args.program.now c.args.end c.args.cores.now c.run_cores.new.cores c.restart.new.self s c.requires.count c.in_ok-recorder.ensures
    in
    kept_run machine c.args.program.now c.args.end turns (entries_of s) c.args.cores.now c.run_cores.new.cores c.args.self s c.requires.machine
    (has_history machine c.saturating_sub.result c.args.cores.now c.args.self c.restart.new.self c.requires.recorder c.restart.ensures c.requires.count
    c.args.program.now c.args.end turns (entries_of s) c.run_cores.new.cores s c.requires.shards.some ended (c.phases_are_histories.ensures _ c.args.program.now c.args.end) c.saturating_sub.ensures)
    c.stamps_rise.ensures c.cores_decide_the_order.ensures c.recorded_order_keeps_the_stamps.ensures
    c.records_stand_for_accesses.ensures c.records_keep_each_access.ensures c.records_keep_the_events.ensures c.net_accesses_have_few_events.ensures c.net_accesses_beyond_hits_have_events.ensures c.net_events_are_in_a_row.ensures
    (subst IsAccessPath c.requires.net c.args.net.now.in_range)
