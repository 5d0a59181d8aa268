-- Each way in which a command comes to its end.
use Rattle.std.proofs.Common.{◌≡◌, None, Ok, option_map, refl, ap, ◌∙◌}
use Rattle.access_log.specs.Schedule.{ScheduleState}
use Rattle.zsim.specs.declared.ended.Kept.{Kept}
use Rattle.zsim.specs.CommandLine.{exe_file, replay, run}
use Rattle.zsim.specs.CommandValue.{execution_value, exe_value, task_value}
use Rattle.zsim.specs.Ended.{IsExeOf, KeepsAll, Seen}
use Rattle.zsim.specs.Seen.{files_seen, sink_seen}
use Rattle.zsim.specs.Setup.{Setup, image_by, setup_of}
use Rattle.zsim.proofs.Endings.{IsBefore, exe_not_taken, machine_not_taken, ran, replayed_file, untouched_or_replayed, untouched_or_run}
use Rattle.zsim.proofs.FilesSoFar.{exe_stays, exe_was_read, not_taken, replays_file_later, runs_later, still_quiet, text_stays}
use Rattle.zsim.proofs.top.carry_out.Goals as goal

-- the machine was not taken
pub returns-in-Err-clause-ended : goal.returns-in-Err-clause-ended
returns-in-Err-clause-ended g c =
    let files = g.F.Files in
    let sink = g.O.Sink in
    let seen : Seen = record {
      command = execution_value c.args.command.now;
      files = files_seen files.is_seen files.contents files.faults files.latest c.args.files.now c.take_machine.new.files;
      out = sink_seen sink.is_seen sink.bytes sink.faults c.args.out.now c.args.out.now;
    } in
    let kept : Kept = record { machine = c.take_machine.new.text; exe = c.args.kept.now.exe; sched_file = c.args.kept.now.sched_file; schedule = c.args.kept.now.schedule; events = c.args.kept.now.events } in
    let before : IsBefore seen kept = record { lists = ap (λ (l : ScheduleState). l.lists) c.requires.schedule; out = refl; nothing = λ _. refl } in
    machine_not_taken seen kept before c.in-Err.status c.in-Err.ensures.takes c.requires.exe c.requires.sched_file c.requires.schedule c.requires.events

-- the executable was not taken
pub returns-in-Err-take_exe-clause-ended : goal.returns-in-Err-take_exe-clause-ended
returns-in-Err-take_exe-clause-ended g c =
    let files = g.F.Files in
    let sink = g.O.Sink in
    let seen : Seen = record {
      command = execution_value c.args.command.now;
      files = files_seen files.is_seen files.contents files.faults files.latest c.args.files.now c.take_exe.new.files;
      out = sink_seen sink.is_seen sink.bytes sink.faults c.args.out.now c.args.out.now;
    } in
    let kept : Kept = record { machine = c.take_machine.new.text; exe = c.take_exe.new.bytes; sched_file = c.args.kept.now.sched_file; schedule = c.new.result; events = c.args.kept.now.events } in
    let before : IsBefore seen kept = record { lists = ap (λ (l : ScheduleState). l.lists) c.new.ensures; out = refl; nothing = λ _. refl } in
    let taken = c.in-Ok.ensures.takes in
    let exe = exe_value c.args.command.now.exe in
    let text = text_stays files.is_seen files.contents files.faults files.latest c.args.files.now c.take_machine.new.files c.take_exe.new.files
    (option_map (λ name. name.now) c.args.command.now.machine) c.take_machine.new.text taken.1 in
    let not = not_taken files.is_seen files.contents files.faults files.latest c.args.files.now c.take_machine.new.files c.take_exe.new.files taken.2
    (λ seen. IsExeOf seen c.in-Ok.machine exe) (image_by c.in-Ok.machine) (exe_file exe) c.in-Err-take_exe.status c.take_exe.new.bytes
    (exe_was_read files.is_seen files.contents files.faults files.latest c.args.files.now c.take_machine.new.files c.take_exe.new.files taken.2 c.in-Ok.machine exe)
    c.in-Err-take_exe.ensures.takes in
    exe_not_taken seen kept before c.in-Ok.machine taken.0 text c.in-Err-take_exe.status not c.requires.sched_file c.new.ensures

-- the executable was run
pub returns-in-Run-clause-ended : goal.returns-in-Run-clause-ended
returns-in-Run-clause-ended g c =
    let files = g.F.Files in
    let sink = g.O.Sink in
    let start = c.args.files.now in
    let read = c.take_machine.new.files in
    let loaded = c.take_exe.new.files in
    let end = c.run_and_report.new.files in
    let seen : Seen = record {
      command = execution_value c.args.command.now;
      files = files_seen files.is_seen files.contents files.faults files.latest start end;
      out = sink_seen sink.is_seen sink.bytes sink.faults c.args.out.now c.run_and_report.new.out;
    } in
    let kept : Kept = record { machine = c.take_machine.new.text; exe = c.take_exe.new.bytes; sched_file = c.args.kept.now.sched_file; schedule = c.run_and_report.new.schedule; events = c.args.kept.now.events } in
    let machine = c.in-Ok.machine in
    let image = c.in-Ok-take_exe.image in
    let first = c.in-Ok.ensures.takes in
    let second = c.in-Ok-take_exe.ensures.takes in
    let quiet = still_quiet files.is_seen files.contents files.faults files.latest start read loaded first.2 second.2 in
    let exe = exe_value c.args.command.now.exe in
    let is_run : seen.command.task ≡ run c.in-Run.workers (option_map (λ name. name.now) c.in-Run.record_to) (option_map (λ name. name.now) c.in-Run.events_to) = ap task_value c.in-Run.is in
    let setup : Setup = record { machine = machine; image = image; given = None } in
    let setup_is : setup_of seen.command kept ≡ Ok setup = rw (first.0, second.0, is_run) refl in
    let text = text_stays files.is_seen files.contents files.faults files.latest start read end (option_map (λ name. name.now) c.args.command.now.machine) kept.machine first.1 in
    let bytes = exe_was_read files.is_seen files.contents files.faults files.latest start read loaded first.2 machine exe kept.exe second.1 in
    let bytes_stay = exe_stays files.is_seen files.contents files.faults files.latest start loaded end machine exe kept.exe bytes in
    let cores : kept.schedule.cores ≡ machine.cores = c.run_and_report.ensures.cores ∙ ap (λ (l : ScheduleState). l.cores) c.new.ensures in
    let keeps : KeepsAll seen kept = record { machine = text; exe = rw first.0 bytes_stay; sched_file = rw is_run c.requires.sched_file; cores = rw first.0 cores } in
    let runs = runs_later files.is_seen files.contents files.faults files.latest start loaded end quiet c.run_and_report.result machine image c.args.command.now.brief
    (option_map (λ name. name.now) c.in-Run.record_to) (option_map (λ name. name.now) c.in-Run.events_to) kept.schedule seen.out c.run_and_report.ensures.run in
    ran seen kept keeps setup setup_is c.in-Ok.ensures.valid c.run_and_report.result c.in-Run.workers (option_map (λ name. name.now) c.in-Run.record_to) (option_map (λ name. name.now) c.in-Run.events_to) is_run refl
    c.run_and_report.ensures.in_order runs

pub returns-in-Run-clause-untouched : goal.returns-in-Run-clause-untouched
returns-in-Run-clause-untouched g c =
    let kept : Kept = record { machine = c.take_machine.new.text; exe = c.take_exe.new.bytes; sched_file = c.args.kept.now.sched_file; schedule = c.run_and_report.new.schedule; events = c.args.kept.now.events } in
    let command = execution_value c.args.command.now in
    let first = c.in-Ok.ensures.takes in
    let second = c.in-Ok-take_exe.ensures.takes in
    let is_run : command.task ≡ run c.in-Run.workers (option_map (λ name. name.now) c.in-Run.record_to) (option_map (λ name. name.now) c.in-Run.events_to) = ap task_value c.in-Run.is in
    let setup : Setup = record { machine = c.in-Ok.machine; image = c.in-Ok-take_exe.image; given = None } in
    let setup_is : setup_of command kept ≡ Ok setup = rw (first.0, second.0, is_run) refl in
    untouched_or_run command kept setup setup_is c.in-Ok.ensures.valid c.run_and_report.ensures.in_order c.args.out.now c.run_and_report.new.out c.run_and_report.ensures.untouched

-- the schedule was read, or not
pub returns-clause-ended : goal.returns-clause-ended
returns-clause-ended g c =
    let files = g.F.Files in
    let sink = g.O.Sink in
    let start = c.args.files.now in
    let read = c.take_machine.new.files in
    let loaded = c.take_exe.new.files in
    let end = c.replay_file.new.files in
    let seen : Seen = record {
      command = execution_value c.args.command.now;
      files = files_seen files.is_seen files.contents files.faults files.latest start end;
      out = sink_seen sink.is_seen sink.bytes sink.faults c.args.out.now c.replay_file.new.out;
    } in
    let kept : Kept = record { machine = c.take_machine.new.text; exe = c.take_exe.new.bytes; sched_file = c.replay_file.new.sched_file; schedule = c.replay_file.new.schedule; events = c.args.kept.now.events } in
    let machine = c.in-Ok.machine in
    let image = c.in-Ok-take_exe.image in
    let first = c.in-Ok.ensures.takes in
    let second = c.in-Ok-take_exe.ensures.takes in
    let quiet = still_quiet files.is_seen files.contents files.faults files.latest start read loaded first.2 second.2 in
    let exe = exe_value c.args.command.now.exe in
    let name = c.in-Replay.name.now in
    let is_replay : seen.command.task ≡ replay name = ap task_value c.in-Replay.is in
    let text = text_stays files.is_seen files.contents files.faults files.latest start read end (option_map (λ name. name.now) c.args.command.now.machine) kept.machine first.1 in
    let bytes = exe_was_read files.is_seen files.contents files.faults files.latest start read loaded first.2 machine exe kept.exe second.1 in
    let bytes_stay = exe_stays files.is_seen files.contents files.faults files.latest start loaded end machine exe kept.exe bytes in
    let replays = replays_file_later files.is_seen files.contents files.faults files.latest start loaded end quiet c.replay_file.result machine image c.args.command.now.brief
    name kept.schedule kept.sched_file seen.out c.replay_file.ensures.replay in
    replayed_file seen kept machine image name c.replay_file.result c.in-Ok.ensures.valid first.0 second.0 text bytes_stay is_replay replays

pub returns-clause-untouched : goal.returns-clause-untouched
returns-clause-untouched g c =
    let kept : Kept = record { machine = c.take_machine.new.text; exe = c.take_exe.new.bytes; sched_file = c.replay_file.new.sched_file; schedule = c.replay_file.new.schedule; events = c.args.kept.now.events } in
    let command = execution_value c.args.command.now in
    let name = c.in-Replay.name.now in
    let is_replay : command.task ≡ replay name = ap task_value c.in-Replay.is in
    untouched_or_replayed command kept c.in-Ok.machine c.in-Ok-take_exe.image name c.in-Ok.ensures.valid c.in-Ok.ensures.takes.0 c.in-Ok-take_exe.ensures.takes.0 is_replay
    c.args.out.now c.replay_file.new.out c.replay_file.ensures.untouched
