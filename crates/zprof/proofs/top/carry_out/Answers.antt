-- Each way in which a command comes to its end.
use Rattle.std.proofs.Common.{inl, inr, refl}
use Rattle.zsim.specs.CommandLine.{exe_file}
use Rattle.zsim.specs.Ended.{IsExeOf}
use Rattle.zsim.specs.Seen.{files_seen, sink_seen}
use Rattle.zsim.specs.Setup.{image_by}
use Rattle.zsim.proofs.FilesSoFar.{exe_stays, exe_was_read, not_taken, still_quiet, text_stays}
use Rattle.zprof.specs.CommandValue.{profiling_value}
use Rattle.zprof.proofs.Later.{looks_later}
use Rattle.zprof.proofs.Looked.{ends_as}
use Rattle.zprof.proofs.top.carry_out.Goals as goal

-- the executable was not taken
pub returns-in-Err-take_exe-clause-ended : goal.returns-in-Err-take_exe-clause-ended
returns-in-Err-take_exe-clause-ended g c =
    let files = g.F.Files in
    let start = c.args.files.now in
    let read = c.take_machine.new.files in
    let loaded = c.take_exe.new.files in
    let command = profiling_value c.args.command.now in
    let machine = c.in-Ok.machine in
    let first = c.in-Ok.ensures.takes in
    let text = text_stays files.is_seen files.contents files.faults files.latest start read loaded command.machine c.take_machine.new.text first.1 in
    let not = not_taken files.is_seen files.contents files.faults files.latest start read loaded first.2 (λ seen. IsExeOf seen machine command.exe) (image_by machine) (exe_file command.exe)
    c.in-Err-take_exe.status c.take_exe.new.bytes (exe_was_read files.is_seen files.contents files.faults files.latest start read loaded first.2 machine command.exe) c.in-Err-take_exe.ensures.takes in
    inr (inl (
      record {
        machine = machine;
        taken = record { is = first.0; text = text; sound = c.in-Ok.ensures.valid };
        not = not;
        sched_file = c.requires.sched_file;
        schedule = c.new.ensures;
      },
      record { no_put = refl; nothing = λ _. refl },
    ))

-- it was taken, and there was no schedule, or the run was looked at
pub returns-clause-ended : goal.returns-clause-ended
returns-clause-ended g c =
    let files = g.F.Files in
    let sink = g.O.Sink in
    let start = c.args.files.now in
    let read = c.take_machine.new.files in
    let loaded = c.take_exe.new.files in
    let end = c.profile_run.new.files in
    let seen = files_seen files.is_seen files.contents files.faults files.latest start end in
    let out = sink_seen sink.is_seen sink.bytes sink.faults c.args.out.now c.profile_run.new.out in
    let command = profiling_value c.args.command.now in
    let machine = c.in-Ok.machine in
    let image = c.in-Ok-take_exe.image in
    let first = c.in-Ok.ensures.takes in
    let second = c.in-Ok-take_exe.ensures.takes in
    let quiet = still_quiet files.is_seen files.contents files.faults files.latest start read loaded first.2 second.2 in
    let text = text_stays files.is_seen files.contents files.faults files.latest start read end command.machine c.take_machine.new.text first.1 in
    let bytes = exe_was_read files.is_seen files.contents files.faults files.latest start read loaded first.2 machine command.exe c.take_exe.new.bytes second.1 in
    let bytes_stay = exe_stays files.is_seen files.contents files.faults files.latest start loaded end machine command.exe c.take_exe.new.bytes bytes in
    let looks = looks_later files.is_seen files.contents files.faults files.latest start loaded end quiet c.profile_run.result machine image command command.schedule
    c.profile_run.new.schedule c.profile_run.new.sched_file out c.profile_run.ensures.looks in
    ends_as c.profile_run.result machine image command _ seen out
    (record { taken = record { is = first.0; text = text; sound = c.in-Ok.ensures.valid }; is = second.0; exe = bytes_stay })
    looks
