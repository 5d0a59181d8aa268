-- Each way in which a check comes to its end.
use Rattle.std.proofs.Common.{Some, option_map, inr, refl}
use Rattle.zsim.specs.declared.ended.Kept.{Kept}
use Rattle.zsim.specs.Checked.{CheckSeen, KeepsNoRun, checked_on}
use Rattle.zsim.specs.CommandValue.{checking_value}
use Rattle.zsim.specs.InputLengths.{events_limit}
use Rattle.zsim.specs.Seen.{WasRead, files_seen, sink_seen}
use Rattle.zsim.proofs.CheckEndings.{come_to_yes, no_events, no_machine, said}
use Rattle.zsim.proofs.FilesSoFar.{not_taken, still_quiet, text_stays, was_read}
use Rattle.zsim.proofs.checking.check_file.Goals as goal

-- the machine was not taken
pub returns-in-Err-clause-checked : goal.returns-in-Err-clause-checked
returns-in-Err-clause-checked g c =
    let files = g.F.Files in
    let sink = g.O.Sink in
    let was = c.args.kept.now in
    let seen : CheckSeen = record {
      command = checking_value c.args.command.now;
      files = files_seen files.is_seen files.contents files.faults files.latest c.args.files.now c.take_machine.new.files;
      out = sink_seen sink.is_seen sink.bytes sink.faults c.args.out.now c.args.out.now;
    } in
    let kept : Kept = record { machine = c.take_machine.new.text; exe = was.exe; sched_file = was.sched_file; schedule = was.schedule; events = was.events } in
    let no_run : KeepsNoRun kept = record { exe = c.requires.exe; sched_file = c.requires.sched_file; schedule = c.requires.schedule } in
    no_machine seen kept no_run c.in-Err.status c.in-Err.ensures.takes c.requires.events refl (λ _. refl)

-- the verdict is yes
pub returns-in-Ok-take_events-clause-checked : goal.returns-in-Ok-take_events-clause-checked
returns-in-Ok-take_events-clause-checked g c =
    let files = g.F.Files in
    let sink = g.O.Sink in
    let start = c.args.files.now in
    let read = c.take_machine.new.files in
    let end = c.take_events.new.files in
    let was = c.args.kept.now in
    let seen : CheckSeen = record {
      command = checking_value c.args.command.now;
      files = files_seen files.is_seen files.contents files.faults files.latest start end;
      out = sink_seen sink.is_seen sink.bytes sink.faults c.args.out.now c.say_yes.new.out;
    } in
    let kept : Kept = record { machine = c.take_machine.new.text; exe = was.exe; sched_file = was.sched_file; schedule = was.schedule; events = c.take_events.new.bytes } in
    let no_run : KeepsNoRun kept = record { exe = c.requires.exe; sched_file = c.requires.sched_file; schedule = c.requires.schedule } in
    let machine = c.in-Ok.machine in
    let first = c.in-Ok.ensures.takes in
    let there = c.fresh_components_are_there.ensures machine c.in-Ok.ensures.valid in
    let second = c.in-Ok-take_events.ensures.takes there.0 there.1 in
    let name = c.args.command.now.events.now in
    let text = text_stays files.is_seen files.contents files.faults files.latest start read end (option_map (λ n. n.now) c.args.command.now.machine) kept.machine first.1 in
    let bytes = was_read files.is_seen files.contents files.faults files.latest start read end first.2 name events_limit kept.events second.1 in
    let quiet = still_quiet files.is_seen files.contents files.faults files.latest start read end first.2 second.2 in
    said seen kept no_run machine first.0 c.in-Ok.ensures.valid there.0 there.1 text c.in-Ok-take_events.counts second.0 bytes quiet c.say_yes.result c.say_yes.ensures

pub returns-in-Ok-take_events-clause-untouched : goal.returns-in-Ok-take_events-clause-untouched
returns-in-Ok-take_events-clause-untouched g c =
    let files = g.F.Files in
    let sink = g.O.Sink in
    let start = c.args.files.now in
    let read = c.take_machine.new.files in
    let end = c.take_events.new.files in
    let was = c.args.kept.now in
    let seen : CheckSeen = record {
      command = checking_value c.args.command.now;
      files = files_seen files.is_seen files.contents files.faults files.latest start end;
      out = sink_seen sink.is_seen sink.bytes sink.faults c.args.out.now c.say_yes.new.out;
    } in
    let kept : Kept = record { machine = c.take_machine.new.text; exe = was.exe; sched_file = was.sched_file; schedule = was.schedule; events = c.take_events.new.bytes } in
    let no_run : KeepsNoRun kept = record { exe = c.requires.exe; sched_file = c.requires.sched_file; schedule = c.requires.schedule } in
    let machine = c.in-Ok.machine in
    let first = c.in-Ok.ensures.takes in
    let there = c.fresh_components_are_there.ensures machine c.in-Ok.ensures.valid in
    let second = c.in-Ok-take_events.ensures.takes there.0 there.1 in
    let name = c.args.command.now.events.now in
    let text = text_stays files.is_seen files.contents files.faults files.latest start read end (option_map (λ n. n.now) c.args.command.now.machine) kept.machine first.1 in
    let bytes = was_read files.is_seen files.contents files.faults files.latest start read end first.2 name events_limit kept.events second.1 in
    let quiet = still_quiet files.is_seen files.contents files.faults files.latest start read end first.2 second.2 in
    inr (come_to_yes seen kept no_run machine first.0 c.in-Ok.ensures.valid there.0 there.1 text c.in-Ok-take_events.counts second.0 bytes quiet)

-- the events were not taken
pub returns-clause-checked : goal.returns-clause-checked
returns-clause-checked g c =
    let files = g.F.Files in
    let sink = g.O.Sink in
    let start = c.args.files.now in
    let read = c.take_machine.new.files in
    let end = c.take_events.new.files in
    let was = c.args.kept.now in
    let seen : CheckSeen = record {
      command = checking_value c.args.command.now;
      files = files_seen files.is_seen files.contents files.faults files.latest start end;
      out = sink_seen sink.is_seen sink.bytes sink.faults c.args.out.now c.args.out.now;
    } in
    let kept : Kept = record { machine = c.take_machine.new.text; exe = was.exe; sched_file = was.sched_file; schedule = was.schedule; events = c.take_events.new.bytes } in
    let no_run : KeepsNoRun kept = record { exe = c.requires.exe; sched_file = c.requires.sched_file; schedule = c.requires.schedule } in
    let machine = c.in-Ok.machine in
    let first = c.in-Ok.ensures.takes in
    let there = c.fresh_components_are_there.ensures machine c.in-Ok.ensures.valid in
    let name = c.args.command.now.events.now in
    let text = text_stays files.is_seen files.contents files.faults files.latest start read end (option_map (λ n. n.now) c.args.command.now.machine) kept.machine first.1 in
    let not = not_taken files.is_seen files.contents files.faults files.latest start read end first.2 (λ seen. WasRead seen name events_limit) (checked_on there.0) (Some name) c.in-Err-take_events.status kept.events
    (was_read files.is_seen files.contents files.faults files.latest start read end first.2 name events_limit) (c.in-Err-take_events.ensures.takes there.0 there.1) in
    no_events seen kept no_run machine first.0 c.in-Ok.ensures.valid there.0 there.1 text c.in-Err-take_events.status not refl (λ _. refl)
