-- The schedule was read, and the executable was run under it.
use Rattle.std.proofs.Common.{inr}
use Rattle.zsim.specs.Seen.{sink_seen}
use Rattle.zsim.proofs.FilesSoFar.{replays_later, schedule_stays}
use Rattle.zsim.proofs.RunsAs.{under_its_schedule}
use Rattle.zsim.proofs.ScheduleCores.{schedule_cores}
use Rattle.zsim.proofs.top.replay_file.Goals as goal

pub replay_and_report-requires-clause-cores : goal.replay_and_report-requires-clause-cores
replay_and_report-requires-clause-cores g c = schedule_cores c.args.machine.now c.take_schedule.new.bytes c.in-Ok.read c.in-Ok.ensures.takes.0

pub returns-clause-replay : goal.returns-clause-replay
returns-clause-replay g c =
    let files = g.F.Files in
    let sink = g.O.Sink in
    let start = c.args.files.now in
    let read = c.take_schedule.new.files in
    let end = c.replay_and_report.new.files in
    let taken = c.in-Ok.ensures.takes in
    inr (
      taken.0,
      schedule_stays files.is_seen files.contents files.faults files.latest start read end c.args.name.now c.take_schedule.new.bytes taken.1,
      replays_later files.is_seen files.contents files.faults files.latest start read end taken.2 c.replay_and_report.result c.args.machine.now c.args.image.now c.args.brief
          c.in-Ok.read (sink_seen sink.is_seen sink.bytes sink.faults c.args.out.now c.replay_and_report.new.out) c.replay_and_report.ensures.replay,
    )

pub returns-clause-untouched : goal.returns-clause-untouched
returns-clause-untouched g c =
    under_its_schedule c.args.machine.now c.args.image.now c.in-Ok.read c.take_schedule.new.bytes c.args.out.now c.replay_and_report.new.out c.in-Ok.ensures.takes.0
    c.replay_and_report.ensures.untouched
