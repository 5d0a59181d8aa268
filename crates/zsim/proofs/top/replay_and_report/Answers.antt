-- The replay came to its end.
use Rattle.zsim.specs.Seen.{files_seen, sink_seen}
use Rattle.zsim.proofs.RunsAs.{replays_as}
use Rattle.zsim.proofs.top.replay_and_report.Goals as goal

pub returns-in-Ok-clause-replay : goal.returns-in-Ok-clause-replay
returns-in-Ok-clause-replay g c =
    let files = g.F.Files in
    let sink = g.O.Sink in
    replays_as c.args.machine.now c.args.image.now c.args.brief c.args.schedule.now c.in-Ok.results c.finish.result
    (files_seen files.is_seen files.contents files.faults files.latest c.args.files.now c.finish.new.files)
    (sink_seen sink.is_seen sink.bytes sink.faults c.args.out.now c.finish.new.out)
    (let file = c.each_run_has_one_events_file.ensures.there c.args.machine.now c.args.image.now c.args.schedule.now.lists c.in-Ok.results c.in-Ok.ensures.gives in
    record { run = c.in-Ok.ensures.gives; counted = c.in-Ok.ensures.counted; events = file.0; events_are = file.1 }) c.finish.ensures
