-- The steps that were told are those of the run.
use Rattle.std.proofs.Common.{◌≡◌, ◌∙◌, ◌++◌, ap}
use Rattle.zsim.specs.Seen.{files_seen, sink_seen}
use Rattle.zprof.specs.CommandValue.{profiling_value}
use Rattle.zprof.proofs.Profiles.{profiles_as}
use Rattle.zprof.proofs.profile_run.profile_under.Goals as goal

pub returns-in-Ok-clause-profiles : goal.returns-in-Ok-clause-profiles
returns-in-Ok-clause-profiles g c =
    let files = g.F.Files in
    let sink = g.O.Sink in
    let written = files_seen files.is_seen files.contents files.faults files.latest c.args.files.now c.write_profile.new.files in
    let out = sink_seen sink.is_seen sink.bytes sink.faults c.args.out.now c.write_profile.new.out in
    let command = profiling_value c.args.command.now in
    let made = c.in-Ok.ensures in
    let steps = made.told.0 in
    let told = c.trace.new.tracer.first.steps in
    let is : told ≡ steps = made.told.2 ∙ ap (λ w. w.first.steps ++ steps) c.watched-watched.ensures in
    profiles_as c.write_profile.result c.args.machine.now c.args.image.now command c.args.schedule.now written out c.in-Ok.results made.gives made.counted
    steps told made.told.1 is c.write_profile.ensures
