-- The report was written, and behind it the files; or memory ran out before.
use Rattle.std.proofs.Common.{List, subst, sym}
use Rattle.std.specs.List.{flat_map}
use Rattle.zsim.specs.Outputs.{NamedFile}
use Rattle.zsim.specs.Seen.{files_seen, sink_seen}
use Rattle.zsim.specs.Steps.{output_list}
use Rattle.zprof.specs.CommandValue.{profiling_value}
use Rattle.zprof.specs.ProfileFiles.{AreFilesOf}
use Rattle.zprof.proofs.Profiles.{writes_as}
use Rattle.zprof.proofs.written.write_profile.Goals as goal

pub returns : goal.returns
returns g c =
    let files = g.F.Files in
    let sink = g.O.Sink in
    let written = files_seen files.is_seen files.contents files.faults files.latest c.args.files.now c.finish.new.files in
    let out = sink_seen sink.is_seen sink.bytes sink.faults c.args.out.now c.finish.new.out in
    let machine = c.args.machine.now in
    let command = profiling_value c.args.command.now in
    let steps = c.args.watched.now.first.steps in
    let results = c.args.results.now in
    let are = subst (λ (fs : List NamedFile). AreFilesOf machine command steps results fs) (sym c.outputs-outputs.ensures) c.in-Ok.ensures in
    writes_as c.finish.result machine command steps results (flat_map output_list c.outputs-outputs.result) written out are c.finish.ensures
