-- A file was written, or there was none.
use Rattle.std.proofs.Common.{refl, ap}
use Rattle.zsim.specs.Seen.{files_seen}
use Rattle.zsim.specs.Steps.{output_list}
use Rattle.zsim.proofs.OutputsDone.{none_written, written_as}
use Rattle.zsim.proofs.outputs.write_file.Goals as goal

pub returns-in-Some : goal.returns-in-Some
returns-in-Some g c =
    let files = g.F.Files in
    let file = c.in-Some.file in
    let writes = c.write.ensures in
    written_as c.write.result (output_list c.args.file) (files_seen files.is_seen files.contents files.faults files.latest c.args.files.now c.write.new.self)
    file.name.now file.bytes.now (ap output_list c.in-Some.is) writes.written writes.cut writes.others writes.faults

pub returns-in-None : goal.returns-in-None
returns-in-None g c =
    let files = g.F.Files in (
      record { faults = refl; latest = refl },
      none_written (output_list c.args.file) (files_seen files.is_seen files.contents files.faults files.latest c.args.files.now c.args.files.now)
          (ap output_list c.in-None.is) (λ _ _. refl),
    )
