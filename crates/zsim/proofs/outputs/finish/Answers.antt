-- How far the outputs came.
use Rattle.std.proofs.Common.{◌≡◌, inl, inr, refl, rules}
use Rattle.std.specs.List.{flat_map}
use Rattle.zsim.specs.Ended.{status_at}
use Rattle.zsim.specs.Report.{report_of}
use Rattle.zsim.specs.Seen.{files_seen, sink_seen}
use Rattle.zsim.specs.Steps.{output_list}
use Rattle.zsim.proofs.OutputsDone.{gained, gained_part, put_failed, put_no_memory, write_failed, write_no_memory}
use Rattle.zsim.proofs.outputs.finish.Goals as goal

-- nothing was put
pub returns-in-Err : goal.returns-in-Err
returns-in-Err g c =
    inl (
      refl,
      record {
        quiet = record { no_fault = record { faults = refl; latest = refl }; names = λ _ _. refl };
        no_put = refl;
        nothing = λ _. refl;
      },
    )

-- the report was cut short
pub returns-in-Err-Failed : goal.returns-in-Err-Failed
returns-in-Err-Failed g c =
    let sink = g.O.Sink in
    let out = sink_seen sink.is_seen sink.bytes sink.faults c.args.out.now c.put_all.new.sink in
    let text = report_of c.args.machine.now c.args.brief c.args.results.now in
    inr (inr (inl (
      refl,
      gained_part out c.as_slice.result.now c.in-Ok.text text c.as_slice.ensures c.in-Ok.ensures c.in-Err-Failed.ensures.cut,
      put_failed c.in-Err-Failed.field-0 out.faults_before out.faults_after c.in-Err-Failed.field-0-is c.in-Err-Failed.ensures.faults,
      record { no_fault = record { faults = refl; latest = refl }; names = λ _ _. refl },
    )))

pub returns-in-Err-NoMemory : goal.returns-in-Err-NoMemory
returns-in-Err-NoMemory g c =
    let sink = g.O.Sink in
    let out = sink_seen sink.is_seen sink.bytes sink.faults c.args.out.now c.put_all.new.sink in
    let text = report_of c.args.machine.now c.args.brief c.args.results.now in
    inr (inr (inr (inl (
      refl,
      gained_part out c.as_slice.result.now c.in-Ok.text text c.as_slice.ensures c.in-Ok.ensures c.in-Err-NoMemory.ensures.cut,
      put_no_memory c.in-Err-NoMemory.field-0 out.faults_before out.faults_after c.in-Err-NoMemory.field-0-is c.in-Err-NoMemory.ensures.faults,
      record { no_fault = record { faults = refl; latest = refl }; names = λ _ _. refl },
    ))))

-- the report was put, and the file was written, if there is one
pub returns-in-Ok-write_files : goal.returns-in-Ok-write_files
returns-in-Ok-write_files g c =
    let sink = g.O.Sink in
    let out = sink_seen sink.is_seen sink.bytes sink.faults c.args.out.now c.put_all.new.sink in
    let text = report_of c.args.machine.now c.args.brief c.args.results.now in
    let is : c.status_of.result ≡ status_at c.args.results.now.limit = search rules in
    inr (inl (
      is,
      gained out c.as_slice.result.now c.in-Ok.text text c.as_slice.ensures c.in-Ok.ensures c.in-Ok-put_all.ensures.all,
      c.in-Ok-put_all.ensures.faults,
      c.in-Ok-write_files.ensures.0,
      c.in-Ok-write_files.ensures.1,
    ))

-- the report was put, and the file was cut short
pub returns-in-Err-Failed-write_files : goal.returns-in-Err-Failed-write_files
returns-in-Err-Failed-write_files g c =
    let files = g.F.Files in
    let written = files_seen files.is_seen files.contents files.faults files.latest c.args.files.now c.write_files.new.files in
    let sink = g.O.Sink in
    let out = sink_seen sink.is_seen sink.bytes sink.faults c.args.out.now c.put_all.new.sink in
    let text = report_of c.args.machine.now c.args.brief c.args.results.now in
    inr (inr (inr (inr (inl (
      refl,
      gained out c.as_slice.result.now c.in-Ok.text text c.as_slice.ensures c.in-Ok.ensures c.in-Ok-put_all.ensures.all,
      c.in-Ok-put_all.ensures.faults,
      write_failed c.in-Err-Failed-write_files.field-0 (flat_map output_list c.args.outputs.now) written c.in-Err-Failed-write_files.field-0-is c.in-Err-Failed-write_files.ensures,
    )))))

pub returns : goal.returns
returns g c =
    let files = g.F.Files in
    let written = files_seen files.is_seen files.contents files.faults files.latest c.args.files.now c.write_files.new.files in
    let sink = g.O.Sink in
    let out = sink_seen sink.is_seen sink.bytes sink.faults c.args.out.now c.put_all.new.sink in
    let text = report_of c.args.machine.now c.args.brief c.args.results.now in
    let cut = write_no_memory c.in-Err-NoMemory-write_files.field-0 (flat_map output_list c.args.outputs.now) written c.in-Err-NoMemory-write_files.field-0-is c.in-Err-NoMemory-write_files.ensures in
    inr (inr (inr (inr (inr (
      refl,
      gained out c.as_slice.result.now c.in-Ok.text text c.as_slice.ensures c.in-Ok.ensures c.in-Ok-put_all.ensures.all,
      c.in-Ok-put_all.ensures.faults,
      cut.0,
      cut.1,
    )))))
