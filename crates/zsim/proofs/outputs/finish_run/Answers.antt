-- There are two files at most.
use Rattle.std.proofs.Common.{◌≡◌, ◌⊎◌, List, ◌++◌, append-nil, ap, subst}
use Rattle.zsim.specs.declared.ended.Status.TheVariants as status
use Rattle.zsim.specs.Outputs.{NamedFile}
use Rattle.zsim.specs.Report.{report_of}
use Rattle.zsim.specs.Seen.{files_seen, sink_seen}
use Rattle.zsim.specs.Steps.{FinishesAs, IsUntouched, output_list}
use Rattle.zsim.proofs.outputs.finish_run.Goals as goal

pub returns : goal.returns
returns g c =
    let files = g.F.Files in
    let sink = g.O.Sink in
    let written = files_seen files.is_seen files.contents files.faults files.latest c.args.files.now c.finish.new.files in
    let out = sink_seen sink.is_seen sink.bytes sink.faults c.args.out.now c.finish.new.out in
    let text = report_of c.args.machine.now c.args.brief c.args.results.now in
    subst (λ (outputs : List NamedFile). ((c.finish.result ≡ status.NoMemory) × IsUntouched written out) ⊎ FinishesAs c.finish.result c.args.results.now.limit text outputs written out)
    (ap (λ (rest : List NamedFile). output_list c.args.schedule ++ rest) (append-nil (output_list c.args.events))) c.finish.ensures
