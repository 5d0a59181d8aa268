use Rattle.std.proofs.Common.{◌+◌, ◌*◌, arith}
use Rattle.event_graph.specs.OneListWeave.{FiredEvent}
use Rattle.certify.specs.EventsFile.{read_event}
use Rattle.certify.proofs.Reading.{is_kept, one_event_more}
use Rattle.certify.proofs.reader.interval_len.Goals as goal

pub loop-place-preserved : goal.loop-place-preserved
loop-place-preserved c =
    let place = c.loop-place.place in
    let read = is_kept (read_event c.args.comps.now c.args.file.now c.args.interval place (c.args.at + 4 + 64 * place)) (λ (x : FiredEvent). tt {0}) c.in_ok-record.field-0 c.in_ok-record.ensures.value in
    record {
      read = one_event_more c.args.comps.now c.args.file.now c.args.interval c.in_ok-count.count place (c.args.at + 4) read.0 c.loop-place.invariant.read (omega (arith, c.loop-place-test.true)) read.1;
      within = omega (arith, c.in_ok-record.ensures.within);
    }
