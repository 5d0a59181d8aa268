use Rattle.std.proofs.Common.{List, length, arith}
use Rattle.event_graph.specs.OneListWeave.{FiredEvent}
use Rattle.certify.specs.EventsFile.{interval_from}
use Rattle.certify.proofs.Reading.{is_kept, one_interval_more}
use Rattle.certify.proofs.reader.measure.Goals as goal

pub loop-interval-preserved : goal.loop-interval-preserved
loop-interval-preserved c =
    let so_far = c.loop-interval in
    let read = is_kept (interval_from c.args.comps.now c.args.file.now so_far.interval so_far.at) (λ (timed : List FiredEvent). length timed) c.in_ok-count.count c.in_ok-count.ensures.value in
    record {
      read = one_interval_more c.args.comps.now c.args.file.now c.in_ok-intervals.intervals so_far.interval so_far.at so_far.events read.0 c.in_ok-count.count so_far.invariant.read
          (omega (arith, c.loop-interval-test.true)) read.1 read.2;
      place = omega (arith, so_far.invariant.place);
      within = c.in_ok-count.ensures.within;
    }
