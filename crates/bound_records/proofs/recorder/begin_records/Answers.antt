use Rattle.std.proofs.Common.{arith}
use Rattle.bound_records.specs.Recorders.{emptied_at, no_records}
use Rattle.bound_records.proofs.Lists.{by_index}
use Rattle.bound_records.proofs.recorder.begin_records.Goals as goal

pub returns : goal.returns
returns c = by_index (emptied_at c.args.begin) c.args.records.now _ (no_records 0 0 0) c.loop-record.auto.record-items (λ i below. c.loop-record.invariant.done i (omega (arith, below, c.loop-record-test.false)))
