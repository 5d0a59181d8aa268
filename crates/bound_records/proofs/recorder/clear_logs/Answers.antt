use Rattle.std.proofs.Common.{arith}
use Rattle.bound_records.specs.Recorders.{emptied, no_log}
use Rattle.bound_records.proofs.Lists.{by_index}
use Rattle.bound_records.proofs.recorder.clear_logs.Goals as goal

pub returns : goal.returns
returns c = by_index emptied c.args.logs.now _ (no_log 1 0 0) c.loop-log.auto.log-items (λ i below. c.loop-log.invariant.done i (omega (arith, below, c.loop-log-test.false)))
