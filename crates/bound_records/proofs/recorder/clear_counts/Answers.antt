use Rattle.std.proofs.Common.{arith}
use Rattle.stats.specs.Counted.{no_core_count}
use Rattle.bound_records.specs.Recorders.{uncounted}
use Rattle.bound_records.proofs.Lists.{by_index}
use Rattle.bound_records.proofs.recorder.clear_counts.Goals as goal

pub returns : goal.returns
returns c = by_index uncounted c.args.counts.now _ no_core_count c.loop-count.auto.count-items (λ i below. c.loop-count.invariant.done i (omega (arith, below, c.loop-count-test.false)))
