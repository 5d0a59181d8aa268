use Rattle.std.proofs.Common.{◌∙◌, sym, arith}
use Rattle.execution_counts.specs.Counted.{counted}
use Rattle.execution_counts.proofs.NextCounted.{one_further}
use Rattle.execution_counts.proofs.counts.ExecutionCounts.near.Goals as goal

pub loop-place-preserved : goal.loop-place-preserved
loop-place-preserved c = record {
  none = one_further (counted c.args.self.now c.args.core) c.args.from c.loop-place.place c.loop-place.invariant.none (sym c.get.ensures ∙ c.if-get-ne0.false);
}

pub returns-clause-near : goal.returns-clause-near
returns-clause-near c = λ n le lt. c.loop-place.invariant.none n le (omega (arith, lt, c.loop-place-test.false, c.loop-place.auto.place-end))
